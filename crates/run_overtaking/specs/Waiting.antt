-- Calls that wait in the queue word, where they stand, and which seats are held back from returning.
use Rattle.std.specs.Prelude.{◌≡◌, ℕ, suc, ◌==◌, ◌&&◌, nat_lt, not, if◌then◌else◌, Bool, true, false, List, [], ◌∷◌, Option, Some, None}
use Rattle.word_fields.specs.Records.{record_phase, record_number}
use Rattle.word_fields.specs.Seats.{queue_seats}
use Rattle.help_queue.specs.Gathers.{holds, leads, is_open}
use Rattle.help_queue_laws.specs.Runs.{queue_in, record_in}
use Rattle.fast_slow_engine.specs.declared.phases.Phase.{Phase}
use Rattle.fast_slow_engine.specs.declared.phases.Phase.TheVariants.{Idle, Begin, Look, Help}

-- where a seat stands among these, the head at 0; how many there are where it is none of them
abbrev pub position : ℕ → List ℕ → ℕ
position seat [] = 0
position seat (s ∷ seats) = if s == seat then 0 else suc (position seat seats)

-- a seat enters the queue word: its call is published there
abbrev pub enters : ℕ → ℕ → ℕ → Bool
enters queue queue' x = not (holds queue x) && holds queue' x

-- the call of the seat is in the queue word and not completed
pub record Waits (words : List ℕ) (x : ℕ) : Type 0 where
  pub published : holds (queue_in words) x ≡ true
  pub incomplete : is_open (record_phase (record_in words x)) ≡ true

-- u stands nearer to the head than x, and its call isn't completed: it returns only behind that completion
abbrev pub waits_ahead : ℕ → (ℕ → ℕ) → ℕ → ℕ → Bool
waits_ahead queue records u x = nat_lt (position u (queue_seats queue)) (position x (queue_seats queue)) && is_open (record_phase (records u))

-- the step is the look at the queue with which a call begins
abbrev pub looks : {S W : Type 0} → Phase S W → Bool
looks Look = true
looks _ = false

-- the number of the call of a head, where there is one: what a look finds
abbrev pub number_at : Option ℕ → (ℕ → ℕ) → ℕ
number_at None records = 0
number_at (Some head) records = record_number (records head)

-- the seat won't return before it has looked at the queue again, or before the head that it helps since its look has left:
-- that head still stands there with the call of the look
abbrev pub held_back : {S W : Type 0} → ℕ → (ℕ → ℕ) → ℕ → Phase S W → Bool
held_back queue records looked Idle = true
held_back queue records looked Begin = true
held_back queue records looked Look = true
held_back queue records looked (Help false help) = leads queue help.head && (record_number (records help.head) == looked)
held_back queue records looked _ = false
