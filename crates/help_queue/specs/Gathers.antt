-- A gather over a queue word: the record words of the seats that aren't in it are loaded, in rising order of
-- seat, and the seats whose records are open are found. An exchange of the queue word puts them last in it.
use Rattle.std.specs.Prelude.{◌≡◌, ℕ, zero, suc, ◌+◌, ◌-◌, ◌%◌, ◌^◌, ◌<◌, ◌≤◌, ◌==◌, nat_lt, not, if◌then◌else◌, Bool, true, false, List, [], ◌∷◌, ◌++◌, drop, All}
use Rattle.std.specs.List.{list_any}
use Rattle.step_memory.specs.declared.steps.Request.{Request}
use Rattle.step_memory.specs.declared.steps.Request.TheVariants.{Load, Exchange}
use Rattle.word_fields.specs.declared.records.RecordPhase.{RecordPhase}
use Rattle.word_fields.specs.declared.records.RecordPhase.TheVariants.{Idle, Generate, Executing, Wrapping, Completed}
use Rattle.word_fields.specs.Records.{record_phase}
use Rattle.word_fields.specs.Seats.{AreSeats, queue_seats}
use Rattle.word_fields.specs.Queues.{queue_version, queue_word}
use Rattle.node_arena.specs.declared.places.TheConstants.{QUEUE}
use Rattle.node_arena.specs.MemoryMap.{record_place}

-- whether a seat is among these
abbrev pub among_seats : ℕ → List ℕ → Bool
among_seats seat seats = list_any (λ s. s == seat) seats

-- whether a queue word holds a seat
abbrev pub holds : ℕ → ℕ → Bool
holds word seat = among_seats seat (queue_seats word)

-- whether a seat is the first of these
abbrev pub is_first : ℕ → List ℕ → Bool
is_first seat [] = false
is_first seat (s ∷ seats) = s == seat

-- whether a seat is the head of a queue word
abbrev pub leads : ℕ → ℕ → Bool
leads word seat = is_first seat (queue_seats word)

-- a record in this phase is open: its call is published or about to be, and isn't completed
abbrev pub is_open : RecordPhase → Bool
is_open Idle = false
is_open Generate = true
is_open Executing = true
is_open Wrapping = true
is_open Completed = false

-- the first seat from `at` on, of so many, that the word doesn't hold; where it holds them all, the one
-- behind them
unfoldable pub first_out : ℕ → ℕ → ℕ → ℕ
first_out word at zero = at
first_out word at (suc count) = if holds word at then first_out word (at + 1) count else at

-- a gather among the seats below a number: the queue word over which it goes, the seat whose record is
-- loaded next, and the seats that were found
pub record Gathering : Type 0 where
  pub among : ℕ
  pub word : ℕ
  pub next : ℕ
  pub found : List ℕ

-- a gather over a word that was loaded
abbrev pub gather_begun : ℕ → ℕ → Gathering
gather_begun among word = record { among = among; word = word; next = first_out word 0 among; found = [] }

-- whether all records are loaded
abbrev pub gather_over : Gathering → Bool
gather_over g = not (nat_lt g.next g.among)

-- after the load of a record word
abbrev pub gather_fed : Gathering → ℕ → Gathering
gather_fed g record_word =
    record {
      among = g.among;
      word = g.word;
      next = first_out g.word (g.next + 1) (g.among - (g.next + 1));
      found = if is_open (record_phase record_word) then g.found ++ g.next ∷ [] else g.found;
    }

-- the queue word with these of its seats and the found ones behind them, and the version one higher
abbrev pub word_with : List ℕ → Gathering → ℕ
word_with kept g = queue_word (kept ++ g.found) ((queue_version g.word + 1) % 2 ^ 32)

-- the word that enters the found seats
abbrev pub entered_word : Gathering → ℕ
entered_word g = word_with (queue_seats g.word) g

-- the word that removes the head, and enters them
abbrev pub removed_word : Gathering → ℕ
removed_word g = word_with (drop 1 (queue_seats g.word)) g

-- the next request of a gather that ends with the exchange to a word
abbrev pub gather_request : Gathering → ℕ → Request
gather_request g to = if gather_over g then Exchange QUEUE g.word to else Load (record_place g.next)

-- what holds of a gather, whatever words it has seen
pub record IsGathering (g : Gathering) : Type 0 where
  pub few : g.among ≤ 8
  pub within : g.next ≤ g.among
  pub out : g.next < g.among → holds g.word g.next ≡ false
  pub below : All (λ s. s < g.next) g.found
  pub apart : AreSeats (queue_seats g.word ++ g.found)
