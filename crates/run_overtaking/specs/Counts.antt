-- What a run has shown of overtaking, as a fold over its moves: the returns of each seat while a call waits, how many it is
-- allowed, and which call was at the head when a seat looked.
use Rattle.std.specs.Prelude.{ℕ, suc, ◌-◌, ◌==◌, ◌&&◌, nat_lt, if◌then◌else◌, List, [], ◌∷◌, slice_get, Option, Some, None}
use Rattle.step_memory.specs.Step.{words_after}
use Rattle.word_fields.specs.Seats.{queue_seats}
use Rattle.normal_traits.specs.NormalForm.{NormalForm}
use Rattle.help_queue.specs.Heads.{head_of}
use Rattle.help_queue_laws.specs.Runs.{queue_in, record_in}
use Rattle.fast_slow_engine.specs.declared.phases.Phase.{Phase}
use Rattle.fast_slow_engine.specs.declared.setup.Setup.{Setup}
use Rattle.fast_slow_engine.specs.Mechs.{Mech}
use Rattle.fast_slow_engine.specs.PhaseTable.{mech_request, ends}
use Rattle.fast_slow_engine.specs.Runs.{Move, RunState, begun, run_of}
use Rattle.run_overtaking.specs.Waiting.{position, enters, looks, number_at}

-- `returned x u` counts the returns of u since x entered the queue word last, and `allowed x u` is how many it was allowed
-- then; `looked u` is the number of the call that was at the head when u looked last
pub record Counts : Type 0 where
  pub returned : ℕ → ℕ → ℕ
  pub allowed : ℕ → ℕ → ℕ
  pub looked : ℕ → ℕ

abbrev pub no_counts : Counts
no_counts = record { returned = λ x u. 0; allowed = λ x u. 0; looked = λ u. 0 }

-- how many returns of u are allowed while x waits, by the seats of the word that x has entered: one more than the place of x.
-- Where u stands ahead it is allowed as many fewer as its own place says, since it returns only once it is the head
abbrev pub allowance : ℕ → ℕ → List ℕ → ℕ
allowance x u seats = suc (position x seats) - (if nat_lt (position u seats) (position x seats) then position u seats else 0)

-- after a step of seat i in this phase, by which the words became others
abbrev pub counts_after : {S W : Type 0} → ℕ → Phase S W → List ℕ → List ℕ → Counts → Counts
counts_after i phase words words' counts =
    record {
      returned = λ x u. if enters (queue_in words) (queue_in words') x then 0 else (if ends phase && (u == i) then suc (counts.returned x u) else counts.returned x u);
      allowed = λ x u. if enters (queue_in words) (queue_in words') x then allowance x u (queue_seats (queue_in words')) else counts.allowed x u;
      looked = λ u. if looks phase && (u == i) then number_at (head_of (queue_in words)) (record_in words) else counts.looked u;
    }

module _ {S W : Type 0} (form : NormalForm S W) where
  -- after a step of a machine
  abbrev pub counts_stepped : ℕ → Mech S W → List ℕ → Counts → Counts
  counts_stepped i mech words counts = counts_after i mech.phase words (words_after (mech_request form mech) words) counts

  -- after a move
  abbrev pub counts_moved : Option (Mech S W) → Move → RunState S W → Counts → Counts
  counts_moved None move state counts = counts
  counts_moved (Some mech) move state counts = counts_stepped move.seat (begun move.begins mech) state.words counts

  -- the counts of moves, the newest first
  abbrev pub counts_of : Setup → List Move → Counts
  counts_of setup [] = no_counts
  counts_of setup (move ∷ older) = let state = run_of form setup older in counts_moved (slice_get state.mechs move.seat) move state (counts_of setup older)
