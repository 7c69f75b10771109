-- A run opens with an empty queue.
use Rattle.std.proofs.Common.{◌≡◌, refl, ap, sym, ◌∙◌, ℕ, ◌<◌, ◌≤◌, length, arith, inl, inr}
use Rattle.std.specs.Prelude.{replicate, slice_index}
use Rattle.word_fields.specs.Records.{record_phase, record_number}
use Rattle.node_arena.specs.MemoryMap.{op_place, record_place, value_place}
use Rattle.node_arena.specs.Opening.{IsOpening, opening_words}
use Rattle.node_arena.proofs.ZerosOpen.{opening_each, length-opening_words}
use Rattle.node_arena.proofs.Openings.{opens_zero_at}
use Rattle.help_queue.specs.Gathers.{among_seats, holds, is_open}
use Rattle.help_queue_laws.specs.Ghosts.{no_ghosts}
use Rattle.help_queue_laws.proofs.Known.Scenes.{scene_of, IsOut, IsSound}
use Rattle.help_queue_laws.proofs.Known.Knowledge.{IsFree}
use Rattle.help_queue_laws.proofs.Known.Frames.{Agrees, frames_sound}
use Rattle.help_queue_laws.proofs.Steps.Results.{seat_word}
use Rattle.help_queue_laws.proofs.Runs.EveryRunHolds.{zeros, zero_phase, zero_number, zero_seats, opening_sound}
use Rattle.run_queue.specs.Premises.{IsQueuePlace}

-- the words of the queue are among the first
place_low : (place : ℕ) → IsQueuePlace place → place < 32
place_low place is = elim is [ inl queue ↦ omega (arith, queue) | inr (inl low) ↦ (let below = low.1 in omega (arith, below)) | inr (inr high) ↦ high.1 ]

module _ (opening : ℕ → ℕ) (opens : IsOpening opening) (cap : ℕ) where
  opening_zero : (place : ℕ) → IsQueuePlace place → opening place ≡ 0
  opening_zero place is = elim is [ inl queue ↦ opens_zero_at opening opens place (inl (omega (arith, queue))) | inr (inl low) ↦ opens_zero_at opening opens place (inl low.1) | inr (inr high) ↦ opens_zero_at opening opens place (inr high) ]

  is_zero : (place : ℕ) → IsQueuePlace place → slice_index (opening_words opening cap) place ≡ slice_index (replicate 32 0) place
  is_zero place is = opening_each opening cap place (let low = place_low place is in omega (arith, low)) ∙ opening_zero place is ∙ sym (zeros 32 place)

  opening_agrees : Agrees (replicate 32 0) (opening_words opening cap)
  opening_agrees = record {
    queue = is_zero 1 (inl refl);
    records = λ t few. is_zero (record_place t) (inr (inl (omega arith, omega (arith, few))));
    ops = λ t few. is_zero (op_place t) (inr (inl (omega arith, omega (arith, few))));
    values = λ t few. is_zero (value_place t) (inr (inr (omega arith, omega (arith, few))));
  }

  pub opens_sound : (seats : ℕ) → IsSound (scene_of (opening_words opening cap) no_ghosts)
  opens_sound seats = frames_sound seats 0 (replicate 32 0) (opening_words opening cap) no_ghosts opening_agrees opening_sound

  -- nobody is in the queue word
  pub opens_out : (t : ℕ) → IsOut (scene_of (opening_words opening cap) no_ghosts) t
  opens_out t = ap (λ q. holds q t) (is_zero 1 (inl refl) ∙ zeros 32 1) ∙ ap (among_seats t) zero_seats

  pub opens_zero : (t : ℕ) → t < 8 → slice_index (opening_words opening cap) (record_place t) ≡ 0
  opens_zero t few = opening_agrees.records t few ∙ zeros 32 (record_place t)

  pub opens_free : (i : ℕ) → i < 8 → IsFree (scene_of (opening_words opening cap) no_ghosts) i 1
  opens_free i few =
      let word : (scene_of (opening_words opening cap) no_ghosts).records i ≡ 0 = seat_word i _ few ∙ opens_zero i few in
      record { closed = ap (λ w. is_open (record_phase w)) word ∙ ap is_open zero_phase; number = let none = ap record_number word ∙ zero_number in omega (arith, none) }

  pub opens_long : 32 ≤ length (opening_words opening cap)
  opens_long = let long = length-opening_words opening cap in omega (arith, long)
