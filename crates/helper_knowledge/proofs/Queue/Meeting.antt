-- Where a helper wins an exchange of a record, it works on the running call of the head: by the queue, and by what the
-- record tells of that call.
use Rattle.std.proofs.Common.{◌≡◌, ◌∙◌, sym, subst, ap, ℕ, ◌<◌, inl, slice_get, slice_index, Option, Some}
use Rattle.word_fields.specs.declared.records.RecordPhase.TheVariants.{Generate, Executing}
use Rattle.word_fields.specs.Records.{record_of, record_phase, record_number, packed_record}
use Rattle.node_arena.specs.MemoryMap.{record_place}
use Rattle.normal_traits.specs.World.{Listed, World}
use Rattle.normal_traits.specs.NormalForm.{NormalForm}
use Rattle.help_queue_laws.specs.Runs.{record_in}
use Rattle.fast_slow_engine.specs.Mechs.{Mech}
use Rattle.fast_slow_engine.specs.Runs.{RunState}
use Rattle.offered_blocks.specs.Blocks.{Offer, IsExecuting}
use Rattle.offered_blocks.specs.Records.{RecordIsRight}
use Rattle.move_kinds.specs.Owned.{RecordKnown}
use Rattle.run_queue.specs.QueueLaws.{Wins}
use Rattle.helper_knowledge.specs.Callers.{called}
use Rattle.helper_knowledge.specs.Meetings.{Meets}

module _ {S W : Type 0} (form : NormalForm S W) (state : RunState S W) (world : World) (offers : ℕ → Option (Offer S)) (head word : ℕ) (mech : Mech S W) (count : ℕ) (small : head < 8)
    (words : (place : ℕ) → world.words place ≡ slice_index state.words place) (stood : record_in state.words head ≡ packed_record (record_of word)) (wins : Wins state head word)
    (found : slice_get state.mechs head ≡ Some mech) (seat_is : mech.seat ≡ head) (known : RecordKnown form world offers (called mech) count) where
  word_now : world.words (record_place mech.seat) ≡ word
  word_now = ap (λ s. world.words (record_place s)) seat_is ∙ words (record_place head) ∙ wins.stands

  number_now : record_number word ≡ mech.number
  number_now = sym (wins.owned mech found).0

  -- a list that is executed is the head's, whose record would be in Executing
  none_now : record_phase word ≡ Generate → (list : Listed) → ¬ IsExecuting world list
  none_now generates list executing =
      let at = words (record_place list.call.seat) in
      let phase = ap record_phase (sym at) ∙ executing.phase in
      let same = wins.alone list.call.seat executing.seated (inl phase) in
      let both : Generate ≡ Executing = sym generates ∙ ap record_phase (sym wins.stands) ∙ ap (λ s. record_phase (record_in state.words s)) (sym same) ∙ phase in
      absurd cc

  pub meeting : Meets form world offers head word (called mech) count
  meeting = record {
    small = small;
    stood = words (record_place head) ∙ stood;
    seat_is = seat_is;
    number_is = number_now;
    tells = subst (λ w. RecordIsRight form world offers (called mech) count (record_of w)) word_now (known (ap record_number word_now ∙ number_now));
    none = none_now;
  }
