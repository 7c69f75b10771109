-- What a won exchange of a record shows: the record is the one that was loaded, its seat is the head and makes that
-- call, and where a list is yet to be made none is executed.
use Rattle.std.proofs.Common.{◌≡◌, ◌∙◌, sym, subst, ap, ℕ, true, List, [], ◌∷◌, inl, inr}
use Rattle.std.proofs.lemmas.Bool.{eqb-true}
use Rattle.word_fields.specs.declared.records.RecordPhase.TheVariants.{Generate, Executing}
use Rattle.word_fields.specs.declared.records.RecordWord.{RecordWord}
use Rattle.word_fields.specs.Records.{record_phase, record_number, record_of, packed_record}
use Rattle.word_fields.specs.Seats.{queue_seats}
use Rattle.word_fields.proofs.RecordWords.{record_of-packed}
use Rattle.op_record.specs.Progress.{IsEarlier}
use Rattle.op_record.proofs.RecordOrder.{earlier_irreflexive}
use Rattle.help_queue.specs.Gathers.{is_first, is_open}
use Rattle.help_queue_laws.specs.declared.phases.QueuePhase.{QueuePhase}
use Rattle.help_queue_laws.proofs.Known.Scenes.{Scene, IsHead, IsSound}
use Rattle.help_queue_laws.proofs.Known.Knowledge.{IsHelped, PhaseFacts}
use Rattle.run_queue.proofs.Moves.Owners.{Publishes, open_owner}

pub one_first : (s t : ℕ) (seats : List ℕ) → is_first s seats ≡ true → is_first t seats ≡ true → s ≡ t
one_first s t [] h k = absurd cc
one_first s t (x ∷ xs) h k = sym (eqb-true x s h) ∙ eqb-true x t k

module _ (a : Scene) (sound : IsSound a) (s word : ℕ) (helped : IsHelped a s word) (won : a.records s ≡ packed_record (record_of word)) where
  -- the fields of the record are those that were loaded
  pub same_fields : record_of (a.records s) ≡ record_of word
  same_fields = ap record_of won ∙ record_of-packed (record_of word)

  pub is_head : IsHead a s
  is_head = elim helped [
    | inl now ↦ now.1
    | inr earlier ↦ absurd (earlier_irreflexive (record_of word) (subst (λ (r : RecordWord). IsEarlier (record_of word) r) same_fields earlier))
  ]

  pub same_phase : record_phase (a.records s) ≡ record_phase word
  same_phase = ap (λ (r : RecordWord). r.phase) same_fields

  pub same_number : record_number (a.records s) ≡ record_number word
  same_number = ap (λ (r : RecordWord). r.number) same_fields

  -- its seat makes that call, and publishes it
  pub is_made : (seats n : ℕ) (phase : QueuePhase) → is_open (record_phase word) ≡ true → PhaseFacts a seats s n phase → (record_number word ≡ n) × Publishes phase
  is_made seats n phase opened facts =
      let owner = open_owner a seats s n phase facts (ap is_open same_phase ∙ opened) in
      (sym same_number ∙ owner.0, owner.1)

  -- no list is executed
  pub none_executed : record_phase word ≡ Generate → (t : ℕ) → record_phase (a.records t) ≡ Executing → ⊥
  none_executed generates t executing =
      let head : IsHead a t = sound.engaged t (inl executing) in
      let same : t ≡ s = one_first t s (queue_seats a.queue) head is_head in
      let both : Executing ≡ Generate = sym executing ∙ ap (λ k. record_phase (a.records k)) same ∙ same_phase ∙ generates in
      absurd cc
