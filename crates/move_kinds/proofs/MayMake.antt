-- A move of any kind makes no change of a call whose record is that of the call, but of the list which the record names.
use Rattle.std.proofs.Common.{◌≡◌, ◌≢◌, ◌∙◌, refl, sym, subst, ap, ℕ, suc, ◌⊎◌, inl, inr, List, [], ◌∷◌, Bool, true, false, Option, Some, None, All, AllPairs, arith}
use Rattle.std.proofs.lemmas.List.Elements.{All-head, All-tail}
use Rattle.step_memory.specs.declared.steps.Seen.{Seen}
use Rattle.word_fields.specs.declared.records.RecordPhase.{RecordPhase}
use Rattle.word_fields.specs.declared.records.RecordPhase.TheVariants as phase
use Rattle.word_fields.specs.Payloads.{payload_block}
use Rattle.word_fields.specs.Records.{record_number, record_of, record_payload, record_phase}
use Rattle.node_arena.specs.MemoryMap.{record_place}
use Rattle.normal_traits.specs.declared.lists.Entry.{Entry}
use Rattle.normal_traits.specs.World.{Among, Called, Change, Listed, World}
use Rattle.normal_traits.specs.NormalForm.{NormalForm}
use Rattle.normal_traits.specs.Laws.{Laws}
use Rattle.normal_traits.specs.Steps.{IsStep, change_of, listed_if, put_word, with_change}
use Rattle.offered_blocks.specs.Blocks.{Offer}
use Rattle.offered_blocks.specs.Holds.{HasOffers}
use Rattle.offered_blocks.specs.HelperSteps.{Helps}
use Rattle.op_record.specs.Outcomes.{outcome_of}
use Rattle.offered_blocks.specs.Records.{IsCallsChange, Names, RecordIsRight}
use Rattle.offered_blocks.proofs.Blocks.Named.{some_offer}
use Rattle.offered_blocks.proofs.Helpers.Executes.{Executes}
use Rattle.offered_blocks.proofs.Helpers.Helping.{helps_did}
use Rattle.move_kinds.specs.Kinds.{IsUnannounced, Kind}
use Rattle.move_kinds.specs.Kinds.Kind.{quiet, counts, fills, announces, publishes, queues, names, settles, completes, restarts, executes, beside, enters}
use Rattle.move_kinds.specs.Owned.{AllOwned, IsNamedNow, IsOwned, RecordKnown}
use Rattle.move_kinds.specs.Owned.IsOwned.{unannounced, named, dead, changed}
use Rattle.move_kinds.specs.Telling.{MayMake}
use Rattle.move_kinds.proofs.HelperChanges.{new_change}
use Rattle.move_kinds.proofs.KindsLeave.{kind_leaves}
use Rattle.move_kinds.proofs.TellsKept.{tells_still}

none_in : {A : Type 0} (block : ℕ) → None ≡ Some block → A
none_in block e = absurd cc

abbrev DifferentLists : Change → Change → Type 0
DifferentLists a b = a.list.identity ≢ b.list.identity

all_of : (P : Change → Type 0) (changes : List Change) (change : Change) → All P changes → Among change changes → P change
all_of P [] change each among = absurd among
all_of P (x ∷ xs) change each (inl same) = subst P (sym same) (All-head P x xs each)
all_of P (x ∷ xs) change each (inr among) = all_of P xs change (All-tail P x xs each) among

-- the first differs from each other
first_differs : (x : Change) (xs : List Change) (change : Change) → AllPairs DifferentLists (x ∷ xs) → Among change xs → DifferentLists x change
first_differs x xs change pairs among = all_of (DifferentLists x) xs change (λ k d inside. pairs 0 (suc k) d (omega arith) (omega arith)) among

module _ {S W : Type 0} (form : NormalForm S W) (laws : Laws form) (world after : World) (offers offers' : ℕ → Option (Offer S)) (holds : HasOffers form world offers) (owned : AllOwned form world offers)
    (mover : ℕ) (hand : Option ℕ) (call : Called) (begun : ℕ) (number : record_number (world.words (record_place call.seat)) ≡ call.number) where
  abbrev word : ℕ
  word = world.words (record_place call.seat)

  -- the record names the list of this change
  abbrev OfNamed : Change → Type 0
  OfNamed change =
      ((record_phase word ≡ phase.Executing) ⊎ (record_phase word ≡ phase.Wrapping)) × ((n : Names form world offers call begun (payload_block (record_payload word))) → change.list ≡ n.offer.list)

  abbrev Only : Type 0
  Only = (change : Change) → Among change after.changes → IsCallsChange call change → Among change world.changes ⊎ OfNamed change

  same_changes : after.changes ≡ world.changes → Only
  same_changes same change among of = inl (subst (Among change) same among)

  put_changes : (place put : ℕ) → after ≡ put_word place put world → Only
  put_changes place put is = same_changes (ap (λ (w : World). w.changes) is)

  -- a list that the record of its call names, where this is its call
  named_of : (list : Listed) (change : Change) → change.list ≡ list → IsCallsChange call change → IsNamedNow world offers list → OfNamed change
  named_of list change is of now =
      let seat : list.call.seat ≡ call.seat = ap (λ (l : Listed). l.call.seat) (sym is) ∙ of.seat in
      let at : world.words (record_place list.call.seat) ≡ word = ap (λ s. world.words (record_place s)) seat in (
        elim now.phase [ inl executing ↦ inl (ap record_phase (sym at) ∙ executing) | inr wrapping ↦ inr (ap record_phase (sym at) ∙ wrapping) ],
        λ n. (let block : payload_block (record_payload word) ≡ list.block = ap (λ w. payload_block (record_payload w)) (sym at) ∙ now.block in
            let one : n.offer ≡ now.offer = some_offer n.offer now.offer (offers list.block) (subst (λ b. offers b ≡ Some n.offer) block n.stands) now.stands in
            is ∙ sym now.list_is ∙ ap (λ (o : Offer S). o.list) (sym one)),
      )

  -- ---- a helper

  executes_only : (block : ℕ) (offer : Offer S) (walk : _) (seen : Seen) → Executes form world after offers block offer walk seen → Only
  executes_only block offer walk seen is change among of =
      elim (new_change form world after offers holds.blocks block offer walk seen is change among) [
        | inl old ↦ inl old
        | inr made ↦
            let mine = holds.blocks.offered block offer is.stands in
            inr (named_of offer.list change made.0 of (record {
              offer = offer;
              stands = ap offers mine.block_is ∙ is.stands;
              list_is = refl;
              seated = made.1.seated;
              phase = inl made.1.phase;
              block = made.1.block;
            }))
      ]

  helps_only : (block : ℕ) (offer : Offer S) → offers block ≡ Some offer → Helps form world offer after → Only
  helps_only block offer stands helps =
      elim (helps_did form laws world offers holds block offer stands after helps) [
        | inl same ↦ same_changes (ap (λ (w : World). w.changes) same)
        | inr did ↦ executes_only block offer _ did.2.0 did.2.1
      ]

  -- ---- a new change of a list

  new_of : (list : Listed) → after.changes ≡ change_of form.object list world.changes ∷ world.changes → ((change : Change) → change.list ≡ list → Among change after.changes → IsCallsChange call change → OfNamed change) → Only
  new_of list made gives change among of =
      elim (subst (Among change) made among) [ inl new ↦ inr (gives change (ap (λ (c : Change). c.list) new) among of) | inr old ↦ inl old ]

  not_announced : {A : Type 0} (list : Listed) (change : Change) → change.list ≡ list → IsCallsChange call change → IsUnannounced world list → A
  not_announced list change is of fast =
      let seat : list.call.seat ≡ call.seat = ap (λ (l : Listed). l.call.seat) (sym is) ∙ of.seat in
      let number' : list.call.number ≡ call.number = ap (λ (l : Listed). l.call.number) (sym is) ∙ of.number in
      absurd (fast.1 (ap (λ s. record_number (world.words (record_place s))) seat ∙ number ∙ sym number'))

  owned_only : (list : Listed) → IsStep form world after → after.changes ≡ change_of form.object list world.changes ∷ world.changes → IsOwned form world offers list → Only
  owned_only list step made (unannounced fast) = new_of list made (λ change is among of. not_announced list change is of fast)
  owned_only list step made (named now) = new_of list made (λ change is among of. named_of list change is of now)
  owned_only list step made (dead is_dead) =
      new_of list made (λ change is among of.
      absurd (laws.of_world.dead_unchanged after list change (laws.shape_kept world after holds.shape step) (laws.dead_kept world after list holds.shape is_dead step) among is))
  owned_only list step made (changed old among of) =
      let pairs = laws.of_world.one_change_a_list after (laws.shape_kept world after holds.shape step) in
      let new = change_of form.object list world.changes in
      absurd (first_differs new world.changes old (subst (AllPairs DifferentLists) made pairs) among (ap (λ (l : Listed). l.identity) (sym of)))

  beside_only : (list : Option Listed) (entry : Entry) → form.adds_beside world entry ≡ list → IsStep form world after → after.changes ≡ with_change form.object list world.changes → Only
  beside_only None entry adds step made = same_changes made
  beside_only (Some list) entry adds step made = owned_only list step made (owned list (laws.of_world.beside world list entry holds.shape adds).1)

  enters_only : (adds : Bool) (list : Listed) → IsUnannounced world list → after.changes ≡ with_change form.object (listed_if adds list) world.changes → Only
  enters_only false list fast made = same_changes made
  enters_only true list fast made = new_of list made (λ change is among of. not_announced list change is of fast)

  -- ---- every kind

  kind_only : Kind form world after offers offers' mover hand → Only
  kind_only (quiet same o) = same_changes (ap (λ (w : World). w.changes) same)
  kind_only (counts place put is w o) = put_changes place put w
  kind_only (fills block field put in_hand spare small stored clear w o) = put_changes _ put w
  kind_only (announces place put few is w o) = put_changes place put w
  kind_only (publishes put few closed opens w o) = put_changes _ put w
  kind_only (queues put w o) = put_changes _ put w
  kind_only (names head loaded block offer generates in_hand seat can won is) = put_changes _ _ won.after_is
  kind_only (settles head loaded stop offer executing of stopped won o) = put_changes _ _ won.after_is
  kind_only (completes head loaded outcome from won o) = put_changes _ _ won.after_is
  kind_only (restarts head loaded offer wrapping of is_dead won o) = put_changes _ _ won.after_is
  kind_only (executes block offer stands is o) = helps_only block offer stands is
  kind_only (beside entry is uses o) = beside_only (form.adds_beside world entry) entry refl is.step is.changes
  kind_only (enters list j entry fast is uses o) = enters_only (form.adds list j) list fast is.changes

  by_phase : Only → (at : RecordPhase) → record_phase word ≡ at → MayMake form world after offers call begun at (record_payload word)
  by_phase only phase.Idle at = λ change among of. elim (only change among of) [
    | inl old ↦ old
    | inr now ↦ elim now.0 [ inl e ↦ absurd (let both : phase.Idle ≡ phase.Executing = sym at ∙ e in cc) | inr e ↦ absurd (let both : phase.Idle ≡ phase.Wrapping = sym at ∙ e in cc) ]
  ]
  by_phase only phase.Generate at = λ change among of. elim (only change among of) [
    | inl old ↦ old
    | inr now ↦ elim now.0 [ inl e ↦ absurd (let both : phase.Generate ≡ phase.Executing = sym at ∙ e in cc) | inr e ↦ absurd (let both : phase.Generate ≡ phase.Wrapping = sym at ∙ e in cc) ]
  ]
  by_phase only phase.Executing at = λ n change among of. elim (only change among of) [ inl old ↦ inl old | inr now ↦ inr (now.1 n) ]
  by_phase only phase.Wrapping at = λ n change among of. elim (only change among of) [ inl old ↦ inl old | inr now ↦ inr (now.1 n) ]
  by_phase only phase.Completed at = λ change among of. elim (only change among of) [
    | inl old ↦ old
    | inr now ↦ elim now.0 [ inl e ↦ absurd (let both : phase.Completed ≡ phase.Executing = sym at ∙ e in cc) | inr e ↦ absurd (let both : phase.Completed ≡ phase.Wrapping = sym at ∙ e in cc) ]
  ]

  pub may_make : Kind form world after offers offers' mover hand → MayMake form world after offers call begun (record_phase word) (record_payload word)
  may_make kind = by_phase (kind_only kind) (record_phase word) refl

  -- so what the record tells of the call stays, where the record itself stays
  pub record_kept : Kind form world after offers offers' mover hand → after.words (record_place call.seat) ≡ word → RecordKnown form world offers call begun → RecordKnown form after offers' call begun
  record_kept kind same known number' =
      let leaves = kind_leaves form laws world after offers offers' holds mover hand kind None (λ block e. none_in block e) (λ block e. none_in block e) in
      subst (λ w. RecordIsRight form after offers' call begun (record_of w)) (sym same)
      (tells_still form laws world after offers offers' holds leaves call begun (record_phase word) (record_payload word) (outcome_of (record_of word)) (may_make kind) (known number))
