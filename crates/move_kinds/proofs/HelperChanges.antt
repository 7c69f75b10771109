-- The change that a helper makes is of the list that the record of its call names, in Executing.
use Rattle.std.proofs.Common.{◌≡◌, ◌≢◌, ◌∙◌, sym, ap, subst, ℕ, ◌⊎◌, inl, inr, Bool, true, false, Option, Some}
use Rattle.step_memory.specs.declared.steps.Seen.{Seen}
use Rattle.word_fields.specs.declared.records.RecordPhase.TheVariants.{Executing}
use Rattle.word_fields.specs.Payloads.{payload_block}
use Rattle.word_fields.specs.Records.{record_phase, record_payload}
use Rattle.node_arena.specs.MemoryMap.{record_place}
use Rattle.normal_traits.specs.World.{Among, Called, Change, Listed, World}
use Rattle.normal_traits.specs.NormalForm.{NormalForm}
use Rattle.normal_traits.specs.Steps.{listed_if, with_change}
use Rattle.cas_executor.specs.SlowRuns.{SlowWalk}
use Rattle.cas_executor_laws.proofs.RunTurns.{same_entry}
use Rattle.cas_executor_laws.proofs.OfferedPartsKept.{entry_at}
use Rattle.offered_blocks.specs.Blocks.{Offer, HasBlocks, IsExecuting, has_taken}
use Rattle.offered_blocks.specs.Records.{IsCallsChange, Names}
use Rattle.offered_blocks.proofs.Blocks.Named.{some_offer}
use Rattle.offered_blocks.proofs.Helpers.OwnDeeds.{installs_named}
use Rattle.offered_blocks.proofs.Helpers.Executes.{Executes, Tells, taken_by}
use Rattle.offered_blocks.proofs.Helpers.Executes.Tells.{no_win, wins}

module _ {S W : Type 0} (form : NormalForm S W) (world after : World) (offers : ℕ → Option (Offer S)) (blocks : HasBlocks form world offers)
    (block : ℕ) (offer : Offer S) (walk : SlowWalk) (seen : Seen) (is : Executes form world after offers block offer walk seen) where
  -- a change is an old one, or that of this list
  change_from : (adds : Bool) (change : Change) → Among change (with_change form.object (listed_if adds offer.list) world.changes) → Among change world.changes ⊎ (change.list ≡ offer.list)
  change_from false change among = inl among
  change_from true change (inl same) = inr (ap (λ (c : Change). c.list) same)
  change_from true change (inr old) = inl old

  -- and then the list is executed
  new_executing : Tells form world after offer.list walk seen → (change : Change) → Among change after.changes → Among change world.changes ⊎ ((change.list ≡ offer.list) × IsExecuting world offer.list)
  new_executing (no_win why same kept) change among = inl (subst (Among change) kept among)
  new_executing (wins installing won entry cause listed stood grown made) change among =
      elim (change_from (form.adds offer.list walk.next) change (subst (Among change) made among)) [
        | inl old ↦ inl old
        | inr of ↦
            let at = entry_at offer.list.entries walk.next is.knows.within in
            let one : entry ≡ at.0 = same_entry offer.list.entries walk.next entry at.0 listed at.1 in
            inr (
              of,
              installs_named form world offers blocks block offer is.stands walk seen after.words (has_taken after.journal offer.list) is.knows is.made (taken_by form world after offer.list walk seen is.tells)
                  (subst (λ e. world.words e.target ≡ e.from) one stood),
            )
      ]

  pub new_change : (change : Change) → Among change after.changes → Among change world.changes ⊎ ((change.list ≡ offer.list) × IsExecuting world offer.list)
  new_change = new_executing is.tells

  -- so where the record of its call is in another phase, no change of the call is new
  pub none_new : (call : Called) → record_phase (world.words (record_place call.seat)) ≢ Executing → (change : Change) → Among change after.changes → IsCallsChange call change → Among change world.changes
  none_new call other change among of =
      elim (new_change change among) [
        | inl old ↦ old
        | inr made ↦
            let seat : offer.list.call.seat ≡ call.seat = ap (λ (l : Listed). l.call.seat) (sym made.0) ∙ of.seat in
            absurd (other (ap (λ s. record_phase (world.words (record_place s))) (sym seat) ∙ made.1.phase))
      ]

  -- and where it is Executing, it is of the list that it names
  pub new_named : (call : Called) (begun : ℕ) (names : Names form world offers call begun (payload_block (record_payload (world.words (record_place call.seat)))))
      → (change : Change) → Among change after.changes → IsCallsChange call change → Among change world.changes ⊎ (change.list ≡ names.offer.list)
  new_named call begun names change among of =
      elim (new_change change among) [
        | inl old ↦ inl old
        | inr made ↦
            let seat : offer.list.call.seat ≡ call.seat = ap (λ (l : Listed). l.call.seat) (sym made.0) ∙ of.seat in
            let mine = blocks.offered block offer is.stands in
            let same : payload_block (record_payload (world.words (record_place call.seat))) ≡ block =
            ap (λ s. payload_block (record_payload (world.words (record_place s)))) (sym seat) ∙ made.1.block ∙ mine.block_is in
            let one : names.offer ≡ offer = some_offer names.offer offer (offers block) (subst (λ b. offers b ≡ Some names.offer) same names.stands) is.stands in
            inr (made.0 ∙ ap (λ (o : Offer S). o.list) (sym one))
      ]
