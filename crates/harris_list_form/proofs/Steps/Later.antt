-- What every allowed step keeps of sorted lists: the one summary of a step that what was learnt rests on.
use Rattle.std.proofs.Common.{◌≡◌, ℕ, zero, suc, ◌*◌, ◌%◌, ◌<◌, true, false, eqb, ◌∷◌, refl, sym, ap, ◌∙◌, subst, inl, inr, ◌⊎◌, Some, arith}
use Rattle.std.specs.Prelude.{slice_get}
use Rattle.std.proofs.lemmas.Bool.{true≢false, and_right, ne_eqb}
use Rattle.step_memory.specs.declared.steps.Request.{Request}
use Rattle.step_memory.specs.declared.steps.Seen.{Seen}
use Rattle.lin_report.specs.Object.{object_of}
use Rattle.word_fields.specs.Versioned.{versioned_value}
use Rattle.word_fields.proofs.ChangedWords.{value-cleared, cleared-changed}
use Rattle.normal_traits.specs.declared.lists.Entry.{Entry}
use Rattle.normal_traits.specs.NormalForm.{Offered}
use Rattle.normal_traits.specs.World.{Listed, Change, World}
use Rattle.normal_traits.specs.Steps.{Requested, IsOffered, IsStep, change_of}
use Rattle.client_lemmas.proofs.Later as any_step
use Rattle.harris_list_form.specs.declared.states.ListSearch.{ListSearch}
use Rattle.harris_list_form.specs.declared.states.ListSearch.TheVariants.{Unlink, LeastUnlink}
use Rattle.harris_list_form.specs.Lists.{Lists, AreLists}
use Rattle.harris_list_form.specs.Search.{is_add, asked, Asks}
use Rattle.harris_list_form.specs.Nodes.{is_node, brings}
use Rattle.harris_list_form.specs.Shape.{AreSorted}
use Rattle.harris_list_form.specs.Knowledge.{Learnt}
use Rattle.harris_list_form.specs.Form.{list_form}
use Rattle.harris_list_form.proofs.Steps.Changes.{Extends, extends_same, extends_more, brings_none}
use Rattle.harris_list_form.proofs.Held.Entries.{IsFirst, IsSecond, tried_first, tried_second}
use Rattle.harris_list_form.proofs.Held.Entries.IsFirst.{adds_it, marks_it}

-- a word of a marked node keeps its value
abbrev pub Freezes : ℕ → ℕ → Type 0
Freezes word after = versioned_value word % 2 ≡ 1 → versioned_value after ≡ versioned_value word

module _ (lists : Lists) (are : AreLists lists) where
  abbrev pub Later : World → World → Type 0
  Later world after = any_step.Later (list_form lists) Extends Freezes world after

  -- an exchange beside the lists is from an unmarked word to one with its bit clear
  pub asked_moves : (world : World) (key since : ℕ) (searched : ListSearch) → Asks searched → Learnt lists world key since searched → any_step.IsMove (list_form lists) Extends Freezes (asked searched)
  asked_moves world key since (Unlink sought left cur next found) asks l = (cleared-changed left.word (2 * cur) (omega (arith, asks)), λ odd. absurd (omega (arith, odd, l.0.even)))
  asked_moves world key since (LeastUnlink left cur) asks l = (cleared-changed left.word (2 * cur) (omega (arith, asks)), λ odd. absurd (omega (arith, odd, l.0.at.even)))
  asked_moves world key since _ asks l = tt

  -- a first entry's word is that of an unmarked node
  first_even : (world : World) (list : Listed) (since : ℕ) (entry : Entry) {offer : Offered} → IsFirst lists world list since entry offer → versioned_value entry.from % 2 ≡ 0
  first_even world list since entry (adds_it left cur add learnt is offers) = subst (λ (e : Entry). versioned_value e.from % 2 ≡ 0) is learnt.0.even
  first_even world list since entry (marks_it left cur next del learnt is) = subst (λ (e : Entry). versioned_value e.from % 2 ≡ 0) is learnt.5.even

  second_even : (world : World) (list : Listed) (since : ℕ) (entry : Entry) → IsSecond lists world list since entry → versioned_value entry.from % 2 ≡ 0
  second_even world list since entry it = subst (λ (e : Entry). versioned_value e.from % 2 ≡ 0) it.is it.learnt.0.even

  entry_even : (world : World) (list : Listed) (searched : ListSearch) (since j : ℕ) (entry : Entry) → j < 2 → IsOffered (list_form lists) world list searched since → slice_get list.entries j ≡ Some entry → versioned_value entry.from % 2 ≡ 0
  entry_even world list searched since zero entry low offered listed = first_even world list since entry (tried_first lists world list searched since entry offered listed)
  entry_even world list searched since (suc zero) entry low offered listed = second_even world list since entry (tried_second lists world list searched since entry offered listed)
  entry_even world list searched since (suc (suc j)) entry low offered listed = absurd (omega (arith, low))

  -- a block that is not used has no node
  pub brings_unused : (world : World) → AreSorted lists world → (change : Change) → world.used change.list.block ≡ false → (block : ℕ) → is_node world.changes block ≡ true → brings change block ≡ false
  brings_unused world sorted change unused block node =
      and_right (is_add change.list.call.op) (eqb change.list.block block)
      (ne_eqb change.list.block block (λ e. true≢false (sym (sorted.stored block node).used ∙ ap world.used (sym e) ∙ unused)))

  new_node : (world : World) (list : Listed) → AreSorted lists world → (is_add list.call.op ≡ false) ⊎ (world.used list.block ≡ false) → Extends world.changes (change_of (object_of lists.client) list world.changes ∷ world.changes)
  new_node world list sorted (inl del) = extends_more (change_of (object_of lists.client) list world.changes) world.changes (λ block node. brings_none (change_of (object_of lists.client) list world.changes) world.changes del block)
  new_node world list sorted (inr unused) = extends_more (change_of (object_of lists.client) list world.changes) world.changes (brings_unused world sorted (change_of (object_of lists.client) list world.changes) unused)

  facts : any_step.StepFacts (list_form lists) Extends Freezes
  facts =
      record {
        same = extends_same;
        beside = λ world entry sorted. extends_same world.changes;
        first = λ world list sorted new. new_node world list sorted new;
        second = λ world list sorted. extends_same world.changes;
        stays = λ word odd. refl;
        clears = λ word odd. value-cleared word;
        asks = λ world searched op since asking knows. asked_moves world op.key since searched asking knows.learnt;
        wraps = λ world wrap list stop going follows. absurd follows;
        lists = λ world list searched since j entry word low offered listed change odd. absurd (omega (arith, odd, entry_even world list searched since j entry low offered listed));
      }

  pub later : (world after : World) → AreSorted lists world → IsStep (list_form lists) world after → Later world after
  later = any_step.later (list_form lists) Extends Freezes facts

  pub requested_later : (request : Request) (world after : World) (seen : Seen) → AreSorted lists world → any_step.IsMove (list_form lists) Extends Freezes request → Requested (list_form lists) request world after seen → Later world after
  requested_later = any_step.requested_later (list_form lists) Extends Freezes facts
