-- Laws of the tree that follow from its shape, or from its definitions alone.
use Rattle.std.proofs.Common.{◌≡◌, ◌≢◌, ℕ, zero, suc, ◌+◌, ◌*◌, ◌^◌, ◌<◌, Bool, true, false, not, ◌||◌, ◌&&◌, List, [], ◌∷◌, ◌++◌, length, Option, refl, sym, ap, subst, ◌∙◌, inl, inr, arith}
use Rattle.std.specs.Prelude.{◌==◌, if◌then◌else◌, slice_get, Some, None, IsTrue, All, nat_le}
use Rattle.std.proofs.lemmas.Bool.{eqb-true, ne_eqb, or_left, or_right}
use Rattle.word_fields.specs.Versioned.{versioned_value, versioned_bit, versioned_version, is_modified}
use Rattle.word_fields.proofs.ChangedWords.{value-changed}
use Rattle.lin_report.specs.declared.calls.Op.{Op}
use Rattle.lin_report.specs.declared.calls.TheConstants.{SET, REM}
use Rattle.lin_report.specs.Object.{map_object}
use Rattle.lin_report.specs.Commands.{may_exhaust}
use Rattle.lin_report.specs.declared.calls.Reply.TheVariants.{Yes}
use Rattle.node_arena.specs.declared.places.TheConstants.{FIRST_WORDS}
use Rattle.node_arena.specs.MemoryMap.{block_place, field_at}
use Rattle.node_arena.proofs.PlacesApart.{field_at-block_place, same_block}
use Rattle.step_memory.specs.declared.steps.Seen.{Seen}
use Rattle.normal_traits.specs.declared.form.Found.TheVariants as found
use Rattle.normal_traits.specs.declared.lists.Entry.{Entry}
use Rattle.normal_traits.specs.World.{Listed, Won, Cause, Change, World, Among, Took, Observes, held_after}
use Rattle.normal_traits.specs.Steps.{IsOffered, IsFresh}
use Rattle.normal_traits.specs.Laws.{MayContend}
use Rattle.tree_help.specs.declared.states.TheConstants.{CLEAN, INSERTING, DELETING, MARKED}
use Rattle.tree_help.specs.Updates.{state_of, block_of, is_clean}
use Rattle.ellen_tree_form.specs.Words.{update_at, is_child, is_versioned, is_set, is_rem, may_list}
use Rattle.ellen_tree_form.specs.declared.states.TreeSearch.{TreeSearch}
use Rattle.ellen_tree_form.specs.declared.states.Passed.{Passed}
use Rattle.ellen_tree_form.specs.Search.{Asks, IsReady, fed, offered, flag_entry, set_at, rem_at, helped, told}
use Rattle.ellen_tree_form.specs.declared.states.TreeSearch.TheVariants.{AtUpdate, AtKey, AtChild, AtLeaf, Again, AtValue, SetReady, RemReady, Helps}
use Rattle.ellen_tree_form.specs.Shape.{Shape, Flagged, flags_at, flag_over, flagger, adds_beside, IsOver, IsSpent, EachChanges, Changed, IsGone, IsMarked, noted}
use Rattle.ellen_tree_form.specs.Shape.OnWay.{root}
use Rattle.ellen_tree_form.specs.Knowledge.{Knows, Dead, Keeps}
use Rattle.ellen_tree_form.specs.Knowledge.Reaches.{on}
use Rattle.ellen_tree_form.specs.Form.{tree_form}
use Rattle.ellen_tree_form.proofs.Helps.Journal.{took_of, flagger_flagged}
use Rattle.client_lemmas.proofs.Growing.{all_among}
use Rattle.client_lemmas.proofs.Entries.{the_entry}

-- ---- changes and causes

effective_in : (newer older' changes : List Change) (change : Change) → EachChanges changes → changes ≡ newer ++ change ∷ older' → ¬ Observes map_object change.list.call.op (held_after map_object older')
effective_in [] older' changes change each e = (subst EachChanges e each).0
effective_in (new ∷ newer) older' changes change each e = effective_in newer older' (newer ++ change ∷ older') change (subst EachChanges e each).1 refl

pub effective : (world : World) (newer older' : List Change) (change : Change) → Shape world → world.changes ≡ newer ++ change ∷ older' → ¬ Observes map_object change.list.call.op (held_after map_object older')
effective world newer older' change shape e = effective_in newer older' world.changes change shape.effective e

bounded : (world : World) (shape : Shape world) (cause : Cause) → IsSpent world cause → (world.used cause.block ≡ true) × (cause.kind < 8)
bounded world shape cause spent = (subst (λ b. world.used b ≡ true) spent.block (shape.flaggers spent.list spent.flagged).used, by_kind cause.kind spent.over)
  where
    by_kind : (kind : ℕ) → IsOver world spent.list kind → kind < 8
    by_kind zero over = omega arith
    by_kind (suc zero) over = omega arith
    by_kind (suc (suc zero)) over = omega arith
    by_kind (suc (suc (suc zero))) over = omega arith
    by_kind (suc (suc (suc (suc kind)))) over = absurd over

pub causes_bounded : (world : World) → Shape world → All (λ (won : Won). (world.used won.cause.block ≡ true) × (won.cause.kind < 8)) world.journal
causes_bounded world shape = all_among (λ (won : Won). (world.used won.cause.block ≡ true) × (won.cause.kind < 8)) world.journal (λ item among. bounded world shape item.cause (shape.spent item among))

-- ---- beginnings and notes

pub begins_knowing : (world : World) (op : Op) → Shape world → Knows (tree_form.begin_of op) op world (length world.changes)
begins_knowing world op shape = record { began = omega arith; learnt = (refl, record { is = refl; reaches = on 0 refl (root refl); came = refl }) }

field_not : (block field at : ℕ) → field < 12 → 12 < at → at < 32 → (field_at (block_place block field) == at) ≡ false
field_not block field at low some small = ne_eqb (field_at (block_place block field)) at (λ e. omega (arith, low, some, e, field_at-block_place block field (omega (arith, low))))

and_none : (a : Bool) → (a && (false || false) || a && false) ≡ false
and_none true = refl
and_none false = refl

pub notes_plain : (block field : ℕ) → field < 12 → is_versioned (block_place block field) ≡ false
notes_plain block field low =
    rw (field_not block field 19 low (omega arith) (omega arith), field_not block field 20 low (omega arith) (omega arith), field_not block field 21 low (omega arith) (omega arith))
    (and_none (nat_le FIRST_WORDS (block_place block field)))

-- ---- beside

pub beside : (world : World) (list : Listed) (entry : Entry) → Shape world → adds_beside world entry ≡ Some list → (0 < list.block) × Took world list 0
beside world list entry shape e = by_test (is_child entry.target) e
  where
    by_test : (b : Bool) → (if b then flagger (block_of (flag_over world.words entry.target)) world.journal else None) ≡ Some list → (0 < list.block) × Took world list 0
    by_test true e' = let flagged = flagger_flagged world (block_of (flag_over world.words entry.target)) list shape e' in ((shape.flaggers list flagged).some, took_of world list flagged)
    by_test false e' = absurd cc

-- ---- dead lists

pub dead_first : (world : World) (list : Listed) (entry : Entry) → Dead list world → IsFresh world list → slice_get list.entries 0 ≡ Some entry → world.words entry.target ≢ entry.from
dead_first world list entry dead fresh listed = λ e. elim dead.fate [
  | inl lost ↦
      let is : entry ≡ dead.entry = sym (the_entry list.entries entry dead.entry listed dead.entries) in
      let here : world.words dead.entry.target ≡ dead.entry.from = subst (λ (x : Entry). world.words x.target ≡ x.from) is e in
      omega (arith, lost.0, ap versioned_version here)
  | inr gone ↦ fresh list 0 refl (took_of world list gone.0)
]

pub update_same : (a b : ℕ) → update_at a ≡ update_at b → a ≡ b
update_same a b e = same_block a 21 b 21 (omega arith) (omega arith) e

pub marked_value : (world : World) (list : Listed) (gone : ℕ) → list.block < 2 ^ 17 → IsMarked world list gone → versioned_value (world.words (update_at gone)) ≡ 4 * list.block + MARKED
marked_value world list gone small marked = ap versioned_value marked ∙ value-changed (noted world list 1) (4 * list.block + MARKED) (omega (arith, small))

pub both_ops : (op : Op) → is_set op ≡ true → is_rem op ≡ true → ⊥
both_ops op s r = absurd (omega (arith, eqb-true op.code SET s, eqb-true op.code REM r))

-- a removal that was given up has made no change: a removal's change is made behind its mark alone
gone_unchanged : (world : World) (list : Listed) → Shape world → Flagged world list → IsGone world list → Changed world list → ⊥
gone_unchanged world list shape flagged gone changed = elim (shape.made (record { list = list; reply = Yes }) changed) [
  | inl set ↦ both_ops list.call.op set.0 gone.0
  | inr rem ↦
      let same : rem.2.0 ≡ gone.1.0 = update_same rem.2.0 gone.1.0 (sym rem.2.1 ∙ gone.1.1) in
      gone.1.2.unmarked (ap (λ n. versioned_value (world.words (update_at n))) (sym same) ∙ marked_value world list rem.2.0 (shape.flaggers list flagged).small rem.2.2)
]

pub dead_unchanged : (world : World) (list : Listed) (change : Change) → Shape world → Dead list world → Among change world.changes → change.list ≢ list
dead_unchanged world list change shape dead among e = elim dead.fate [
  | inl lost ↦ lost.1 (subst (Flagged world) e (shape.flagged change among))
  | inr gone ↦ gone_unchanged world list shape gone.0 gone.1 (subst (λ (l : Listed). Among (record { list = l; reply = Yes }) world.changes) e (subst (λ r. Among (record { list = change.list; reply = r }) world.changes) (shape.yes change among) among))
]

-- ---- offers

may_set : (op : Op) → is_set op ≡ true → IsTrue (may_list op) × IsTrue (may_exhaust op)
may_set op e = let code : op.code ≡ SET = eqb-true op.code SET e in rw code (refl, refl)

may_rem : (op : Op) → is_rem op ≡ true → IsTrue (may_list op) × IsTrue (may_exhaust op)
may_rem op e = let code : op.code ≡ REM = eqb-true op.code REM e in rw code (refl, refl)

pub lists : (world : World) (search : TreeSearch) (op : Op) (since : ℕ) → Knows search op world since → IsReady search → IsTrue (may_list op) × IsTrue (may_exhaust op)
lists world (SetReady last key value) op since knows ready = may_set op knows.learnt.1
lists world (RemReady above last) op since knows ready = may_rem op knows.learnt.1
lists world _ op since knows ready = absurd ready

block_none : (op : Op) (block other : ℕ) → may_list op ≡ false → (if may_list op then block else 0) ≡ (if may_list op then other else 0)
block_none op block other e = rw e refl

pub same_entries : (search : TreeSearch) (op : Op) (block other : ℕ) → may_list op ≡ false → (offered search op block).entries ≡ (offered search op other).entries
same_entries (SetReady last key value) op block other e = ap (λ b. flag_entry last b INSERTING ∷ []) (block_none op block other e)
same_entries (RemReady above last) op block other e = ap (λ b. flag_entry above b DELETING ∷ []) (block_none op block other e)
same_entries _ op block other e = refl

-- ---- why a search gives up

-- a modified bit, by its test
set_bit : (word : ℕ) → is_modified word ≡ true → versioned_bit word ≡ 1
set_bit word e = eqb-true (versioned_bit word) 1 e

at_set : (stay : TreeSearch) (seen : Seen) (last : Passed) (key : ℕ) → ((word : ℕ) → last.update ≡ word → Keeps stay seen word) → (set_at stay last key).1 ≡ found.Contended → MayContend tree_form stay seen
at_set stay seen last key keeps e = by_bit (is_modified last.update) refl e
  where
    by_clean : (b : Bool) → (if b then (AtValue last key, found.Going) else helped (update_at last.node) last.update).1 ≡ found.Contended → MayContend tree_form stay seen
    by_clean true e' = absurd cc
    by_clean false e' = absurd cc

    by_bit : (b : Bool) → is_modified last.update ≡ b → (if b then (stay, found.Contended) else (if is_clean last.update then (AtValue last key, found.Going) else helped (update_at last.node) last.update)).1 ≡ found.Contended → MayContend tree_form stay seen
    by_bit true set e' = inl (last.update, keeps last.update refl, set_bit last.update set)
    by_bit false set e' = by_clean (is_clean last.update) e'

at_rem : (op : Op) (above : Option Passed) (last : Passed) (seen : Seen) → (rem_at (AtLeaf op above last) above last).1 ≡ found.Contended → MayContend tree_form (AtLeaf op above last) seen
at_rem op None last seen e = inr (inr tt)
at_rem op (Some above) last seen e = by_bits (is_modified above.update) (is_modified last.update) refl refl e
  where
    by_clean : (a b : Bool) → (if not a then helped (update_at above.node) above.update else (if not b then helped (update_at last.node) last.update else (RemReady above last, found.Ready))).1 ≡ found.Contended → MayContend tree_form (AtLeaf op (Some above) last) seen
    by_clean true true e' = absurd cc
    by_clean true false e' = absurd cc
    by_clean false b e' = absurd cc

    by_bits : (a b : Bool) → is_modified above.update ≡ a → is_modified last.update ≡ b
        → (if a || b then (AtLeaf op (Some above) last, found.Contended) else (if not (is_clean above.update) then helped (update_at above.node) above.update else (if not (is_clean last.update) then helped (update_at last.node) last.update else (RemReady above last, found.Ready)))).1 ≡ found.Contended
        → MayContend tree_form (AtLeaf op (Some above) last) seen
    by_bits true b sa sb e' = inl (above.update, inr refl, set_bit above.update sa)
    by_bits false true sa sb e' = inl (last.update, inl refl, set_bit last.update sb)
    by_bits false false sa sb e' = by_clean (is_clean above.update) (is_clean last.update) e'

pub contends : (search : TreeSearch) (seen : Seen) → Asks search → (fed search seen).1 ≡ found.Contended → MayContend tree_form search seen
contends (AtUpdate o above node) seen asks e = absurd cc
contends (AtKey o above node update) seen asks e = absurd cc
contends (AtChild o above node update key) seen asks e = absurd cc
contends (AtLeaf o above last) seen asks e = by_case (is_set o && not (seen.before == o.key)) (is_rem o && (seen.before == o.key)) e
  where
    by_case : (a b : Bool) → (if a then set_at (AtLeaf o above last) last seen.before else (if b then rem_at (AtLeaf o above last) above last else (Again o last (seen.before == o.key), found.Going))).1 ≡ found.Contended → MayContend tree_form (AtLeaf o above last) seen
    by_case true b e' = at_set (AtLeaf o above last) seen last seen.before (λ word same. inl same) e'
    by_case false true e' = at_rem o above last seen e'
    by_case false false e' = absurd cc
contends (Again o last is) seen asks e = by_mark (state_of seen.before == MARKED) e
  where
    by_mark : (b : Bool) → (if b then helped (update_at last.node) seen.before else (Again o last is, found.Answer (told o last is))).1 ≡ found.Contended → MayContend tree_form (Again o last is) seen
    by_mark true e' = absurd cc
    by_mark false e' = absurd cc
contends (AtValue last key) seen asks e = absurd cc
contends (SetReady last key value) seen asks e = absurd asks
contends (RemReady above last) seen asks e = absurd asks
contends (Helps help) seen asks e = inr (inr tt)

-- ---- wrap-ups

-- a list that was offered has one entry, which sets a flag of its operation
pub offered_entries : (world : World) (list : Listed) (search : TreeSearch) (since : ℕ) → IsOffered tree_form world list search since
    → (node : ℕ) × (from : ℕ) × (list.entries ≡ flags_at node from list ∷ []) × (may_list list.call.op ≡ true)
offered_entries world list (SetReady last key value) since offered' =
    let set : is_set list.call.op ≡ true = offered'.knows.learnt.1 in
    (last.node, last.update, offered'.entries ∙ one set, or_left (is_set list.call.op) (is_rem list.call.op) set)
  where
    one : is_set list.call.op ≡ true → (offered (SetReady last key value) list.call.op list.block).entries ≡ flags_at last.node last.update list ∷ []
    one set = rw set refl
offered_entries world list (RemReady above last) since offered' =
    let rem : is_rem list.call.op ≡ true = offered'.knows.learnt.1 in
    (above.node, above.update, offered'.entries ∙ one (cases rem) rem, or_right (is_set list.call.op) (is_rem list.call.op) rem)
  where
    cases : is_rem list.call.op ≡ true → is_set list.call.op ≡ false
    cases rem = by_set (is_set list.call.op) refl
      where
        by_set : (b : Bool) → is_set list.call.op ≡ b → b ≡ false
        by_set true set = absurd (both_ops list.call.op set rem)
        by_set false set = refl

    one : is_set list.call.op ≡ false → is_rem list.call.op ≡ true → (offered (RemReady above last) list.call.op list.block).entries ≡ flags_at above.node above.update list ∷ []
    one set rem = rw (set, rem) refl
offered_entries world list _ since offered' = absurd offered'.ready

-- its flag is set from a clean word
pub offered_clean : (world : World) (list : Listed) (search : TreeSearch) (since : ℕ) → IsOffered tree_form world list search since
    → (node : ℕ) × (from : ℕ) × (list.entries ≡ flags_at node from list ∷ []) × (state_of from ≡ CLEAN)
unfolding offered_entries
offered_clean world list (SetReady last key value) since offered' =
    (last.node, last.update, (offered_entries world list (SetReady last key value) since offered').2, offered'.knows.learnt.2.clean)
offered_clean world list (RemReady above last) since offered' =
    (above.node, above.update, (offered_entries world list (RemReady above last) since offered').2, offered'.knows.learnt.3.clean)
offered_clean world list _ since offered' = absurd offered'.ready

-- at a node
pub offered_used : (world : World) (list : Listed) (search : TreeSearch) (since : ℕ) → Shape world → (offered' : IsOffered tree_form world list search since) → world.used (offered_entries world list search since offered').0 ≡ true
unfolding offered_entries
offered_used world list (SetReady last key value) since shape offered' = (shape.stored last.node offered'.knows.learnt.0.passed.is).used
offered_used world list (RemReady above last) since shape offered' = (shape.stored above.node offered'.knows.learnt.2.0.is).used
offered_used world list _ since shape offered' = absurd offered'.ready
