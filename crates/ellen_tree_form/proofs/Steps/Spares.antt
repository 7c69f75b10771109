-- What every allowed step leaves of marked nodes and of flags.
use Rattle.std.proofs.Common.{◌≡◌, ℕ, ◌+◌, ◌*◌, ◌^◌, ◌<◌, Bool, true, false, [], ◌∷◌, Option, refl, sym, ap, subst, ◌∙◌, inl, inr, ◌⊎◌, arith}
use Rattle.std.specs.Prelude.{slice_get, Some}
use Rattle.std.proofs.lemmas.Bool.{true≢false, cases_eq}
use Rattle.word_fields.specs.Versioned.{versioned_value, cleared_word}
use Rattle.word_fields.proofs.ChangedWords.{value-cleared}
use Rattle.lin_report.specs.declared.calls.Op.{Op}
use Rattle.step_memory.specs.declared.steps.Request.{Request}
use Rattle.step_memory.specs.declared.steps.Seen.{Seen}
use Rattle.normal_traits.specs.declared.lists.Entry.{Entry}
use Rattle.normal_traits.specs.World.{Listed, Maker, Won, World, is_word, no_root}
use Rattle.normal_traits.specs.World.Maker.{By, Beside}
use Rattle.normal_traits.specs.Steps.{with_word, listed_if, IsExchanged, IsOffered, Requested, IsStep, exchanged}
use Rattle.normal_traits.specs.Steps.Requested.{loaded, lost, won}
use Rattle.normal_traits.specs.Steps.IsStep.{nothing, elsewhere, clears, searches, wraps, first, first_of_block, second}
use Rattle.tree_help.specs.declared.states.TheConstants.{CLEAN, MARKED}
use Rattle.tree_help.specs.Updates.{state_of}
use Rattle.ellen_tree_form.specs.declared.states.TreeSearch.{TreeSearch}
use Rattle.ellen_tree_form.specs.declared.states.TreeSearch.TheVariants.{SetReady, RemReady, Helps}
use Rattle.ellen_tree_form.specs.Words.{child_at, update_at, is_update}
use Rattle.ellen_tree_form.specs.Search.{Asks, asked}
use Rattle.ellen_tree_form.specs.Shape.{Shape, Flagged, flags_at, noted}
use Rattle.ellen_tree_form.specs.Knowledge.{Knows}
use Rattle.ellen_tree_form.specs.Form.{tree_form}
use Rattle.ellen_tree_form.proofs.Plain.{offered_entries, offered_clean}
use Rattle.ellen_tree_form.proofs.Order.SwingWays.{child_update}
use Rattle.ellen_tree_form.proofs.Helps.Wraps.{flag_value, state_below}
use Rattle.ellen_tree_form.proofs.Asks.{child_unlisted, update_listed}
use Rattle.ellen_tree_form.proofs.Steps.Turns.{IsFair, AsksFair, help_fair, flag_unmarked}
use Rattle.normal_traits.proofs.Stays.{word_put, word_beside}
use Rattle.client_lemmas.proofs.Words.{beside_word}
use Rattle.client_lemmas.proofs.Entries.{the_entry, no_second}

pub record Spares (world after : World) : Type 0 where
  -- a marked node's update word keeps its value, and its children stay
  pub frozen : (node : ℕ) → is_word no_root world (update_at node) ≡ true → state_of (world.words (update_at node)) ≡ MARKED
      → (after.words (update_at node) ≡ world.words (update_at node)) ⊎ (after.words (update_at node) ≡ cleared_word (world.words (update_at node)))
  pub held : (node : ℕ) (left : Bool) → is_word no_root world (child_at node left) ≡ true → state_of (world.words (update_at node)) ≡ MARKED → after.words (child_at node left) ≡ world.words (child_at node left)
  -- a block's mark is set from the word that its list noted
  pub marks : (node : ℕ) → is_word no_root world (update_at node) ≡ true → (block : ℕ) → versioned_value (after.words (update_at node)) ≡ 4 * block + MARKED
      → (versioned_value (world.words (update_at node)) ≡ 4 * block + MARKED) ⊎ ((list : Listed) × Flagged world list × (list.block ≡ block) × (world.words (update_at node) ≡ noted world list 1))
  -- a list's flag is set by its entry
  pub flags : (list : Listed) → Flagged after list → Flagged world list ⊎ ((entry : Entry) × (list.entries ≡ entry ∷ []) × (world.words entry.target ≡ entry.from))

same_spares : (world : World) → Spares world world
same_spares world = record { frozen = λ node is marked. inl refl; held = λ node left is marked. refl; marks = λ node is block e. inl e; flags = λ list flagged. inl flagged }

exchange_spares : (world : World) (maker : Maker) (added : Option Listed) (entry : Entry) (word : ℕ) → IsFair world entry.target entry.from entry.to → world.words entry.target ≡ entry.from → versioned_value word ≡ versioned_value entry.to
    → Spares world (exchanged tree_form maker added entry word world)
exchange_spares world maker added entry word fair stood value = record {
  frozen = λ node is marked. elim (cases_eq (update_at node) entry.target) [
    | inl same ↦ absurd (fair.unmarked (ap is_update (sym same) ∙ update_listed node) (ap state_of (sym stood ∙ ap world.words (sym same)) ∙ marked))
    | inr apart ↦ inl (word_beside entry.target word world.words (update_at node) apart)
  ];
  held = λ node left is marked. elim (cases_eq (child_at node left) entry.target) [
    | inl same ↦ absurd (fair.held node left (sym same) stood marked)
    | inr apart ↦ word_beside entry.target word world.words (child_at node left) apart
  ];
  marks = λ node is block e. elim (cases_eq (update_at node) entry.target) [
    | inl same ↦
        let m = fair.marks (ap is_update (sym same) ∙ update_listed node) block (sym value ∙ ap versioned_value (sym (word_put entry.target word world.words (update_at node) same)) ∙ e) in
        inr (m.0, m.1, m.2, ap world.words same ∙ stood ∙ m.3)
    | inr apart ↦ inl (ap versioned_value (sym (word_beside entry.target word world.words (update_at node) apart)) ∙ e)
  ];
  flags = λ list flagged. elim flagged.won [
    | inl own ↦ inr (flags_at flagged.node flagged.from list, flagged.entries, ap world.words (ap (λ (w : Won). w.place) own) ∙ stood ∙ sym (ap (λ (w : Won). w.before) own))
    | inr among ↦ inl (record { node = flagged.node; from = flagged.from; entries = flagged.entries; won = among })
  ];
}

pub requested_spares : (world after : World) (seen : Seen) (request : Request) → AsksFair world request → Requested tree_form request world after seen → Spares world after
requested_spares world _ _ _ fair (loaded place) = same_spares world
requested_spares world _ _ _ fair (lost place from to differs) = same_spares world
requested_spares world _ _ _ fair (won place from to stood raised) = exchange_spares world Beside _ (record { target = place; from = from; to = to }) to fair stood refl

-- the setting of a flag
flag_fair : (world : World) (list : Listed) (node from : ℕ) → list.block < 2 ^ 17 → state_of from ≡ CLEAN → IsFair world (update_at node) from (flags_at node from list).to
flag_fair world list node from small clean = record {
  unmarked = λ updates e. absurd (omega (arith, clean, e));
  marks = λ updates block e. absurd (flag_unmarked list.call.op (omega (arith, e, flag_value list small node from, state_below list small)));
  held = λ other left e stands. absurd (child_update other node left e);
}

flag_spares : (world : World) (list : Listed) (search : TreeSearch) (since : ℕ) (entry : Entry) (word : ℕ) → IsOffered tree_form world list search since → slice_get list.entries 0 ≡ Some entry → world.words entry.target ≡ entry.from → IsExchanged entry word
    → Spares world (exchanged tree_form (By list 0) (listed_if false list) entry word world)
flag_spares world list search since entry word offered listed stood to =
    let o = offered_clean world list search since offered in
    let same : flags_at o.0 o.1 list ≡ entry = the_entry list.entries entry (flags_at o.0 o.1 list) listed o.2 in
    let fair : IsFair world entry.target entry.from entry.to = subst (λ (e : Entry). IsFair world e.target e.from e.to) same (flag_fair world list o.0 o.1 offered.small o.3) in
    exchange_spares world (By list 0) (listed_if false list) entry word fair stood (sym (value-cleared word) ∙ ap versioned_value to.to)

search_fair : (world : World) (shape : Shape world) (search : TreeSearch) (op : Op) (since : ℕ) → Asks search → Knows search op world since → AsksFair world (asked search)
search_fair world shape (SetReady last key value) op since asks knows = absurd asks
search_fair world shape (RemReady above last) op since asks knows = absurd asks
search_fair world shape (Helps help) op since asks knows = help_fair world shape knows.learnt.0 help knows.learnt.1
search_fair world shape _ op since asks knows = tt

pub spares : (world after : World) → Shape world → IsStep tree_form world after → Spares world after
spares world after shape nothing = same_spares world
spares world after shape (elsewhere place word outside) =
    let apart : (at : ℕ) → is_word no_root world at ≡ true → with_word place word world.words at ≡ world.words at = beside_word no_root world place word outside in
    record {
      frozen = λ node is marked. inl (apart (update_at node) is);
      held = λ node left is marked. apart (child_at node left) is;
      marks = λ node is block e. inl (ap versioned_value (sym (apart (update_at node) is)) ∙ e);
      flags = λ list flagged. inl (record { node = flagged.node; from = flagged.from; entries = flagged.entries; won = flagged.won });
    }
spares world after shape (clears place inside versioned listable) =
    let word = cleared_word (world.words place) in
    record {
      frozen = λ node is marked. elim (cases_eq (update_at node) place) [
        | inl same ↦ inr (word_put place word world.words (update_at node) same ∙ ap (λ p. cleared_word (world.words p)) (sym same))
        | inr apart ↦ inl (word_beside place word world.words (update_at node) apart)
      ];
      held = λ node left is marked. word_beside place word world.words (child_at node left) (λ e. true≢false (sym listable ∙ ap is_update (sym e) ∙ child_unlisted node left));
      marks = λ node is block e. elim (cases_eq (update_at node) place) [
        | inl same ↦ inl (ap (λ p. versioned_value (world.words p)) same ∙ sym (value-cleared (world.words place)) ∙ ap versioned_value (sym (word_put place word world.words (update_at node) same)) ∙ e)
        | inr apart ↦ inl (ap versioned_value (sym (word_beside place word world.words (update_at node) apart)) ∙ e)
      ];
      flags = λ list flagged. inl (record { node = flagged.node; from = flagged.from; entries = flagged.entries; won = flagged.won });
    }
spares world after shape (searches {seen = seen} search op since command asks knows requested) = requested_spares world after seen (tree_form.request_of search) (search_fair world shape search op since asks knows) requested
spares world after shape (wraps {seen = seen} help list stop command fits follows requested) = requested_spares world after seen (tree_form.wrap_request_of help) (help_fair world shape list help follows) requested
spares world after shape (first list search since entry word offered fresh none needs listed stood to) = absurd (true≢false (sym (offered_entries world list search since offered).3 ∙ needs))
spares world after shape (first_of_block list search since entry word offered fresh some unused filled listed stood to) =
    let flag = flag_spares world list search since entry word offered listed stood to in
    record {
      frozen = flag.frozen;
      held = flag.held;
      marks = flag.marks;
      flags = λ other flagged. flag.flags other (record { node = flagged.node; from = flagged.from; entries = flagged.entries; won = flagged.won });
    }
spares world after shape (second list search since entry word offered took untook listed stood to) = absurd (no_second list.entries _ entry (offered_entries world list search since offered).2 listed)
