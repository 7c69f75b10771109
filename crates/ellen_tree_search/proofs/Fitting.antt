-- The tree answers Yes, No, Absent, or names a leaf: it fits the record of a call.
use Rattle.std.proofs.Common.{ℕ, Bool, true, false, ◌==◌, ◌||◌, ◌&&◌, not, List, Option, arith}
use Rattle.std.specs.Prelude.{if◌then◌else◌, Some, None}
use Rattle.lin_report.specs.declared.calls.Op.{Op}
use Rattle.lin_report.specs.declared.calls.Outcome.TheVariants.{Plain, ValueOf}
use Rattle.lin_report.specs.declared.calls.Reply.TheVariants.{No, Absent, Done}
use Rattle.lin_report.specs.declared.calls.TheConstants.{GET}
use Rattle.step_memory.specs.declared.steps.Seen.{Seen}
use Rattle.word_fields.specs.Versioned.{is_modified}
use Rattle.normal_traits.specs.declared.form.Found.{Found}
use Rattle.normal_traits.specs.declared.form.Found.TheVariants as found
use Rattle.normal_traits.specs.declared.form.Wrapped.TheVariants as wrapped
use Rattle.normal_traits.specs.declared.lists.Entry.{Entry}
use Rattle.normal_traits.specs.Laws.{FitsRecord, FoundFits, WrappedFits}
use Rattle.tree_help.specs.declared.states.TheConstants.{MARKED}
use Rattle.tree_help.specs.declared.states.Help.{Help}
use Rattle.tree_help.specs.declared.states.Helping.{Helping}
use Rattle.tree_help.specs.declared.states.Helping.TheVariants.{Running, Finished, BackedOut}
use Rattle.tree_help.specs.Updates.{state_of, is_clean}
use Rattle.tree_help.specs.Helps.{help_fed}
use Rattle.ellen_tree_form.specs.declared.states.TreeSearch.{TreeSearch}
use Rattle.ellen_tree_form.specs.declared.states.TreeSearch.TheVariants.{AtUpdate, AtKey, AtChild, AtLeaf, Again, AtValue, SetReady, RemReady, Helps}
use Rattle.ellen_tree_form.specs.declared.states.Passed.{Passed}
use Rattle.ellen_tree_form.specs.Words.{update_at, is_set, is_rem, may_list}
use Rattle.ellen_tree_form.specs.Search.{fed, helped, set_at, rem_at, met_leaf, told, leaf_of, after_help, wrap_begun_of, wrapped_by, flags}
use Rattle.client_lemmas.proofs.Outcomes.{either}

-- what a search found fits
abbrev SearchFits : TreeSearch × Found → Type 0
SearchFits result = FoundFits result.1

told_fits : (op : Op) (last : Passed) (is : Bool) → FitsRecord (told op last is)
told_fits op last is = by_tests (op.code == GET) is
  where
    by_tests : (a b : Bool) → FitsRecord (if a then (if b then ValueOf (leaf_of last) else Plain Absent) else Plain No)
    by_tests true true = tt
    by_tests true false = omega arith
    by_tests false b = omega arith

set_fits : (stay : TreeSearch) (last : Passed) (key : ℕ) → FoundFits (set_at stay last key).1
set_fits stay last key =
    either SearchFits (is_modified last.update) (stay, found.Contended) (if is_clean last.update then (AtValue last key, found.Going) else helped (update_at last.node) last.update) tt
    (either SearchFits (is_clean last.update) (AtValue last key, found.Going) (helped (update_at last.node) last.update) tt tt)

rem_fits : (stay : TreeSearch) (above : Option Passed) (last : Passed) → FoundFits (rem_at stay above last).1
rem_fits stay None last = tt
rem_fits stay (Some above) last =
    either SearchFits (is_modified above.update || is_modified last.update) (stay, found.Contended)
    (if not (is_clean above.update) then helped (update_at above.node) above.update else (if not (is_clean last.update) then helped (update_at last.node) last.update else (RemReady above last, found.Ready))) tt
    (either SearchFits (not (is_clean above.update)) (helped (update_at above.node) above.update) (if not (is_clean last.update) then helped (update_at last.node) last.update else (RemReady above last, found.Ready)) tt
    (either SearchFits (not (is_clean last.update)) (helped (update_at last.node) last.update) (RemReady above last, found.Ready) tt tt))

leaf_fits : (stay : TreeSearch) (op : Op) (above : Option Passed) (last : Passed) (key : ℕ) (is : Bool) → FoundFits (met_leaf stay op above last key is).1
leaf_fits stay op above last key is =
    either SearchFits (is_set op && not is) (set_at stay last key) (if is_rem op && is then rem_at stay above last else (Again op last is, found.Going)) (set_fits stay last key)
    (either SearchFits (is_rem op && is) (rem_at stay above last) (Again op last is, found.Going) (rem_fits stay above last) tt)

help_fits : (stay : TreeSearch) (help : Help) (helping : Helping) → FoundFits (after_help stay (help, helping)).1
help_fits stay help Running = tt
help_fits stay help Finished = tt
help_fits stay help BackedOut = tt

pub found_fits : (search : TreeSearch) (seen : Seen) → FoundFits (fed search seen).1
found_fits (AtUpdate o above node) seen = tt
found_fits (AtKey o above node update) seen = tt
found_fits (AtChild o above node update key) seen = tt
found_fits (AtLeaf o above last) seen = leaf_fits (AtLeaf o above last) o above last seen.before (seen.before == o.key)
found_fits (Again o last is) seen = either SearchFits (state_of seen.before == MARKED) (helped (update_at last.node) seen.before) (Again o last is, found.Answer (told o last is)) tt (told_fits o last is)
found_fits (AtValue last key) seen = tt
found_fits (SetReady last key value) seen = tt
found_fits (RemReady above last) seen = tt
found_fits (Helps help) seen = help_fits (Helps help) (help_fed help seen).0 (help_fed help seen).1

-- ---- wrap-ups

pub begun_fits : (op : Op) (entries : List Entry) (stop : ℕ) → WrappedFits (wrap_begun_of op entries stop)
begun_fits op entries stop = by_tests (may_list op && (stop == 0)) (flags op entries)
  where
    by_tests : (a b : Bool) → WrappedFits (if a then wrapped.Restart else (if b then wrapped.Going else wrapped.Done (Plain Done)))
    by_tests true b = tt
    by_tests false true = tt
    by_tests false false = omega arith

pub wrapped_fits : (helping : Helping) → WrappedFits (wrapped_by helping)
wrapped_fits Running = tt
wrapped_fits Finished = omega arith
wrapped_fits BackedOut = tt
