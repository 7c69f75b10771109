-- A search that is fed with what its step saw knows the world after the step, and what it found is so.
use Rattle.std.proofs.Common.{ℕ, ◌≤◌, true, length, refl, sym, subst}
use Rattle.std.specs.Prelude.{nat_lt}
use Rattle.lin_report.specs.declared.calls.Op.{Op}
use Rattle.lin_report.specs.Object.{IsCommandOf, map_object}
use Rattle.step_memory.specs.declared.steps.Seen.{Seen}
use Rattle.normal_traits.specs.World.{Listed, World}
use Rattle.normal_traits.specs.Steps.{Requested, IsStep}
use Rattle.normal_traits.specs.Steps.Requested.{loaded}
use Rattle.normal_traits.specs.Steps.IsStep.{searches}
use Rattle.tree_help.specs.declared.states.Help.{Help}
use Rattle.tree_help.specs.declared.states.Helping.{Helping}
use Rattle.tree_help.specs.declared.states.Helping.TheVariants.{Running, Finished, BackedOut}
use Rattle.tree_help.specs.Helps.{Fits, help_fed}
use Rattle.ellen_tree_form.specs.declared.states.TreeSearch.{TreeSearch}
use Rattle.ellen_tree_form.specs.declared.states.TreeSearch.TheVariants.{AtUpdate, AtKey, AtChild, AtLeaf, Again, AtValue, SetReady, RemReady, Helps}
use Rattle.ellen_tree_form.specs.Words.{child_at, update_at, leaf_key_at}
use Rattle.ellen_tree_form.specs.Search.{Asks, asked, fed, leaf_of, after_help}
use Rattle.ellen_tree_form.specs.Shape.{Shape}
use Rattle.ellen_tree_form.specs.Knowledge.{Knows, Follows}
use Rattle.ellen_tree_form.specs.Form.{tree_form}
use Rattle.ellen_tree_form.proofs.Offers.{key_limit}
use Rattle.ellen_tree_form.proofs.Steps.Later.{later}
use Rattle.ellen_tree_form.proofs.Steps.Spares.{spares}
use Rattle.ellen_tree_search.proofs.KnowsKept.{knows_kept}
use Rattle.ellen_tree_search.proofs.Helping.{help_follows, help_fits_on}
use Rattle.ellen_tree_search.proofs.Passing.{update_fed, child_fed}
use Rattle.ellen_tree_search.proofs.Leaves.{Fed, leaf_fed, again_fed}

-- a help that ended or goes on
help_well : (world : World) (op : Op) (since : ℕ) (stay : TreeSearch) (help : Help) (helping : Helping) → since ≤ length world.changes → (list : Listed) × Follows help world list → Fits help → Fed world op since (after_help stay (help, helping))
help_well world op since stay help Running began follows fits = (record { began = began; learnt = follows }, fits)
help_well world op since stay help Finished began follows fits = (record { began = began; learnt = follows }, tt)
help_well world op since stay help BackedOut began follows fits = (record { began = began; learnt = follows }, tt)

fed_well : (world : World) (search : TreeSearch) (op : Op) (since : ℕ) (after : World) (seen : Seen) → IsCommandOf map_object op → Shape world → Asks search → Knows search op world since → Requested tree_form (asked search) world after seen → Fed after op since (fed search seen)
fed_well world (AtUpdate o above node) op since after seen command shape asks knows (loaded at') =
    (record { began = knows.began; learnt = (knows.learnt.0, knows.learnt.1, update_fed world shape op since (key_limit op command) knows.began above node knows.learnt.1) }, asks)
fed_well world (AtKey o above node update) op since after seen command shape asks knows (loaded at') = (record { began = knows.began; learnt = (knows.learnt.0, knows.learnt.1, knows.learnt.2, refl) }, asks)
fed_well world (AtChild o above node update key) op since after seen command shape asks knows (loaded at') =
    subst (λ (p : Op). Fed world op since (fed (AtChild p above node update key) (record { before = world.words (child_at node (nat_lt p.key key)); won = true }))) (sym knows.learnt.0)
    (let c = child_fed world shape op since (key_limit op command) knows.began above node update key knows.learnt.1 knows.learnt.2 knows.learnt.3 asks in (record { began = knows.began; learnt = c.0 }, c.1))
fed_well world (AtLeaf o above last) op since after seen command shape asks knows (loaded at') =
    subst (λ (p : Op). Fed world op since (fed (AtLeaf p above last) (record { before = world.words (leaf_key_at (leaf_of last)); won = true }))) (sym knows.learnt.0)
    (leaf_fed world shape op since knows.began above last knows.learnt.1 knows.learnt.2 asks)
fed_well world (Again o last is) op since after seen command shape asks knows (loaded at') =
    subst (λ (p : Op). Fed world op since (fed (Again p last is) (record { before = world.words (update_at last.node); won = true }))) (sym knows.learnt.0)
    (again_fed world shape op since knows.began last is command knows.learnt.1 knows.learnt.2 knows.learnt.3)
fed_well world (AtValue last key) op since after seen command shape asks knows (loaded at') =
    (record { began = knows.began; learnt = (knows.learnt.0, knows.learnt.1, knows.learnt.2, knows.learnt.3, knows.learnt.4, refl) }, asks)
fed_well world (SetReady last key value) op since after seen command shape asks knows r = absurd asks
fed_well world (RemReady above last) op since after seen command shape asks knows r = absurd asks
fed_well world (Helps help) op since after seen command shape asks knows r =
    let step : IsStep tree_form world after = searches (Helps help) op since command asks knows r in
    let list = knows.learnt.0 in
    let follows = help_follows world shape list after (later world after shape step) (spares world after shape step) help seen knows.learnt.1 r in
    help_well after op since (Helps help) (help_fed help seen).0 (help_fed help seen).1 (knows_kept world after (Helps help) op since command shape knows step).began (list, follows) (help_fits_on help seen)

pub search_fed : (world after : World) (seen : Seen) (search : TreeSearch) (op : Op) (since : ℕ) → IsCommandOf map_object op → Shape world → Asks search → Knows search op world since → Requested tree_form (asked search) world after seen → Fed after op since (fed search seen)
search_fed world after seen search op since command shape asks knows r = fed_well world search op since after seen command shape asks knows r
