-- The client laws of the tree, all of them.
use Rattle.std.proofs.Common.{arith}
use Rattle.normal_traits.specs.Laws.{Laws}
use Rattle.tree_help.specs.Helps.{help_fed}
use Rattle.ellen_tree_form.specs.Form.{tree_form}
use Rattle.ellen_tree_form.proofs.Opens as opening
use Rattle.ellen_tree_form.proofs.Asks as asking
use Rattle.ellen_tree_form.proofs.Offers as offering
use Rattle.ellen_tree_form.proofs.Helps.FollowedStays as keeping
use Rattle.ellen_tree_form.proofs.Helps.WrapFed as ending
use Rattle.ellen_tree_form.proofs.Plain as plain
use Rattle.ellen_tree_form.proofs.Helps.Wraps as wraps
use Rattle.ellen_tree_steps.proofs.Steps as steps
use Rattle.ellen_tree_search.proofs.KnowsKept as knowing
use Rattle.ellen_tree_search.proofs.Fed as feeding
use Rattle.ellen_tree_search.proofs.Fitting as fitting

pub the_tree_laws : Laws tree_form
the_tree_laws = record {
  of_world = record {
    effective = λ world newer older change shape e. plain.effective world newer older change shape e;
    one_change_a_list = λ world shape. shape.one_list;
    one_change_a_block = λ world shape. shape.one_block;
    causes_differ = λ world shape. shape.causes_differ;
    causes_bounded = λ world shape. plain.causes_bounded world shape;
    begins_asking = λ op command. (tt, omega arith);
    begins_knowing = λ world op command shape. plain.begins_knowing world op shape;
    notes_plain = λ block field some low. plain.notes_plain block field low;
    search_asks_well = λ world search op since command shape asks knows. asking.search_asks_well world shape search op since asks knows;
    contends = λ search seen asks e. plain.contends search seen asks e;
    lists = λ world search op since command knows ready. plain.lists world search op since knows ready;
    offers = λ world search op since block command shape knows ready small. offering.offers world shape search op since block command knows ready small;
    same_entries = λ search op block other e. plain.same_entries search op block other e;
    wrap_asks_well = λ world help list stop shape fits follows. asking.wrap_asks_well world shape list help follows;
    wrap_begun = λ world list search since stop shape offered stopped. wraps.wrap_begun world list search since stop shape offered stopped;
    dead_unchanged = λ world list change shape dead among. plain.dead_unchanged world list change shape dead among;
    dead_first = λ world list search since entry shape dead offered fresh listed. plain.dead_first world list entry dead fresh listed;
    beside = λ world list entry shape e. plain.beside world list entry shape e;
    begun_fits = λ world list search since stop shape offered stopped. fitting.begun_fits list.call.op list.entries stop;
  };
  opens = opening.opens;
  shape_kept = λ world after shape step. steps.shape_kept world after shape step;
  knows_kept = λ world after search op since command shape knows step. knowing.knows_kept world after search op since command shape knows step;
  follows_kept = λ world after help list stop shape follows step. keeping.follows_kept world after help list shape follows step;
  dead_kept = λ world after list shape dead step. keeping.dead_kept world after list shape dead step;
  search_fed = λ world after seen search op since command shape asks knows requested. feeding.search_fed world after seen search op since command shape asks knows requested;
  wrap_fed = λ world after seen help list stop command shape wraps' follows requested. ending.wrap_fed world shape list stop help after seen wraps' follows requested;
  answers_fit = λ world after seen search op since command shape asks knows requested. fitting.found_fits search seen;
  wraps_fit = λ world after seen help list stop command shape wraps' follows requested. fitting.wrapped_fits (help_fed help seen).1;
}
