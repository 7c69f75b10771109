-- The tree as a structure in normalized form.
use Rattle.std.specs.Prelude.{false}
use Rattle.lin_report.specs.declared.calls.Client.TheVariants as client
use Rattle.lin_report.specs.Object.{map_object}
use Rattle.node_arena.specs.Opening.{opening_word}
use Rattle.normal_traits.specs.World.{no_root}
use Rattle.lin_report.proofs.Tellable.{objects_are_tellable}
use Rattle.node_arena.proofs.Openings.{clients_open}
use Rattle.normal_traits.specs.NormalForm.{NormalForm}
use Rattle.ellen_tree_form.specs.Words.{is_versioned, is_update, may_list}
use Rattle.tree_help.specs.declared.states.Help.{Help}
use Rattle.tree_help.specs.Helps.{help_asked, help_fed}
use Rattle.ellen_tree_form.specs.declared.states.TreeSearch.{TreeSearch}
use Rattle.ellen_tree_form.specs.Search.{begun, asked, fed, offered, Asks, IsReady, begin_wrap_of, wrap_begun_of, wrapped_by, WrapsUp}
use Rattle.ellen_tree_form.specs.Shape.{Shape, adds_beside, cause_of}
use Rattle.ellen_tree_form.specs.Knowledge.{Knows, Keeps, IsForced, Follows, Dead}

abbrev pub tree_form : NormalForm TreeSearch Help
tree_form = record {
  object = map_object;
  tellable = objects_are_tellable client.Tree;
  is_root = no_root;
  opening = opening_word client.Tree;
  opens = clients_open client.Tree;
  needs_block = may_list;
  begin_of = begun;
  request_of = asked;
  found_of = λ search seen. (fed search seen).1;
  feed_of = λ search seen. (fed search seen).0;
  offer_of = offered;
  begin_wrap_of = begin_wrap_of;
  wrap_begun_of = wrap_begun_of;
  wrap_request_of = help_asked;
  wrap_found_of = λ help seen. wrapped_by (help_fed help seen).1;
  feed_wrap_of = λ help seen. (help_fed help seen).0;
  asks = Asks;
  is_ready = IsReady;
  wraps = WrapsUp;
  keeps = Keeps;
  is_forced = IsForced;
  may_list = may_list;
  is_versioned = is_versioned;
  is_listable = is_update;
  shape = Shape;
  adds = λ list j. false;
  adds_beside = adds_beside;
  cause_of = cause_of;
  knows = Knows;
  follows = λ help list stop world. Follows help world list;
  dead = Dead;
}
