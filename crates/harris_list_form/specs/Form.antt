-- Sorted lists as a structure in normalized form.
use Rattle.std.specs.Prelude.{◌==◌, None}
use Rattle.lin_report.specs.Object.{object_of}
use Rattle.node_arena.specs.Opening.{opening_word}
use Rattle.normal_traits.specs.World.{no_root}
use Rattle.lin_report.proofs.Tellable.{objects_are_tellable}
use Rattle.node_arena.proofs.Openings.{clients_open}
use Rattle.normal_traits.specs.NormalForm.{NormalForm}
use Rattle.harris_list_form.specs.declared.states.ListSearch.{ListSearch}
use Rattle.harris_list_form.specs.declared.states.ListWrap.{ListWrap}
use Rattle.harris_list_form.specs.Lists.{Lists, is_versioned}
use Rattle.harris_list_form.specs.Search.{is_add, may_list, begun, asked, fed, Asks, IsReady, offered}
use Rattle.harris_list_form.specs.Wrap.{wrap_begun, wrap_asked, wrap_fed, Wraps}
use Rattle.harris_list_form.specs.Shape.{cause_of, AreSorted}
use Rattle.harris_list_form.specs.Knowledge.{Knows, Keeps, Follows}
use Rattle.client_lemmas.specs.Lost.{IsLost}

-- each change is made by a list's entry 0, and none beside the lists; a search gives up for a set bit or a
-- lost exchange alone, and a list is dead where its first entry was passed
abbrev pub list_form : Lists → NormalForm ListSearch ListWrap
list_form lists =
    record {
      object = object_of lists.client;
      tellable = objects_are_tellable lists.client;
      is_root = no_root;
      opening = opening_word lists.client;
      opens = clients_open lists.client;
      needs_block = is_add;
      begin_of = begun lists;
      request_of = asked;
      found_of = λ search seen. (fed search seen).1;
      feed_of = λ search seen. (fed search seen).0;
      offer_of = offered;
      begin_wrap_of = λ op entries stop. (wrap_begun op entries stop).0;
      wrap_begun_of = λ op entries stop. (wrap_begun op entries stop).1;
      wrap_request_of = wrap_asked;
      wrap_found_of = λ wrap seen. (wrap_fed wrap seen).1;
      feed_wrap_of = λ wrap seen. (wrap_fed wrap seen).0;
      asks = Asks;
      is_ready = IsReady;
      wraps = Wraps;
      keeps = Keeps;
      is_forced = λ search seen. ⊥;
      may_list = may_list;
      is_versioned = is_versioned lists;
      is_listable = is_versioned lists;
      shape = AreSorted lists;
      adds = λ list j. j == 0;
      adds_beside = λ world entry. None;
      cause_of = cause_of;
      knows = Knows lists;
      follows = Follows;
      dead = IsLost no_root (is_versioned lists);
    }
