-- The queue as a structure in normalized form.
use Rattle.std.specs.Prelude.{true, None}
use Rattle.lin_report.specs.declared.calls.Client.TheVariants.{Queue}
use Rattle.lin_report.specs.Object.{queue_object}
use Rattle.node_arena.specs.Opening.{opening_word}
use Rattle.lin_report.proofs.Tellable.{objects_are_tellable}
use Rattle.node_arena.proofs.Openings.{clients_open}
use Rattle.normal_traits.specs.NormalForm.{NormalForm}
use Rattle.ms_queue_form.specs.declared.states.QueueSearch.{QueueSearch}
use Rattle.ms_queue_form.specs.declared.states.QueueWrap.{QueueWrap}
use Rattle.ms_queue_form.specs.Search.{is_put, begun, asked, fed, Asks, IsReady, offered}
use Rattle.ms_queue_form.specs.Wrap.{wrap_begun, wrap_asked, wrap_fed, Wraps}
use Rattle.ms_queue_form.specs.Chain.{is_root, is_versioned, is_listable}
use Rattle.ms_queue_form.specs.Shape.{cause_of, IsQueue}
use Rattle.ms_queue_form.specs.Knowledge.{Knows, Keeps, Follows}
use Rattle.client_lemmas.specs.Lost.{IsLost}

-- each change is made by a list's entry 0, and none beside the lists; a search gives up for a set bit or a
-- lost exchange alone, and a list is dead where its one entry was passed
abbrev pub queue_form : NormalForm QueueSearch QueueWrap
queue_form =
    record {
      object = queue_object;
      tellable = objects_are_tellable Queue;
      is_root = is_root;
      opening = opening_word Queue;
      opens = clients_open Queue;
      needs_block = is_put;
      begin_of = begun;
      request_of = asked;
      found_of = λ search seen. (fed search seen).1;
      feed_of = λ search seen. (fed search seen).0;
      offer_of = offered;
      begin_wrap_of = λ op entries stop. (wrap_begun op entries stop).0;
      wrap_begun_of = λ op entries stop. (wrap_begun op entries stop).1;
      wrap_request_of = wrap_asked;
      wrap_found_of = λ wrap seen. (wrap_fed wrap seen).1;
      feed_wrap_of = λ wrap seen. (wrap_fed wrap seen).0;
      asks = Asks;
      is_ready = IsReady;
      wraps = Wraps;
      keeps = Keeps;
      is_forced = λ search seen. ⊥;
      may_list = λ op. true;
      is_versioned = is_versioned;
      is_listable = is_listable;
      shape = IsQueue;
      adds = λ list j. true;
      adds_beside = λ world entry. None;
      cause_of = cause_of;
      knows = Knows;
      follows = Follows;
      dead = IsLost is_root is_versioned;
    }
