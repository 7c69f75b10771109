-- The stack as a structure in normalized form.
use Rattle.std.specs.Prelude.{true, None}
use Rattle.normal_traits.specs.NormalForm.{NormalForm}
use Rattle.client_lemmas.specs.Lost.{IsLost}
use Rattle.treiber_stack_form.specs.declared.states.StackSearch.{StackSearch}
use Rattle.treiber_stack_form.specs.declared.states.StackWrap.{StackWrap}
use Rattle.treiber_stack_form.specs.declared.states.StackWrap.TheVariants.{Over}
use Rattle.treiber_stack_form.specs.Object.{is_put, stack_object}
use Rattle.treiber_stack_form.specs.Steps.{begun, asked, fed, Asks, IsReady, offered, wrap_begun, wrap_asked, wrap_fed, Wraps}
use Rattle.treiber_stack_form.specs.Meanings.{is_top, cause_of, IsStack, Knows, Keeps}
use Rattle.treiber_stack_form.specs.Tellable.{stack_is_tellable, zeros_open}

-- each change is made by a list's entry 0, and none beside the lists; a search gives up for a set bit alone, and a list
-- is dead where its one entry was passed
abbrev pub stack_form : NormalForm StackSearch StackWrap
stack_form =
    record {
      object = stack_object;
      tellable = stack_is_tellable;
      is_root = is_top;
      opening = λ place. 0;
      opens = zeros_open;
      needs_block = is_put;
      begin_of = begun;
      request_of = asked;
      found_of = λ search seen. (fed search seen).1;
      feed_of = λ search seen. (fed search seen).0;
      offer_of = offered;
      begin_wrap_of = λ op entries stop. Over;
      wrap_begun_of = wrap_begun;
      wrap_request_of = λ wrap. wrap_asked;
      wrap_found_of = λ wrap seen. wrap_fed;
      feed_wrap_of = λ wrap seen. wrap;
      asks = Asks;
      is_ready = IsReady;
      wraps = Wraps;
      keeps = Keeps;
      is_forced = λ search seen. ⊥;
      may_list = λ op. true;
      is_versioned = is_top;
      is_listable = is_top;
      shape = IsStack;
      adds = λ list j. true;
      adds_beside = λ world entry. None;
      cause_of = cause_of;
      knows = Knows;
      follows = λ wrap list stop world. ⊥;
      dead = IsLost is_top is_top;
    }
