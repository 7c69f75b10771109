-- The laws of sorted lists: what their steps amount to, however many lists there are and wherever they begin.
use Rattle.std.proofs.Common.{◌≡◌, ℕ, refl, arith}
use Rattle.std.proofs.lemmas.Bool.{eqb-true}
use Rattle.node_arena.specs.Opening.{opening_word}
use Rattle.normal_traits.specs.Laws.{Laws}
use Rattle.harris_list_form.specs.Lists.{Lists, AreLists, the_list}
use Rattle.harris_list_form.specs.Search.{asked}
use Rattle.harris_list_form.specs.Form.{list_form}
use Rattle.harris_list_form.proofs.Calls.Fitting.{begun_fits, found_fits, wrapped_fits}
use Rattle.harris_list_form.proofs.Held.Places.{note_plain, second_block}
use Rattle.harris_list_form.proofs.Calls.Commands.{key_limit}
use Rattle.harris_list_form.proofs.Steps.Later.{Freezes, later, requested_later, asked_moves}
use Rattle.harris_list_form.proofs.Steps.LearntStays.{knows_later}
use Rattle.harris_list_form.proofs.Steps.ShapeKept.{shape_keeps, search_keeps}
use Rattle.harris_list_form.proofs.Held.Opening.{opens, effective_at, causes_within}
use Rattle.harris_list_form.proofs.Calls.Searching.{begins_asking, begins_knowing, asks_well, fed_well}
use Rattle.harris_list_form.proofs.Calls.Offers.{contends, lists_well, offers, same_entries}
use Rattle.harris_list_form.proofs.Calls.Wrapping.{begun_well}
use Rattle.harris_list_form.proofs.Steps.Changes.{Extends}
use Rattle.client_lemmas.proofs.Entries.{none_beside}
use Rattle.client_lemmas.proofs.Requests.{went}
use Rattle.client_lemmas.proofs.Lost.{lost_first, lost_later, lost_unchanged}

module _ (lists : Lists) (are : AreLists lists) where
  pub laws : Laws (list_form lists)
  laws =
      record {
        of_world = record {
          effective = effective_at lists are;
          one_change_a_list = λ world sorted. sorted.made.lists_differ;
          one_change_a_block = λ world sorted. sorted.made.blocks_differ;
          causes_differ = λ world sorted. sorted.has_path.journal.causes_differ;
          causes_bounded = causes_within lists are;
          begins_asking = λ op command. begins_asking lists are op;
          begins_knowing = λ world op command sorted. begins_knowing lists are world op command;
          notes_plain = λ block field some low. note_plain lists are block field some low;
          search_asks_well = λ world searched op since command sorted asks knows. asks_well lists are world searched op.key since sorted asks knows.learnt;
          contends = λ searched seen asks found. contends lists searched seen found;
          lists = λ world searched op since command knows ready. lists_well searched op ready knows.serves;
          offers = λ world searched op since block command sorted knows ready small.
              offers lists are world sorted searched op since block (key_limit lists.client are.sets op command) knows.serves knows.learnt ready small;
          same_entries = same_entries;
          wrap_asks_well = λ world wrap list stop sorted going follows. absurd follows;
          wrap_begun = λ world list searched since stop sorted offer stopped. begun_well lists are world sorted list searched since stop offer stopped;
          dead_unchanged = λ world list change sorted. lost_unchanged (list_form lists) world list change sorted.made;
          dead_first = λ world list searched since entry sorted dead offer fresh listed. lost_first (list_form lists) world list entry dead listed;
          beside = λ world list entry sorted e. absurd (none_beside list e);
          begun_fits = λ world list searched since stop sorted offer stopped. begun_fits list.call.op list.entries stop;
        };
        opens = opens lists are;
        shape_kept = shape_keeps lists are;
        knows_kept = λ world after searched op since command sorted knows step. knows_later lists are world after sorted (later lists are world after sorted step) searched op since knows;
        follows_kept = λ world after wrap list stop sorted follows step. follows;
        dead_kept = λ world after list sorted dead step. lost_later (list_form lists) Extends Freezes world after list (later lists are world after sorted step) dead;
        search_fed = λ world after seen searched op since command sorted asks knows requested.
            let w = went (list_form lists) (asked searched) world after seen requested in
            let kept = requested_later lists are (asked searched) world after seen sorted (asked_moves lists are world op.key since searched asks knows.learnt) requested in
            fed_well lists are world after seen searched op since command sorted (search_keeps lists are world after seen op.key since searched sorted kept asks knows.learnt w) asks knows
            (knows_later lists are world after sorted kept searched op since knows) w;
        wrap_fed = λ world after seen wrap list stop command sorted going follows requested. absurd follows;
        answers_fit = λ world after seen searched op since command sorted asks knows requested. found_fits searched seen;
        wraps_fit = λ world after seen wrap list stop command sorted going follows requested. wrapped_fits wrap seen;
      }

-- ---- the client `list`

null_at : (place : ℕ) → opening_word the_list.client place ≡ 0
unfolding opening_word
null_at place = refl

pub one_list_is : AreLists the_list
one_list_is =
    record {
      sets = tt;
      starts = λ key. refl;
      behind = λ place is. omega (arith, eqb-true place 46 is);
      within = λ place is. omega (arith, eqb-true place 46 is, second_block);
      opening = λ place is. null_at place;
      least = λ op command code key. refl;
    }

pub the_list_laws : Laws (list_form the_list)
the_list_laws = laws the_list one_list_is
