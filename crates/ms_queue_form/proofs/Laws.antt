-- The laws of the queue: what its steps amount to.
use Rattle.std.proofs.Common.{refl}
use Rattle.normal_traits.specs.Laws.{Laws}
use Rattle.ms_queue_form.specs.Search.{asked}
use Rattle.ms_queue_form.specs.Wrap.{wrap_asked}
use Rattle.ms_queue_form.specs.Form.{queue_form}
use Rattle.ms_queue_form.proofs.Fitting.{begun_fits, found_fits, wrapped_fits}
use Rattle.ms_queue_form.proofs.Places.{note_not_versioned}
use Rattle.ms_queue_form.proofs.Later.{Anyhow, later, requested_later, asked_moves, wrap_asked_moves}
use Rattle.ms_queue_form.proofs.LearntStays.{knows_later, follows_later}
use Rattle.ms_queue_form.proofs.ShapeKept.{search_helps, help_keeps, shape_keeps}
use Rattle.ms_queue_form.proofs.Opening.{opens, effective_at, causes_within}
use Rattle.ms_queue_form.proofs.Searching.{begins_asking, begins_knowing, asks_well, fed_well}
use Rattle.ms_queue_form.proofs.Offers.{contends, lists, offers, same_entries}
use Rattle.ms_queue_form.proofs.Wrapping.{wrap_asks_well, begun_well, wrap_met}
use Rattle.ms_queue_form.proofs.Changes.{Extends}
use Rattle.client_lemmas.proofs.Entries.{none_beside}
use Rattle.client_lemmas.proofs.Requests.{went}
use Rattle.client_lemmas.proofs.Lost.{lost_first, lost_later, lost_unchanged}

pub laws : Laws queue_form
laws =
    record {
      of_world = record {
        effective = effective_at;
        one_change_a_list = λ world queue. queue.made.lists_differ;
        one_change_a_block = λ world queue. queue.made.blocks_differ;
        causes_differ = λ world queue. queue.journal.causes_differ;
        causes_bounded = causes_within;
        begins_asking = λ op command. begins_asking op;
        begins_knowing = λ world op command queue. begins_knowing world op command;
        notes_plain = λ block field some low. note_not_versioned block field low;
        search_asks_well = λ world searched op since command queue asks knows. asks_well world searched since queue asks knows.learnt;
        contends = λ searched seen asks found. contends searched seen found;
        lists = λ world searched op since command knows ready. (refl, lists searched op ready knows.serves);
        offers = λ world searched op since block command queue knows ready small. offers world searched op since block command queue knows.serves knows.learnt ready small;
        same_entries = same_entries;
        wrap_asks_well = λ world wrap list stop queue going follows. wrap_asks_well world wrap list stop going follows;
        wrap_begun = λ world list searched since stop queue offer stopped. begun_well world list searched since stop queue offer stopped;
        dead_unchanged = λ world list change queue. lost_unchanged queue_form world list change queue.made;
        dead_first = λ world list searched since entry queue dead offer fresh listed. lost_first queue_form world list entry dead listed;
        beside = λ world list entry queue e. absurd (none_beside list e);
        begun_fits = λ world list searched since stop queue offer stopped. begun_fits list.call.op list.entries stop;
      };
      opens = opens;
      shape_kept = shape_keeps;
      knows_kept = λ world after searched op since command queue knows step. knows_later world after queue (later world after queue step) (shape_keeps world after queue step) searched op since knows;
      follows_kept = λ world after wrap list stop queue follows step. follows_later world after queue (later world after queue step) wrap list stop follows;
      dead_kept = λ world after list queue dead step. lost_later queue_form Extends Anyhow world after list (later world after queue step) dead;
      search_fed = λ world after seen searched op since command queue asks knows requested.
          let w = went queue_form (asked searched) world after seen requested in
          let kept = requested_later (asked searched) world after seen queue (asked_moves searched) requested in
          let still = help_keeps world after seen (asked searched) queue kept (search_helps world searched since knows.learnt) w in
          fed_well world after seen searched op since queue kept asks knows (knows_later world after queue kept still searched op since knows) w;
      wrap_fed = λ world after seen wrap list stop command queue going follows requested.
          wrap_met world after seen wrap list stop queue (requested_later (wrap_asked wrap) world after seen queue (wrap_asked_moves wrap) requested) going follows (went queue_form (wrap_asked wrap) world after seen requested);
      answers_fit = λ world after seen searched op since command queue asks knows requested. found_fits searched seen;
      wraps_fit = λ world after seen wrap list stop command queue going follows requested. wrapped_fits wrap seen;
    }
