-- A list answers Yes or No, or a key, or that there is none: that fits the record of a call.
use Rattle.std.proofs.Common.{ℕ, ◌==◌, ◌||◌, Bool, true, false, if◌then◌else◌, List, arith}
use Rattle.std.specs.Prelude.{nat_le}
use Rattle.lin_report.specs.declared.calls.Op.{Op}
use Rattle.lin_report.specs.declared.calls.Outcome.TheVariants.{Plain}
use Rattle.lin_report.specs.declared.calls.Reply.TheVariants.{Yes, Empty}
use Rattle.step_memory.specs.declared.steps.Seen.{Seen}
use Rattle.word_fields.specs.Versioned.{is_modified}
use Rattle.normal_traits.specs.declared.form.Found.{Found}
use Rattle.normal_traits.specs.declared.form.Found.TheVariants.{Going, Ready, Answer, Contended}
use Rattle.normal_traits.specs.declared.form.Wrapped.{Wrapped}
use Rattle.normal_traits.specs.declared.form.Wrapped.TheVariants as wrapped
use Rattle.normal_traits.specs.declared.lists.Entry.{Entry}
use Rattle.normal_traits.specs.Laws.{FoundFits, WrappedFits}
use Rattle.harris_list_form.specs.declared.states.Aim.{Aim}
use Rattle.harris_list_form.specs.declared.states.Aim.TheVariants.{Add, Del, Has}
use Rattle.harris_list_form.specs.declared.states.Left.{Left}
use Rattle.harris_list_form.specs.declared.states.Sought.{Sought}
use Rattle.harris_list_form.specs.declared.states.ListSearch.{ListSearch}
use Rattle.harris_list_form.specs.declared.states.ListSearch.TheVariants.{Start, Next, Key, Unlink, AddReady, DelReady, LeastStart, LeastNext, LeastUnlink, LeastKey}
use Rattle.harris_list_form.specs.declared.states.ListWrap.{ListWrap}
use Rattle.harris_list_form.specs.declared.states.ListWrap.TheVariants.{Over}
use Rattle.harris_list_form.specs.Least.{least_reached, least_met, least_moved}
use Rattle.harris_list_form.specs.Search.{is_marked, leading, led, next_place}
use Rattle.harris_list_form.specs.Search.{decided, decided_absent, decided_found, fed, finished, moved_on}
use Rattle.harris_list_form.specs.Wrap.{wrap_begun, wrap_fed}
use Rattle.client_lemmas.proofs.Outcomes.{either}

-- a choice fits where both ways do
abbrev Fits : ListSearch × Found → Type 0
Fits result = FoundFits result.1

absent_fits : (stay : ListSearch) (aim : Aim) (left : Left) (cur : ℕ) → FoundFits (decided_absent stay aim left cur).1
absent_fits stay Add left cur = either Fits (is_modified left.word) (stay, Contended) (AddReady left cur, Ready) tt tt
absent_fits stay Del left cur = omega arith
absent_fits stay Has left cur = omega arith

present_fits : (stay : ListSearch) (aim : Aim) (left : Left) (cur next : ℕ) → FoundFits (decided_found stay aim left cur next).1
present_fits stay Add left cur next = omega arith
present_fits stay Del left cur next = either Fits (is_modified left.word || is_modified next) (stay, Contended) (DelReady left cur next, Ready) tt tt
present_fits stay Has left cur next = omega arith

decided_fits : (stay : ListSearch) (sought : Sought) (left : Left) (cur next : ℕ) (found : Bool) → FoundFits (decided stay sought left cur next found).1
decided_fits stay sought left cur next found =
    either Fits found (decided_found stay sought.aim left cur next) (decided_absent stay sought.aim left cur) (present_fits stay sought.aim left cur next) (absent_fits stay sought.aim left cur)

finished_fits : (stay : ListSearch) (sought : Sought) (left : Left) (run : Bool) (cur next : ℕ) (found : Bool) → FoundFits (finished stay sought left run cur next found).1
finished_fits stay sought left run cur next found =
    either Fits run (if is_modified left.word then (stay, Contended) else (Unlink sought left cur next found, Going)) (decided stay sought left cur next found)
    (either Fits (is_modified left.word) (stay, Contended) (Unlink sought left cur next found, Going) tt tt) (decided_fits stay sought left cur next found)

moved_fits : (stay : ListSearch) (sought : Sought) (left : Left) (run : Bool) (cur : ℕ) → FoundFits (moved_on stay sought left run cur).1
moved_fits stay sought left run cur = either Fits (cur == 0) (finished stay sought left run cur 0 false) (Next sought left run cur, Going) (finished_fits stay sought left run cur 0 false) tt

least_reached_fits : (stay : ListSearch) (cur : ℕ) → FoundFits (least_reached stay cur).1
least_reached_fits stay cur = either Fits (cur == 0) (stay, Answer (Plain Empty)) (LeastKey cur, Going) (omega arith) tt

least_met_fits : (stay : ListSearch) (left : Left) (run : Bool) (cur : ℕ) → FoundFits (least_met stay left run cur).1
least_met_fits stay left run cur =
    either Fits run (if is_modified left.word then (stay, Contended) else (LeastUnlink left cur, Going)) (least_reached stay cur)
    (either Fits (is_modified left.word) (stay, Contended) (LeastUnlink left cur, Going) tt tt) (least_reached_fits stay cur)

least_moved_fits : (stay : ListSearch) (left : Left) (run : Bool) (cur : ℕ) → FoundFits (least_moved stay left run cur).1
least_moved_fits stay left run cur = either Fits (cur == 0) (least_met stay left run cur) (LeastNext left run cur, Going) (least_met_fits stay left run cur) tt

pub found_fits : (search : ListSearch) (seen : Seen) → FoundFits (fed search seen).1
found_fits (Start sought start) seen = moved_fits (Start sought start) sought (record { place = start; word = seen.before }) false (led seen.before)
found_fits (Next sought left run cur) seen =
    either Fits (is_marked seen.before) (moved_on (Next sought left run cur) sought left true (led seen.before)) (Key sought left run cur seen.before, Going)
    (moved_fits (Next sought left run cur) sought left true (led seen.before)) tt
found_fits (Key sought left run cur next) seen =
    let stay = Key sought left run cur next in
    let behind : Left = record { place = next_place cur; word = next } in
    either Fits (nat_le sought.key seen.before) (finished stay sought left run cur next (seen.before == sought.key)) (moved_on stay sought behind false (led next))
    (finished_fits stay sought left run cur next (seen.before == sought.key)) (moved_fits stay sought behind false (led next))
found_fits (Unlink sought left cur next found) seen =
    let stay = Unlink sought left cur next found in
    let now : Left = record { place = left.place; word = leading left.word cur } in
    either Fits seen.won (decided stay sought now cur next found) (stay, Contended) (decided_fits stay sought now cur next found) tt
found_fits (LeastStart start) seen = least_moved_fits (LeastStart start) (record { place = start; word = seen.before }) false (led seen.before)
found_fits (LeastNext left run cur) seen =
    let stay = LeastNext left run cur in
    either Fits (is_marked seen.before) (least_moved stay left true (led seen.before)) (least_met stay left run cur) (least_moved_fits stay left true (led seen.before)) (least_met_fits stay left run cur)
found_fits (LeastUnlink left cur) seen =
    let stay = LeastUnlink left cur in
    either Fits seen.won (least_reached stay cur) (stay, Contended) (least_reached_fits stay cur) tt
found_fits (LeastKey cur) seen = omega arith
found_fits (AddReady left cur) seen = tt
found_fits (DelReady left cur next) seen = tt

pub begun_fits : (op : Op) (entries : List Entry) (stop : ℕ) → WrappedFits (wrap_begun op entries stop).1
begun_fits op entries stop = either (λ (result : ListWrap × Wrapped). WrappedFits result.1) (stop == 0) (Over, wrapped.Restart) (Over, wrapped.Done (Plain Yes)) tt (omega arith)

pub wrapped_fits : (wrap : ListWrap) (seen : Seen) → WrappedFits (wrap_fed wrap seen).1
wrapped_fits Over seen = omega arith
