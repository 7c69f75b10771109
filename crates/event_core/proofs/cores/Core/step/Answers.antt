use Rattle.std.proofs.Common.{rules, append-nil, arith, refl, ◌∙◌, ◌+◌, ◌++◌, ◌≤◌, sym, subst, ap, length, vec_len, vec_capacity}
use Rattle.step_memory.specs.Step.{seen_of, words_after}
use Rattle.fast_slow_engine.specs.declared.setup.Turn.TheVariants as turn
use Rattle.fast_slow_engine.specs.PhaseTable.{mech_fed, mech_request, mech_turn}
use Rattle.fast_slow_engine.proofs.SameCalls.{same_as_fed}
use Rattle.run_invariant.proofs.Kept.Induction.{runs_are_kept}
use Rattle.run_invariant.proofs.Kept.EveryRun.{queues_kept}
use Rattle.event_core.specs.Cores.{core_stepped, core_turn}
use Rattle.event_core.proofs.StepsAreMoves.{is_over_by, next_core, next_turn, not_over_by, over_core, over_turn, seated}
use Rattle.event_core.proofs.Rooms.{over_kept, room_for_lines, room_to_note, stepped_kept}
use Rattle.event_core.specs.Noted.{marked}
use Rattle.event_core.proofs.StepEvents.{goes_on_over, mark_told, none_is, tick_told, unmarked_told}
use Rattle.event_core.proofs.cores.Core.step.Goals as goal

pub returns-then-not-begin_next-clause-core : goal.returns-then-not-begin_next-clause-core
returns-then-not-begin_next-clause-core g c =
    over_core g.C.Normalized.form _ _ _ _ _ _ _ _ (seated _ _ _ _ _ _ c.self.view_is c.requires.seat) c.index_mut-at.ensures.value c.begin_next.ensures.machine c.begin_next.ensures.file
    (is_over_by _ _ c.begin_next.ensures.over c.if-not-begin_next.true)
    ∙ ap (core_stepped g.C.Normalized.form c.args.seat) c.self.view_is

pub returns-then-not-begin_next-clause-turn : goal.returns-then-not-begin_next-clause-turn
returns-then-not-begin_next-clause-turn g c =
    over_turn g.C.Normalized.form c.self.inside.setup _ _ _ _ _ _ (seated _ _ _ _ _ _ c.self.view_is c.requires.seat) c.index_mut-at.ensures.value
    (is_over_by _ _ c.begin_next.ensures.over c.if-not-begin_next.true)
    ∙ ap (core_turn g.C.Normalized.form c.args.seat) c.self.view_is

pub invariant_of-self : goal.invariant_of-self
invariant_of-self g c =
    over_kept g.C.Normalized.form c.self.inside.setup _ _ _ _ _ _ _ c.self.invariant _ _ _ (seated _ _ _ _ _ _ c.self.view_is c.requires.seat) c.index_mut-at.ensures.value c.begin_next.ensures.machine c.begin_next.ensures.file
    (is_over_by _ _ c.begin_next.ensures.over c.if-not-begin_next.true)

-- ---- a step that draws a tick

pub draw_tick-requires-clause-room : goal.draw_tick-requires-clause-room
draw_tick-requires-clause-room g c κs within =
    let form = g.C.Normalized.form in
    let laws = g.met.C.Normalized.laws in
    let setup = c.self.inside.setup in
    let mech = c.begin_next.new.self.mech in
    let words = c.self.inside.cells.words in
    let seen = seen_of (mech_request form mech) words in
    let few = subst (λ n. n ≤ length c.begin_next.new.self.file) (sym (same_as_fed form (mech_fed form mech seen) mech seen refl).number) c.begin_next.ensures.number in
    let told = tick_told form mech words (words_after (mech_request form mech) words) refl (sym c.draws_tick.ensures ∙ c.if-draws_tick.true) in
    let room = room_to_note form setup _ _ _ _ _ _ _ c.self.invariant _ _ _ (seated _ _ _ _ _ _ c.self.view_is c.requires.seat) c.index_mut-at.ensures.value c.begin_next.ensures.machine c.begin_next.ensures.file
    (queues_kept form laws (runs_are_kept form laws) setup) (c.begin_next.ensures.can (search rules)) (record { mech = mech_fed form mech seen; file = c.begin_next.new.self.file }) (words_after (mech_request form mech) words)
    refl refl refl few _ (search rules) in
    subst (λ es. vec_len c.self.inside.events + length es ≤ vec_capacity c.self.inside.events) (sym told) room

pub draw_tick-requires-clause-lines : goal.draw_tick-requires-clause-lines
draw_tick-requires-clause-lines g c κs within =
    room_for_lines g.C.Normalized.form c.self.inside.setup _ _ _ _ _ _ _ c.self.invariant _ _ _ (seated _ _ _ _ _ _ c.self.view_is c.requires.seat) c.index_mut-at.ensures.value c.begin_next.ensures.machine c.begin_next.ensures.file c.begin_next.ensures.lines

pub invariant_of-self-then-draws_tick : goal.invariant_of-self-then-draws_tick
invariant_of-self-then-draws_tick g c =
    let form = g.C.Normalized.form in
    let laws = g.met.C.Normalized.laws in
    let setup = c.self.inside.setup in
    let mech = c.begin_next.new.self.mech in
    let words = c.self.inside.cells.words in
    let told = tick_told form mech words c.draw_tick.new.cells.words c.draw_tick.ensures.words (sym c.draws_tick.ensures ∙ c.if-draws_tick.true) in
    stepped_kept form setup _ _ _ _ _ _ _ c.self.invariant _ _ _ (seated _ _ _ _ _ _ c.self.view_is c.requires.seat) c.index_mut-at.ensures.value c.begin_next.ensures.machine c.begin_next.ensures.file
    (queues_kept form laws (runs_are_kept form laws) setup) (c.begin_next.ensures.can (search rules)) c.draw_tick.new.at c.draw_tick.new.cells.words c.draw_tick.ensures.words c.draw_tick.ensures.mech
    c.draw_tick.ensures.file c.draw_tick.ensures.number _ _ _ _ _ c.begin_next.ensures.lines c.draw_tick.ensures.lines c.draw_tick.ensures.count c.draw_tick.ensures.room
    (c.draw_tick.ensures.items ∙ ap (λ es. c.self.inside.events.items ++ es) told) c.draw_tick.ensures.capacity

pub returns-then-draws_tick-clause-core : goal.returns-then-draws_tick-clause-core
returns-then-draws_tick-clause-core g c =
    let form = g.C.Normalized.form in
    let mech = c.begin_next.new.self.mech in
    let words = c.self.inside.cells.words in
    let told = tick_told form mech words c.draw_tick.new.cells.words c.draw_tick.ensures.words (sym c.draws_tick.ensures ∙ c.if-draws_tick.true) in
    next_core form _ _ _ _ _ _ _ _ _ _ _ _ _ (seated _ _ _ _ _ _ c.self.view_is c.requires.seat) c.index_mut-at.ensures.value c.begin_next.ensures.machine c.begin_next.ensures.file
    (not_over_by _ _ c.begin_next.ensures.over c.if-not-begin_next.false)
    c.draw_tick.ensures.words c.draw_tick.ensures.mech c.draw_tick.ensures.file refl
    c.draw_tick.ensures.receipts (c.draw_tick.ensures.items ∙ ap (λ es. c.self.inside.events.items ++ es) told)
    ∙ ap (core_stepped form c.args.seat) c.self.view_is

pub returns-then-draws_tick-clause-turn : goal.returns-then-draws_tick-clause-turn
returns-then-draws_tick-clause-turn g c =
    c.draw_tick.ensures.turn
    ∙ next_turn g.C.Normalized.form c.self.inside.setup _ _ _ _ _ _ c.begin_next.new.self _ (seated _ _ _ _ _ _ c.self.view_is c.requires.seat) c.index_mut-at.ensures.value c.begin_next.ensures.machine
    (not_over_by _ _ c.begin_next.ensures.over c.if-not-begin_next.false) refl
    ∙ ap (core_turn g.C.Normalized.form c.args.seat) c.self.view_is

-- ---- any other step

pub go_on_over-requires-clause-goes_on : goal.go_on_over-requires-clause-goes_on
go_on_over-requires-clause-goes_on g c κs within = goes_on_over g.C.Normalized.form c.begin_next.new.self.mech c.self.inside.cells.words _ refl (sym c.draws_tick.ensures ∙ c.if-draws_tick.false)

pub invariant_of-self-in_default : goal.invariant_of-self-in_default
invariant_of-self-in_default g c =
    let form = g.C.Normalized.form in
    let laws = g.met.C.Normalized.laws in
    let setup = c.self.inside.setup in
    let mech = c.begin_next.new.self.mech in
    let words = c.self.inside.cells.words in
    let made = c.go_on_over.ensures.made in
    let told = unmarked_told form mech words c.go_on_over.new.port.words made.words (sym c.draws_tick.ensures ∙ c.if-draws_tick.false) (none_is _ c.in_default.not-Some ∙ c.mark.ensures ∙ made.mark) in
    stepped_kept form setup _ _ _ _ _ _ _ c.self.invariant _ _ _ (seated _ _ _ _ _ _ c.self.view_is c.requires.seat) c.index_mut-at.ensures.value c.begin_next.ensures.machine c.begin_next.ensures.file
    (queues_kept form laws (runs_are_kept form laws) setup) (c.begin_next.ensures.can (search rules)) c.go_on_over.new.self c.go_on_over.new.port.words made.words
    (c.go_on_over.ensures.mech ∙ ap (mech_fed form mech) made.saw) c.go_on_over.ensures.file c.go_on_over.ensures.number 0 _ _ _ _ c.begin_next.ensures.lines (omega (arith, c.go_on_over.ensures.lines)) (omega arith) refl
    (sym (ap (λ es. c.self.inside.events.items ++ es) told ∙ append-nil c.self.inside.events.items)) refl

pub returns-in_default-clause-core : goal.returns-in_default-clause-core
returns-in_default-clause-core g c =
    let form = g.C.Normalized.form in
    let mech = c.begin_next.new.self.mech in
    let words = c.self.inside.cells.words in
    let made = c.go_on_over.ensures.made in
    let told = unmarked_told form mech words c.go_on_over.new.port.words made.words (sym c.draws_tick.ensures ∙ c.if-draws_tick.false) (none_is _ c.in_default.not-Some ∙ c.mark.ensures ∙ made.mark) in
    next_core form _ _ _ _ _ _ _ _ _ _ _ _ turn.Going (seated _ _ _ _ _ _ c.self.view_is c.requires.seat) c.index_mut-at.ensures.value c.begin_next.ensures.machine c.begin_next.ensures.file
    (not_over_by _ _ c.begin_next.ensures.over c.if-not-begin_next.false)
    made.words (c.go_on_over.ensures.mech ∙ ap (mech_fed form mech) made.saw) c.go_on_over.ensures.file (sym c.go_on_over.ensures.turn ∙ ap (mech_turn mech) made.saw)
    (sym (append-nil c.self.inside.receipts.items)) (sym (ap (λ es. c.self.inside.events.items ++ es) told ∙ append-nil c.self.inside.events.items))
    ∙ ap (core_stepped form c.args.seat) c.self.view_is

pub returns-in_default-clause-turn : goal.returns-in_default-clause-turn
returns-in_default-clause-turn g c =
    next_turn g.C.Normalized.form c.self.inside.setup _ _ _ _ _ _ c.begin_next.new.self turn.Going (seated _ _ _ _ _ _ c.self.view_is c.requires.seat) c.index_mut-at.ensures.value c.begin_next.ensures.machine
    (not_over_by _ _ c.begin_next.ensures.over c.if-not-begin_next.false) (sym c.go_on_over.ensures.turn ∙ ap (mech_turn c.begin_next.new.self.mech) c.go_on_over.ensures.made.saw)
    ∙ ap (core_turn g.C.Normalized.form c.args.seat) c.self.view_is

-- ---- one with a mark

pub note_mark-requires : goal.note_mark-requires
note_mark-requires g c =
    let form = g.C.Normalized.form in
    let laws = g.met.C.Normalized.laws in
    let setup = c.self.inside.setup in
    let mech = c.begin_next.new.self.mech in
    let words = c.self.inside.cells.words in
    let made = c.go_on_over.ensures.made in
    let told = mark_told form mech words c.go_on_over.new.port.words made.words (sym c.draws_tick.ensures ∙ c.if-draws_tick.false) c.in-Some.mark (sym c.in-Some.is ∙ c.mark.ensures ∙ made.mark) in
    let seen = ap (λ ws. marked c.in-Some.mark ws) c.words.ensures in
    let room = room_to_note form setup _ _ _ _ _ _ _ c.self.invariant _ _ _ (seated _ _ _ _ _ _ c.self.view_is c.requires.seat) c.index_mut-at.ensures.value c.begin_next.ensures.machine c.begin_next.ensures.file
    (queues_kept form laws (runs_are_kept form laws) setup) (c.begin_next.ensures.can (search rules)) c.go_on_over.new.self c.go_on_over.new.port.words made.words
    (c.go_on_over.ensures.mech ∙ ap (mech_fed form mech) made.saw) c.go_on_over.ensures.file c.go_on_over.ensures.number _ (search rules) in
    record { room = subst (λ es. vec_len c.self.inside.events + length es ≤ vec_capacity c.self.inside.events) (sym (seen ∙ told)) room }

pub invariant_of-self-2 : goal.invariant_of-self-2
invariant_of-self-2 g c =
    let form = g.C.Normalized.form in
    let laws = g.met.C.Normalized.laws in
    let setup = c.self.inside.setup in
    let mech = c.begin_next.new.self.mech in
    let words = c.self.inside.cells.words in
    let made = c.go_on_over.ensures.made in
    let told = mark_told form mech words c.go_on_over.new.port.words made.words (sym c.draws_tick.ensures ∙ c.if-draws_tick.false) c.in-Some.mark (sym c.in-Some.is ∙ c.mark.ensures ∙ made.mark) in
    let seen = ap (λ ws. marked c.in-Some.mark ws) c.words.ensures in
    stepped_kept form setup _ _ _ _ _ _ _ c.self.invariant _ _ _ (seated _ _ _ _ _ _ c.self.view_is c.requires.seat) c.index_mut-at.ensures.value c.begin_next.ensures.machine c.begin_next.ensures.file
    (queues_kept form laws (runs_are_kept form laws) setup) (c.begin_next.ensures.can (search rules)) c.go_on_over.new.self c.go_on_over.new.port.words made.words
    (c.go_on_over.ensures.mech ∙ ap (mech_fed form mech) made.saw) c.go_on_over.ensures.file c.go_on_over.ensures.number 0 _ _ _ _ c.begin_next.ensures.lines (omega (arith, c.go_on_over.ensures.lines)) (omega arith) refl
    (c.note_mark.ensures.items ∙ ap (λ es. c.self.inside.events.items ++ es) (seen ∙ told)) c.note_mark.ensures.capacity

pub returns-clause-core : goal.returns-clause-core
returns-clause-core g c =
    let form = g.C.Normalized.form in
    let mech = c.begin_next.new.self.mech in
    let words = c.self.inside.cells.words in
    let made = c.go_on_over.ensures.made in
    let told = mark_told form mech words c.go_on_over.new.port.words made.words (sym c.draws_tick.ensures ∙ c.if-draws_tick.false) c.in-Some.mark (sym c.in-Some.is ∙ c.mark.ensures ∙ made.mark) in
    let seen = ap (λ ws. marked c.in-Some.mark ws) c.words.ensures in
    next_core form _ _ _ _ _ _ _ _ _ _ _ _ turn.Going (seated _ _ _ _ _ _ c.self.view_is c.requires.seat) c.index_mut-at.ensures.value c.begin_next.ensures.machine c.begin_next.ensures.file
    (not_over_by _ _ c.begin_next.ensures.over c.if-not-begin_next.false)
    made.words (c.go_on_over.ensures.mech ∙ ap (mech_fed form mech) made.saw) c.go_on_over.ensures.file (sym c.go_on_over.ensures.turn ∙ ap (mech_turn mech) made.saw)
    (sym (append-nil c.self.inside.receipts.items)) (c.note_mark.ensures.items ∙ ap (λ es. c.self.inside.events.items ++ es) (seen ∙ told))
    ∙ ap (core_stepped form c.args.seat) c.self.view_is

pub returns-clause-turn : goal.returns-clause-turn
returns-clause-turn g c =
    next_turn g.C.Normalized.form c.self.inside.setup _ _ _ _ _ _ c.begin_next.new.self turn.Going (seated _ _ _ _ _ _ c.self.view_is c.requires.seat) c.index_mut-at.ensures.value c.begin_next.ensures.machine
    (not_over_by _ _ c.begin_next.ensures.over c.if-not-begin_next.false) (sym c.go_on_over.ensures.turn ∙ ap (mech_turn c.begin_next.new.self.mech) c.go_on_over.ensures.made.saw)
    ∙ ap (core_turn g.C.Normalized.form c.args.seat) c.self.view_is
