use Rattle.std.proofs.Common.{rules, arith, ◌∙◌, refl, ap, length, sum_by}
use Rattle.event_core.specs.Submissions.{submitted}
use Rattle.event_core.proofs.StepsAreMoves.{put_same, seated}
use Rattle.event_core.proofs.Submitting.{file_in, files_in, has_room_in, is_full_in, roomier, same_core, submitted_core, submitted_kept}
use Rattle.event_core.proofs.cores.Core.submit.Goals as goal

pub returns-then-is_full-clause-spent : goal.returns-then-is_full-clause-spent
returns-then-is_full-clause-spent g c =
    (λ same. is_full_in c.self.inside.setup _ _ _ _ _ c.index.result.now c.self.view_is c.requires.seat c.index.ensures c.is_full.result c.is_full.ensures c.if-is_full.true, λ full. refl)

-- ---- no memory

pub returns-in_default-clause-spent : goal.returns-in_default-clause-spent
returns-in_default-clause-spent g c =
    let room = has_room_in c.self.inside.setup _ _ _ _ _ c.index.result.now c.self.view_is c.requires.seat c.index.ensures c.is_full.result c.is_full.ensures c.if-is_full.false in
    (λ same. absurd (search rules), λ full. absurd (omega (arith, room, full)))

pub put_last-requires-clause-room : goal.put_last-requires-clause-room
put_last-requires-clause-room g c κs within =
    let room = has_room_in c.self.inside.setup _ _ _ _ _ c.index.result.now c.self.view_is c.requires.seat c.index.ensures c.is_full.result c.is_full.ensures c.if-is_full.false in
    let same = ap length (file_in c.self.inside.setup _ _ _ _ _ c.index_mut.result.now c.self.view_is c.requires.seat c.index_mut.ensures.value) in
    omega (arith, room, same)

pub invariant_of-self-in_default-put_last : goal.invariant_of-self-in_default-put_last
invariant_of-self-in_default-put_last g c =
    roomier g.C.Normalized.form c.self.inside.setup _ _ _ _ _ _ _ c.self.invariant _ _ _ _ c.make_rooms.ensures.lines c.make_rooms.ensures.events _
    (put_same c.self.inside.seats.items c.args.seat c.index_mut.result.now c.put_last.new.self c.index_mut.ensures.value c.in_default-put_last.ensures.refused)
    c.make_rooms.ensures.line_room c.make_rooms.ensures.event_room

pub returns-in_default-put_last-clause-refused : goal.returns-in_default-put_last-clause-refused
returns-in_default-put_last-clause-refused g c =
    same_core c.self.inside.setup _ _ _ _ _ _ _
    (put_same c.self.inside.seats.items c.args.seat c.index_mut.result.now c.put_last.new.self c.index_mut.ensures.value c.in_default-put_last.ensures.refused)
    c.make_rooms.ensures.receipts c.make_rooms.ensures.events
    ∙ c.self.view_is

pub returns-in_default-put_last-clause-seats : goal.returns-in_default-put_last-clause-seats
returns-in_default-put_last-clause-seats g c = files_in c.self.inside.setup _ _ _ _ c.args.seat c.put_last.new.self c.self.view_is

pub returns-in_default-put_last-clause-spent : goal.returns-in_default-put_last-clause-spent
returns-in_default-put_last-clause-spent g c =
    let room = has_room_in c.self.inside.setup _ _ _ _ _ c.index.result.now c.self.view_is c.requires.seat c.index.ensures c.is_full.result c.is_full.ensures c.if-is_full.false in
    (λ same. absurd (search rules), λ full. absurd (omega (arith, room, full)))

-- ---- the command is taken

pub invariant_of-self-2 : goal.invariant_of-self-2
invariant_of-self-2 g c =
    let lines = c.in-Ok.ensures.for_lines in
    let events = c.in-Ok.ensures.for_events in
    let commands = ap (sum_by (λ seat. length seat.file)) c.deref.ensures.value in
    submitted_kept g.C.Normalized.form c.self.inside.setup _ _ _ _ _ _ _ c.self.invariant _ _ _ _ c.make_rooms.ensures.lines c.make_rooms.ensures.events
    c.args.seat c.index_mut.result.now c.put_last.new.self c.args.op (seated _ _ _ _ _ _ c.self.view_is c.requires.seat) c.index_mut.ensures.value c.put_last.ensures.mech c.in-Ok-put_last.ensures.file
    (omega (arith, lines, commands)) (omega (arith, events, commands))

pub returns-clause-taken : goal.returns-clause-taken
returns-clause-taken g c =
    submitted_core c.self.inside.setup _ _ _ _ _ _ c.args.seat c.index_mut.result.now c.put_last.new.self c.args.op (seated _ _ _ _ _ _ c.self.view_is c.requires.seat) c.index_mut.ensures.value
    c.put_last.ensures.mech c.in-Ok-put_last.ensures.file c.make_rooms.ensures.receipts c.make_rooms.ensures.events
    ∙ ap (submitted c.args.seat c.args.op) c.self.view_is

pub returns-clause-seats : goal.returns-clause-seats
returns-clause-seats g c = files_in c.self.inside.setup _ _ _ _ c.args.seat c.put_last.new.self c.self.view_is

pub returns-clause-spent : goal.returns-clause-spent
returns-clause-spent g c =
    let room = has_room_in c.self.inside.setup _ _ _ _ _ c.index.result.now c.self.view_is c.requires.seat c.index.ensures c.is_full.result c.is_full.ensures c.if-is_full.false in
    (λ same. absurd (search rules), λ full. absurd (omega (arith, room, full)))
