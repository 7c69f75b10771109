use Rattle.std.proofs.Common.{◌∙◌, ◌+◌, ◌≤◌, ◌++◌, ap, sym, subst, length, append-nil, arith, vec_len, vec_capacity}
use Rattle.word_fields.specs.Seats.{queue_seats}
use Rattle.fast_slow_engine.specs.Events.{published_by, record_word_of}
use Rattle.event_core.specs.Noted.{is_member}
use Rattle.event_core.proofs.Publications.{by_members, unchanged}
use Rattle.event_core.proofs.noting.note_published.Goals as goal

pub note_seats-requires-clause-room : goal.note_seats-requires-clause-room
note_seats-requires-clause-room c =
    let seats = c.deref.ensures.0 ∙ ap (λ q. q.seats.items) c.unpack.ensures.fields ∙ ap queue_seats c.word_at-queue.ensures in
    let told = ap (published_by (is_member c.members.result) (record_word_of c.args.words.now)) seats ∙ by_members c.args.place c.args.before c.args.words.now c.if-place-ne-QUEUE.false c.members.result c.members.ensures in
    subst (λ es. vec_len c.args.events.now + length es ≤ vec_capacity c.args.events.now) (sym told) c.requires.room

pub returns-then-queue-before-clause-items : goal.returns-then-queue-before-clause-items
returns-then-queue-before-clause-items c =
    let seats = c.deref.ensures.0 ∙ ap (λ q. q.seats.items) c.unpack.ensures.fields ∙ ap queue_seats c.word_at-queue.ensures in
    let told = ap (published_by (is_member c.members.result) (record_word_of c.args.words.now)) seats ∙ by_members c.args.place c.args.before c.args.words.now c.if-place-ne-QUEUE.false c.members.result c.members.ensures in
    c.note_seats.ensures.items ∙ ap (λ es. c.args.events.now.items ++ es) told

pub returns-then-queue-before-clause-len : goal.returns-then-queue-before-clause-len
returns-then-queue-before-clause-len c =
    let seats = c.deref.ensures.0 ∙ ap (λ q. q.seats.items) c.unpack.ensures.fields ∙ ap queue_seats c.word_at-queue.ensures in
    let told = ap (published_by (is_member c.members.result) (record_word_of c.args.words.now)) seats ∙ by_members c.args.place c.args.before c.args.words.now c.if-place-ne-QUEUE.false c.members.result c.members.ensures in
    c.note_seats.ensures.len ∙ ap (λ es. vec_len c.args.events.now + length es) told

pub returns-else-queue-before-clause-items : goal.returns-else-queue-before-clause-items
returns-else-queue-before-clause-items c =
    let none = unchanged c.args.place c.args.before c.args.words.now c.if-place-ne-QUEUE.false (sym c.word_at-queue.ensures ∙ c.if-queue-before.false) in
    sym (append-nil c.args.events.now.items) ∙ ap (λ es. c.args.events.now.items ++ es) none

pub returns-else-queue-before-clause-len : goal.returns-else-queue-before-clause-len
returns-else-queue-before-clause-len c =
    let none = unchanged c.args.place c.args.before c.args.words.now c.if-place-ne-QUEUE.false (sym c.word_at-queue.ensures ∙ c.if-queue-before.false) in
    let long = ap length none in
    omega (arith, long)
