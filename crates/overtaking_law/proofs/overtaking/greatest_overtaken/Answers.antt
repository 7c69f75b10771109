use Rattle.std.proofs.Common.{◌≡◌, ◌+◌, ◌<◌, ◌≤◌, ℕ, List, Option, length, take, drop, max, get_or, subst, arith}
use Rattle.std.proofs.lemmas.List.{length-take, length-set, take_more, take_all}
use Rattle.std.proofs.lemmas.Grind.{common_steps}
use Rattle.lin_report.specs.declared.events.Event.{Event}
use Rattle.lin_report.specs.declared.events.EventKind.TheVariants.{Begin}
use Rattle.overtaking_law.specs.declared.open_calls.OpenCall.{OpenCall}
use Rattle.overtaking_law.proofs.Order.{parts_at, seat_at}
use Rattle.overtaking_law.proofs.Tracking.{Tracks, open_within, tracks_begin, tracks_publish, tracks_complete, tracks_return}
use Rattle.overtaking_law.proofs.Greatest.{most_bounds, most_reached, most_is}
use Rattle.overtaking_law.proofs.overtaking.greatest_overtaken.Goals as goal
use Rattle.overtaking_law.proofs.overtaking.greatest_overtaken.Goals.{in-Begin, in-Publish, in-Complete, in-Return}

-- what an event of a slice is where there is none
no_event : Event
no_event = record { kind = Begin; seat = 0; number = 0 }

pub bounds-calls-seat : goal.bounds-calls-seat
unfolding no_event
bounds-calls-seat c = seat_at c.args.events.now c.loop-event.event-index no_event c.requires c.loop-event-test.true

pub complete-requires : goal.complete-requires
unfolding no_event
complete-requires c = omega (arith, seat_at c.args.events.now c.loop-event.event-index no_event c.requires c.loop-event-test.true, c.loop-event.invariant.seats)

pub overtake-requires : goal.overtake-requires
overtake-requires c = λ place.
    let events = c.args.events.now in
    let i = c.loop-event.event-index in
    omega (arith, open_within (take i events) c.loop-event.calls c.loop-event.most place c.loop-event.invariant.tracks, length-take i events)

pub loop-event-preserved : goal.loop-event-preserved
unfolding no_event
loop-event-preserved c =
    let events = c.args.events.now in
    let i = c.loop-event.event-index in
    let event = get_or events i no_event in
    let front = take i events in
    let calls = c.loop-event.calls in
    let most = c.loop-event.most in
    let lt : i < length events = c.loop-event-test.true in
    let more = take_more events i no_event lt in
    let split = parts_at events i no_event lt in
    let within : event.seat < length calls = omega (arith, seat_at events i no_event c.requires lt, c.loop-event.invariant.seats) in
    let tracks = c.loop-event.invariant.tracks in
    let seats = c.loop-event.invariant.seats in
    record {
      tracks = rw more (elim c.match-event.branch [
        | in-Begin w ↦ rw (w.calls-is, w.most-is) (tracks_begin front event calls most w.in-Begin.is tracks)
        | in-Publish w ↦ rw (w.calls-is, w.most-is) (tracks_publish events front (drop (i + 1) events) event calls most c.requires split w.in-Publish.is within tracks)
        | in-Complete w ↦ rw (w.calls-is, w.most-is, w.complete.ensures) (tracks_complete front event calls most w.in-Complete.is within tracks)
        | in-Return w ↦
            let greater : w.max-most.result ≡ max most w.overtake.result = grind (arith, common_steps) in
            rw (w.calls-is, w.most-is, greater) (tracks_return front event calls w.overtake.new.calls most w.overtake.result w.in-Return.is w.overtake.ensures.calls w.overtake.ensures.bound w.overtake.ensures.reached tracks)
      ]);
      seats = elim c.match-event.branch [
        | in-Begin w ↦ rw w.calls-is seats
        | in-Publish w ↦ rw (w.calls-is, length-set) seats
        | in-Complete w ↦ rw (w.calls-is, w.complete.ensures, length-set) seats
        | in-Return w ↦ rw w.calls-is (omega arith)
      ];
    }

-- the loop has gone over all events
whole : (events : List Event) (i : ℕ) (calls : List (Option OpenCall)) (most : ℕ) → length events ≤ i → Tracks (take i events) calls most → Tracks events calls most
whole events i calls most le tracks = subst (λ (front : List Event). Tracks front calls most) (take_all i events le) tracks

pub returns-clause-greatest : goal.returns-clause-greatest
returns-clause-greatest c = most_is c.args.events.now c.loop-event.calls c.loop-event.most (whole c.args.events.now c.loop-event.event-index c.loop-event.calls c.loop-event.most c.loop-event-test.false c.loop-event.invariant.tracks)

pub returns-clause-bound : goal.returns-clause-bound
returns-clause-bound c = most_bounds c.args.events.now c.loop-event.calls c.loop-event.most (whole c.args.events.now c.loop-event.event-index c.loop-event.calls c.loop-event.most c.loop-event-test.false c.loop-event.invariant.tracks)

pub returns-clause-reached : goal.returns-clause-reached
returns-clause-reached c = most_reached c.args.events.now c.loop-event.calls c.loop-event.most (whole c.args.events.now c.loop-event.event-index c.loop-event.calls c.loop-event.most c.loop-event-test.false c.loop-event.invariant.tracks)
