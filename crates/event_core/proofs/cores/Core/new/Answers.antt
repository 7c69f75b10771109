use Rattle.std.proofs.Common.{rules, ◌∙◌, ap, length, sum_by}
use Rattle.event_core.specs.Watching.{WatchedView}
use Rattle.event_core.proofs.Seating.{fresh_core, fresh_room}
use Rattle.event_core.proofs.cores.Core.new.Goals as goal

pub invariant_of-result : goal.invariant_of-result
invariant_of-result g c =
    fresh_room (λ file. file.items) g.C.Normalized.form c.args.setup _ _ _ _ c.args.files.items c.commands_of-commands.result _ _ _ _ c.in_ok-opening.ensures.words (ap (λ (w : WatchedView). w.words) c.new.ensures) c.in_ok-words.ensures.words c.in_ok-seats_of.ensures.seats (c.commands_of-commands.ensures.count ∙ ap (sum_by (λ file. length file.items)) c.deref.ensures.value) c.in_ok-receipts.ensures.len c.in_ok-events.ensures.items (search rules) (search rules) c.requires.seats

pub returns : goal.returns
returns g c = record { core = fresh_core (λ file. file.items) g.C.Normalized.form c.args.setup _ c.in_ok-words.words.items _ _ _ c.args.files.items (ap (λ (w : WatchedView). w.words) c.new.ensures) c.in_ok-words.ensures.words c.in_ok-seats_of.ensures.seats c.requires.seats c.in_ok-receipts.ensures.items c.in_ok-events.ensures.items }
