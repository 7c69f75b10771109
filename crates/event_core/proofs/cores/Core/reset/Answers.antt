use Rattle.std.proofs.Common.{rules, arith, ◌∙◌, refl, sym, ap, length, map, slice_index}
use Rattle.std.proofs.lemmas.List.{with_items_is}
use Rattle.event_core.specs.Cores.{core_new, new_seats}
use Rattle.event_core.proofs.Renewals.{rewritten, words_stay}
use Rattle.event_core.proofs.Seating.{fresh_core, fresh_room}
use Rattle.event_core.proofs.cores.Core.reset.Goals as goal

pub rewrite-requires : goal.rewrite-requires
rewrite-requires g c =
    let run = c.self.invariant.run in
    let count = ap length (sym run.words_are) ∙ words_stay g.C.Normalized.form c.self.inside.setup run.moves run.are in
    record { count = omega (arith, count, c.self.inside.setup.few_blocks) }

pub invariant_of-self : goal.invariant_of-self
invariant_of-self g c =
    let form = g.C.Normalized.form in
    let setup = c.self.inside.setup in
    let run = c.self.invariant.run in
    let count = c.rewrite.ensures.count ∙ ap length (sym run.words_are) ∙ words_stay form setup run.moves run.are in
    let words = rewritten form.opening form.opens setup.cap c.self.inside.opening.items c.rewrite.new.self.words c.self.invariant.opened count (λ place inside. c.rewrite.ensures.each place inside ∙ ap (λ ws. slice_index ws place) c.deref.ensures.value) in
    let seats = with_items_is c.self.inside.seats c.renew_seats.new.seats (search rules) ∙ c.renew_seats.ensures.seats ∙ ap (λ l. new_seats setup 0 (map (λ seat. seat.file) l)) c.deref_mut.ensures.value in
    let lines = c.self.invariant.for_all_lines in
    let events = c.self.invariant.for_events in
    fresh_room (λ seat. seat.file) form setup c.self.inside.opening.items _ _ _ c.self.inside.seats.items _ _ _ _ _ c.self.invariant.opened refl words seats refl c.clear.ensures.len c.clear-2.ensures.items
    (omega (arith, lines, c.clear.ensures.capacity)) (omega (arith, events, c.clear-2.ensures.capacity)) c.self.invariant.count

pub returns : goal.returns
returns g c =
    let form = g.C.Normalized.form in
    let setup = c.self.inside.setup in
    let run = c.self.invariant.run in
    let count = c.rewrite.ensures.count ∙ ap length (sym run.words_are) ∙ words_stay form setup run.moves run.are in
    let words = rewritten form.opening form.opens setup.cap c.self.inside.opening.items c.rewrite.new.self.words c.self.invariant.opened count (λ place inside. c.rewrite.ensures.each place inside ∙ ap (λ ws. slice_index ws place) c.deref.ensures.value) in
    let seats = with_items_is c.self.inside.seats c.renew_seats.new.seats (search rules) ∙ c.renew_seats.ensures.seats ∙ ap (λ l. new_seats setup 0 (map (λ seat. seat.file) l)) c.deref_mut.ensures.value in
    record {
      core = fresh_core (λ seat. seat.file) form setup _ _ _ _ _ c.self.inside.seats.items refl words seats c.self.invariant.count c.clear.ensures.items c.clear-2.ensures.items ∙ ap (λ v. core_new form v.setup v.files) c.self.view_is;
    }
