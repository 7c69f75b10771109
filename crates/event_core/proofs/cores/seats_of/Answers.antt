use Rattle.std.proofs.Common.{rules, ◌∙◌, ap, sym}
use Rattle.std.proofs.lemmas.Bool.{eqb-true}
use Rattle.fast_slow_engine.specs.PhaseTable.{mech_new}
use Rattle.event_core.proofs.Seating.{all_seated, first_file, none_seated, one_seated}
use Rattle.event_core.proofs.cores.seats_of.Goals as goal

pub loop-setup-init : goal.loop-setup-init
loop-setup-init g c = none_seated (λ file. file.items) g.C.Normalized.form c.args.setup _ _ _ c.in_ok-seats.ensures.items c.requires.files c.requires.seats (search rules)

pub new-requires-clause-file : goal.new-requires-clause-file
new-requires-clause-file g c κs within = first_file g.C.Normalized.form.object (λ file. file.items) _ _ c.loop-setup.invariant.commanded (search rules) c.remove-file.ensures.value

pub loop-setup-preserved : goal.loop-setup-preserved
loop-setup-preserved g c =
    one_seated (λ file. file.items) g.C.Normalized.form c.args.setup _ _ _ _ _ _ _ _ _ c.loop-setup.invariant (search rules) c.remove-file.ensures.value c.remove-file.ensures.items
    (c.new.ensures.mech ∙ ap (λ n. mech_new n c.args.setup) (c.len-in-loop-setup.ensures ∙ c.loop-setup.seats.ok.0)) c.new.ensures.file c.push_reserved.ensures.items c.push_reserved.ensures.capacity

pub returns : goal.returns
returns g c = record { seats = all_seated (λ file. file.items) g.C.Normalized.form c.args.setup _ _ _ _ c.loop-setup.invariant (sym c.loop-setup.rest.ok.0 ∙ eqb-true _ _ (sym c.is_empty.ensures ∙ c.loop-setup-test.false)) }
