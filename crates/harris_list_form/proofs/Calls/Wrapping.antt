-- The laws of the list's wrap-up: what it says of a list that stopped.
use Rattle.std.proofs.Common.{◌≡◌, ℕ, eqb, refl, sym, subst, inl, inr, ◌⊎◌, arith}
use Rattle.std.proofs.lemmas.Bool.{cond-true, cond-false, cases_eq, eq-eqb, ne_eqb}
use Rattle.lin_report.specs.declared.calls.Reply.TheVariants.{Yes}
use Rattle.lin_report.specs.declared.calls.Outcome.TheVariants.{Plain}
use Rattle.normal_traits.specs.declared.form.Wrapped.TheVariants as wrapped
use Rattle.normal_traits.specs.World.{Listed, World, Among, Took, Stopped}
use Rattle.normal_traits.specs.Steps.{IsOffered}
use Rattle.harris_list_form.specs.declared.states.ListSearch.{ListSearch}
use Rattle.harris_list_form.specs.declared.states.ListWrap.TheVariants.{Over}
use Rattle.harris_list_form.specs.Lists.{Lists, AreLists}
use Rattle.harris_list_form.specs.Wrap.{wrap_begun}
use Rattle.harris_list_form.specs.Shape.{AreSorted}
use Rattle.harris_list_form.specs.Form.{list_form}
use Rattle.harris_list_form.proofs.Calls.Commands.{key_limit}
use Rattle.harris_list_form.proofs.Calls.Offers.{offers}
use Rattle.client_lemmas.proofs.Lost.{stopped_lost}
use Rattle.client_lemmas.proofs.Outcomes.{WellWrapped}

module _ (lists : Lists) (are : AreLists lists) (world : World) (sorted : AreSorted lists world) where
  -- a list whose first entry took effect made its change
  pub changed_by : (list : Listed) → Took world list 0 → Among (record { list = list; reply = Yes }) world.changes
  changed_by list t = (sorted.has_path.journal.known _ t.won).change

  pub begun_well : (list : Listed) (searched : ListSearch) (since stop : ℕ) → IsOffered (list_form lists) world list searched since → Stopped world list stop
      → WellWrapped (list_form lists) world list stop (wrap_begun list.call.op list.entries stop)
  begun_well list searched since stop offer stopped = by_stop (cases_eq stop 0)
    where
      by_stop : (stop ≡ 0) ⊎ (stop ≡ 0 → ⊥) → WellWrapped (list_form lists) world list stop (wrap_begun list.call.op list.entries stop)
      by_stop (inl none) =
          subst (WellWrapped (list_form lists) world list stop) (sym (cond-true (eqb stop 0) (Over, wrapped.Restart) (Over, wrapped.Done (Plain Yes)) (eq-eqb stop 0 none)))
          (stopped_lost (list_form lists) world list searched since offer (offers lists are world sorted searched list.call.op since list.block (key_limit lists.client are.sets list.call.op offer.command) offer.knows.serves offer.knows.learnt offer.ready offer.small) stop none stopped)
      by_stop (inr some) =
          subst (WellWrapped (list_form lists) world list stop) (sym (cond-false (eqb stop 0) (Over, wrapped.Restart) (Over, wrapped.Done (Plain Yes)) (ne_eqb stop 0 some)))
          (record { reply = Yes; change = changed_by list (stopped.took 0 (omega (arith, some))); told = refl }, tt)
