-- What a machine knows after a step of a wrap-up, and where a wrap-up begins.
use Rattle.std.proofs.Common.{◌≡◌, refl, sym, subst, ℕ, ◌+◌, ◌&&◌, min, nat_lt, if◌then◌else◌, Bool, true, false, List, length, Option, Some, None}
use Rattle.lin_report.specs.declared.calls.Op.{Op}
use Rattle.lin_report.specs.Object.{IsCommandOf}
use Rattle.normal_traits.specs.declared.form.Wrapped.{Wrapped}
use Rattle.normal_traits.specs.declared.form.Wrapped.TheVariants as wrapped
use Rattle.normal_traits.specs.declared.lists.Entry.{Entry}
use Rattle.normal_traits.specs.World.{Stopped, World}
use Rattle.normal_traits.specs.NormalForm.{NormalForm}
use Rattle.normal_traits.specs.Laws.{Laws, WrappedWell}
use Rattle.fast_slow_engine.specs.Mechs.{Mech}
use Rattle.fast_slow_engine.specs.PhaseTable.{spent, stopped, with_hand, wrapped_up}
use Rattle.offered_blocks.specs.Blocks.{Offer}
use Rattle.helper_knowledge.specs.Callers.{Caller}
use Rattle.run_world.specs.Ghosts.{Held}
use Rattle.step_knowledge.specs.Known.{IsStillOffered, NoneFrom}
use Rattle.step_knowledge.proofs.Goes.Searches.{Knows, told_knows, tried_knows}

module _ {S W : Type 0} (form : NormalForm S W) (laws : Laws form) (world : World) (offers : ℕ → Option (Offer S)) (callers : ℕ → Caller) (begun : ℕ) (filled : Option (Offer S)) (shape : form.shape world) where
  -- a wrap-up that goes on follows its list; after one that asks for it the call is tried again
  pub wrapped_knows : (what : Wrapped) (w : W) (mech : Mech S W) (held : Held S) → IsCommandOf form.object mech.op → IsStillOffered form world held → (what ≡ wrapped.Going → Stopped world held.list held.stop)
      → NoneFrom world held.list.identity held.stop → WrappedWell form world held.list held.stop w what
      → Knows form world offers callers begun filled (length world.changes) (Some held) (wrapped_up form what w mech)
  wrapped_knows wrapped.Going w mech held command offered halts none well = record { offered = offered; stopped = halts refl; none = none; wraps = well.0; follows = well.1 }
  wrapped_knows (wrapped.Done outcome) w mech held command offered halts none well = told_knows form world offers callers begun filled outcome mech _ _
  wrapped_knows wrapped.Restart w mech held command offered halts none well =
      tried_knows form world offers callers begun filled laws shape (Some held) (record mech { failures = min (mech.failures + 1) mech.setup.limit }) command

  -- the wrap-up of a list where it stopped begins well
  pub wrap_begins : (op : Op) (entries : List Entry) (held : Held S) (stop : ℕ) → IsStillOffered form world held → Stopped world held.list stop → held.list.call.op ≡ op → held.list.entries ≡ entries
      → WrappedWell form world held.list stop (form.begin_wrap_of op entries stop) (form.wrap_begun_of op entries stop)
  wrap_begins op entries held stop offered halts call same =
      subst (λ (l : List Entry). WrappedWell form world held.list stop (form.begin_wrap_of op l stop) (form.wrap_begun_of op l stop)) same
      (subst (λ (o : Op). WrappedWell form world held.list stop (form.begin_wrap_of o held.list.entries stop) (form.wrap_begun_of o held.list.entries stop)) call
      (laws.of_world.wrap_begun world held.list held.offering held.since stop shape offered halts))

  spent_op : (b : Bool) (mech : Mech S W) → (if b then with_hand None mech else mech).op ≡ mech.op
  spent_op true mech = refl
  spent_op false mech = refl

  -- where a list stops, its wrap-up begins
  pub stops_knows : (entries : List Entry) (stop : ℕ) (mech : Mech S W) (held : Held S) → IsCommandOf form.object mech.op → IsStillOffered form world held → Stopped world held.list stop
      → NoneFrom world held.list.identity stop → held.list.call.op ≡ mech.op → held.list.entries ≡ entries
      → Knows form world offers callers begun filled (length world.changes) (Some (record { list = held.list; offering = held.offering; since = held.since; stop = stop })) (stopped form entries stop mech)
  stops_knows entries stop mech held command offered halts none call same =
      let done : Held S = record { list = held.list; offering = held.offering; since = held.since; stop = stop } in
      wrapped_knows (form.wrap_begun_of mech.op entries stop) (form.begin_wrap_of mech.op entries stop) (spent form stop mech) done
      (subst (IsCommandOf form.object) (sym (spent_op (nat_lt 0 stop && form.needs_block mech.op) mech)) command) offered (λ on. halts) none
      (wrap_begins mech.op entries held stop offered halts call same)
