-- Steps of a call that is on its fast path, or is told.
use Rattle.std.proofs.Common.{◌≡◌, refl, ℕ, ◌+◌, ◌≤◌, true, false, List, length, arith, subst, sym, inl, inr}
use Rattle.std.specs.Prelude.{nat_lt, slice_get}
use Rattle.std.proofs.lemmas.Bool.{cases_Bool, cases_eq, lt-ltb}
use Rattle.step_memory.specs.declared.steps.Request.TheVariants.{Add}
use Rattle.step_memory.specs.Step.{seen_of}
use Rattle.node_arena.specs.declared.places.TheConstants.{OWNER_FIELD, OP_FIELD, VALUE_FIELD}
use Rattle.node_arena.proofs.PlacesApart.{block_place_behind}
use Rattle.normal_traits.specs.NormalForm.{NormalForm}
use Rattle.cas_executor.specs.FastRuns.{FastWalk}
use Rattle.arrayvec.specs.ArrayVec.{ArrayVec}
use Rattle.help_queue_laws.specs.declared.phases.QueuePhase.TheVariants as in_queue
use Rattle.help_queue_laws.specs.Ghosts.{Ghosts}
use Rattle.help_queue_laws.proofs.Known.Scenes.{scene_of, IsOut, IsSound}
use Rattle.help_queue_laws.proofs.Known.Knowledge.{IsFree}
use Rattle.help_queue_laws.proofs.Known.QueueWords.{not_both}
use Rattle.fast_slow_engine.specs.declared.phases.Phase.{Phase}
use Rattle.fast_slow_engine.specs.declared.phases.Phase.TheVariants.{Begin, Generate, Apply, Wrap, Value, End}
use Rattle.fast_slow_engine.specs.declared.phases.Generating.{Generating}
use Rattle.fast_slow_engine.specs.declared.phases.Generating.TheVariants.{Search, LookForBlock, Claim}
use Rattle.fast_slow_engine.specs.declared.phases.Applying.{Applying}
use Rattle.fast_slow_engine.specs.declared.phases.Applying.TheVariants.{Fill, Execute}
use Rattle.fast_slow_engine.specs.Mechs.{Mech}
use Rattle.fast_slow_engine.specs.OfferStores.{own_stores, stored_by}
use Rattle.fast_slow_engine.specs.PhaseTable.{request_in, stepped}
use Rattle.run_queue.specs.QueueViews.{phase_view}
use Rattle.run_queue.specs.Fits.{TellsCall, PhaseFits}
use Rattle.run_queue.specs.Premises.{LeavesQueue, is_for_client}
use Rattle.run_queue.proofs.Views.CallViews.{FastNext, fast_generated, fast_applied, fast_wrapped, knows_fast}
use Rattle.run_queue.proofs.Moves.Beside.{Goes, leaves_load, leaves_behind, leaves_counter, beside_goes, free_same, out_same}

-- the first three stores of an offer, which tell of the call, are behind the words of the queue
fill_leaves : (stores : List (ℕ × ℕ)) (made : ℕ) (words : List ℕ) → TellsCall stores → nat_lt 2 made ≡ false → LeavesQueue (stored_by (slice_get stores made)) words
fill_leaves stores made words tells own =
    subst (λ l. LeavesQueue (stored_by (slice_get l made)) words) (sym tells.is) (elim (cases_eq made 0) [
      | inl none ↦ subst (λ k. LeavesQueue (stored_by (slice_get (own_stores tells.block tells.seat tells.number tells.op tells.rest) k)) words) (sym none) (leaves_behind _ words (block_place_behind tells.block OWNER_FIELD))
      | inr some ↦ elim (cases_eq made 1) [
        | inl one ↦ subst (λ k. LeavesQueue (stored_by (slice_get (own_stores tells.block tells.seat tells.number tells.op tells.rest) k)) words) (sym one) (leaves_behind _ words (block_place_behind tells.block OP_FIELD))
        | inr more ↦ elim (cases_eq made 2) [
          | inl two ↦ subst (λ k. LeavesQueue (stored_by (slice_get (own_stores tells.block tells.seat tells.number tells.op tells.rest) k)) words) (sym two) (leaves_behind _ words (block_place_behind tells.block VALUE_FIELD))
          | inr most ↦ (let past : nat_lt 2 made ≡ true = lt-ltb 2 made (omega (arith, some, more, most)) in absurd (not_both past own))
        ]
      ]
    ])

module _ {S W : Type 0} (form : NormalForm S W) (mech : Mech S W) (words : List ℕ) where
  -- the request of a phase leaves the words of the queue
  abbrev pub Leaves : Phase S W → Type 0
  Leaves phase = LeavesQueue (request_in form phase mech) words

  -- it does where it is the client's: the premise on the move
  abbrev pub TheirsLeave : Phase S W → Type 0
  TheirsLeave phase = is_for_client phase ≡ true → Leaves phase

  pub generate_leaves : (s : S) (step : Generating) → TheirsLeave (Generate s step) → Leaves (Generate s step)
  generate_leaves s Search client = client refl
  generate_leaves s LookForBlock client = leaves_load 2 words
  generate_leaves s Claim client = leaves_counter (Add 2 1) words (inr refl)

  pub apply_leaves : (seats : ℕ) (run : FastWalk) (stores : ArrayVec (ℕ × ℕ)) (step : Applying) → PhaseFits {S = S} {W = W} seats (Apply run stores step) → TheirsLeave (Apply run stores step) → Leaves (Apply run stores step)
  apply_leaves seats run stores (Fill made) fits client = elim (cases_Bool (nat_lt 2 made)) [ inl theirs ↦ client theirs | inr own ↦ fill_leaves stores.items made words fits own ]
  apply_leaves seats run stores Execute fits client = client refl

module _ {S W : Type 0} (form : NormalForm S W) (mech : Mech S W) (words : List ℕ) (ghosts : Ghosts) (long : 32 ≤ length words) (sound : IsSound (scene_of words ghosts)) where
  abbrev seats : ℕ
  seats = mech.setup.seats

  abbrev i : ℕ
  i = mech.seat

  abbrev pub Goes' : Phase S W → Type 0
  Goes' phase = Goes mech.setup.seats mech.seat words ghosts (phase_view phase) (request_in form phase mech) (λ seen. stepped form phase seen mech)

  fast_goes : (phase : Phase S W) → phase_view phase ≡ in_queue.StoreValue → Leaves form mech words phase → FastNext form seats mech.number (stepped form phase (seen_of (request_in form phase mech) words) mech) → IsFree (scene_of words ghosts) i mech.number → IsOut (scene_of words ghosts) i → Goes' phase
  fast_goes phase view leaves next free out =
      subst (λ at. Goes seats i words ghosts at (request_in form phase mech) (λ seen. stepped form phase seen mech)) (sym view)
      (beside_goes seats i words ghosts in_queue.StoreValue long (request_in form phase mech) (λ seen. stepped form phase seen mech) refl leaves sound
      (λ b records queue. knows_fast form b seats i mech.number _ next (free_same (scene_of words ghosts) b records queue i mech.number free) (out_same (scene_of words ghosts) b records queue i out)))

  pub generate_goes : (s : S) (step : Generating) → TheirsLeave form mech words (Generate s step) → IsFree (scene_of words ghosts) i mech.number → IsOut (scene_of words ghosts) i → Goes' (Generate s step)
  generate_goes s step client free out = fast_goes (Generate s step) refl (generate_leaves form mech words s step client) (fast_generated form seats s step _ mech) free out

  pub apply_goes : (run : FastWalk) (stores : ArrayVec (ℕ × ℕ)) (step : Applying) → PhaseFits {S = S} {W = W} mech.setup.seats (Apply run stores step) → TheirsLeave form mech words (Apply run stores step) → IsFree (scene_of words ghosts) i mech.number → IsOut (scene_of words ghosts) i → Goes' (Apply run stores step)
  apply_goes run stores step fits client free out = fast_goes (Apply run stores step) refl (apply_leaves form mech words mech.setup.seats run stores step fits client) (fast_applied form mech.setup.seats run stores step _ mech fits) free out

  pub wrap_goes : (wrap : W) → Leaves form mech words (Wrap wrap) → IsFree (scene_of words ghosts) i mech.number → IsOut (scene_of words ghosts) i → Goes' (Wrap wrap)
  wrap_goes wrap leaves free out = fast_goes (Wrap wrap) refl leaves (fast_wrapped form seats _ _ mech) free out

  -- ---- ticks, and the value of a reply

  pub begin_goes : IsFree (scene_of words ghosts) i mech.number → Goes' Begin
  begin_goes free =
      beside_goes seats i words ghosts in_queue.Look long (Add 0 1) (λ seen. stepped form Begin seen mech) refl (leaves_counter (Add 0 1) words (inl refl)) sound
      (λ b records queue. (free_same (scene_of words ghosts) b records queue i mech.number free, tt))

  pub value_goes : (reference : ℕ) → IsFree (scene_of words ghosts) i (mech.number + 1) → Goes' (Value reference)
  value_goes reference free =
      beside_goes seats i words ghosts in_queue.Look long _ (λ seen. stepped form (Value reference) seen mech) refl (leaves_load _ words) sound
      (λ b records queue. (free_same (scene_of words ghosts) b records queue i (mech.number + 1) free, tt))

  pub end_goes : (reply : _) → IsFree (scene_of words ghosts) i (mech.number + 1) → Goes' (End reply)
  end_goes reply free =
      beside_goes seats i words ghosts in_queue.Look long (Add 0 1) (λ seen. stepped form (End reply) seen mech) refl (leaves_counter (Add 0 1) words (inl refl)) sound
      (λ b records queue. (free_same (scene_of words ghosts) b records queue i (mech.number + 1) free, tt))
