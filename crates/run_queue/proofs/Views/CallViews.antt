-- How the queue sees what a machine becomes: its phase and its number there, and that what it says by itself stays so.
use Rattle.std.proofs.Common.{◌≡◌, refl, ℕ, ◌+◌, Bool, true, false, if◌then◌else◌, List, length, Option, Some, None, ◌⊎◌, inl, inr, sym, subst, arith}
use Rattle.std.specs.Prelude.{nat_lt, ◌&&◌, ◌==◌, min}
use Rattle.lin_report.specs.declared.calls.Reply.TheVariants as reply
use Rattle.lin_report.specs.declared.calls.Outcome.{Outcome}
use Rattle.lin_report.specs.declared.calls.Outcome.TheVariants.{Plain, ValueOf}
use Rattle.step_memory.specs.declared.steps.Seen.{Seen}
use Rattle.arrayvec.specs.ArrayVec.{ArrayVec}
use Rattle.normal_traits.specs.declared.form.Found.{Found}
use Rattle.normal_traits.specs.declared.form.Found.TheVariants as found
use Rattle.normal_traits.specs.declared.form.Wrapped.{Wrapped}
use Rattle.normal_traits.specs.declared.form.Wrapped.TheVariants as wrapped
use Rattle.normal_traits.specs.NormalForm.{NormalForm}
use Rattle.cas_executor.specs.declared.fast_run.Execution.{Execution}
use Rattle.cas_executor.specs.declared.fast_run.Execution.TheVariants.{Running, Stopped}
use Rattle.cas_executor.specs.FastRuns.{FastWalk}
use Rattle.help_queue.specs.Gathers.{holds}
use Rattle.help_queue_laws.specs.declared.phases.QueuePhase as queue
use Rattle.help_queue_laws.specs.declared.phases.QueuePhase.TheVariants as in_queue
use Rattle.help_queue_laws.specs.declared.phases.Helping.TheVariants as at
use Rattle.help_queue_laws.specs.Callers as callers
use Rattle.help_queue_laws.proofs.Known.Scenes.{Scene, IsOut}
use Rattle.help_queue_laws.proofs.Known.Knowledge.{IsFree, PhaseFacts}
use Rattle.fast_slow_engine.specs.declared.phases.Phase.TheVariants as phase
use Rattle.fast_slow_engine.specs.declared.phases.Announcing.TheVariants as announcing
use Rattle.fast_slow_engine.specs.declared.phases.Generating.{Generating}
use Rattle.fast_slow_engine.specs.declared.phases.Generating.TheVariants.{Search, LookForBlock, Claim}
use Rattle.fast_slow_engine.specs.declared.phases.Applying.{Applying}
use Rattle.fast_slow_engine.specs.declared.phases.Applying.TheVariants.{Fill, Execute}
use Rattle.fast_slow_engine.specs.declared.help.Helping.TheVariants.{Record}
use Rattle.fast_slow_engine.specs.Mechs.{Mech}
use Rattle.help_queue.specs.Heads.{head_of}
use Rattle.fast_slow_engine.specs.PhaseTable.{in_phase, with_hand, told, tried, may_search, stores_for, offered, searched, wrapped_up, executed, generated, applied, helped, head_helped, driven}
use Rattle.fast_slow_engine.specs.Hands.{block_of}
use Rattle.run_queue.specs.QueueViews.{phase_view, next_number}
use Rattle.run_queue.specs.Fits.{PhaseFits, TellsCall}

module _ {S W : Type 0} where
  -- the machine is a seat of the queue in this phase, with this number for its next announcement
  pub record Views (seats : ℕ) (mech : Mech S W) (n : ℕ) (at : queue.QueuePhase) : Type 0 where
    pub phase' : phase_view mech.phase ≡ at
    pub number : next_number mech.phase mech.number ≡ n
    pub fits : PhaseFits seats mech.phase

  -- what the machine knows of the queue: what a seat there knows in its phase
  abbrev pub KnowsQueue : Scene → ℕ → ℕ → Mech S W → Type 0
  KnowsQueue a seats i mech = PhaseFacts a seats i (next_number mech.phase mech.number) (phase_view mech.phase)

  pub knows_by : (a : Scene) (seats i n : ℕ) (mech : Mech S W) (at : queue.QueuePhase) → Views seats mech n at → PhaseFacts a seats i n at → KnowsQueue a seats i mech
  knows_by a seats i n mech at v h = subst (λ p. PhaseFacts a seats i (next_number mech.phase mech.number) p) (sym v.phase') (subst (λ k. PhaseFacts a seats i k at) (sym v.number) h)

  pub views_number : (seats m n : ℕ) (mech : Mech S W) (at : queue.QueuePhase) → n ≡ m → Views seats mech n at → Views seats mech m at
  views_number seats m n mech at same v = subst (λ k. Views seats mech k at) same v

  pub views_if : (seats n : ℕ) (b : Bool) (x y : Mech S W) (v w : queue.QueuePhase) → Views seats x n v → Views seats y n w → Views seats (if b then x else y) n (if b then v else w)
  views_if seats n true x y v w h k = h
  views_if seats n false x y v w h k = k

  both : (seats n : ℕ) (b : Bool) (x y : Mech S W) (v : queue.QueuePhase) → Views seats x n v → Views seats y n v → Views seats (if b then x else y) n v
  both seats n true x y v h k = h
  both seats n false x y v h k = k

  -- a call that is told has left the queue
  pub views_told : (seats : ℕ) (outcome : Outcome) (mech : Mech S W) → Views seats (told outcome mech) (mech.number + 1) in_queue.Look
  views_told seats (Plain reply) mech = record { phase' = refl; number = refl; fits = tt }
  views_told seats (ValueOf reference) mech = record { phase' = refl; number = refl; fits = tt }

  module _ (form : NormalForm S W) where
    -- a search that begins and an announcement are one phase of the queue
    pub views_tried : (seats : ℕ) (mech : Mech S W) → Views seats (tried form mech) mech.number in_queue.StoreValue
    views_tried seats mech = both seats mech.number (may_search mech) (in_phase (phase.Generate (form.begin_of mech.op) Search) mech) (in_phase (phase.Announce announcing.Value) mech) in_queue.StoreValue (record { phase' = refl; number = refl; fits = tt }) (record { phase' = refl; number = refl; fits = tt })

    pub views_helped : (seats : ℕ) (drives : Bool) (mech : Mech S W) → Views seats (helped form drives mech) mech.number (callers.after_help drives)
    views_helped seats true mech = record { phase' = refl; number = refl; fits = tt }
    views_helped seats false mech = views_tried seats mech

    views_head : (head : Option ℕ) (drives : Bool) (mech : Mech S W) → Views mech.setup.seats (head_helped form head drives mech) mech.number (callers.head_helped head mech.setup.seats drives)
    views_head None drives mech = views_helped mech.setup.seats drives mech
    views_head (Some head) drives mech =
        views_if mech.setup.seats mech.number (nat_lt head mech.setup.seats) (in_phase (phase.Help drives (record { head = head; seats = mech.setup.seats; at = Record None })) mech) (helped form drives mech) (in_queue.Helps head drives (at.Record None)) (callers.after_help drives)
        (record { phase' = refl; number = refl; fits = (refl, tt) }) (views_helped mech.setup.seats drives mech)

    -- a look at the head is that of the queue
    pub views_begun : (word : ℕ) (drives : Bool) (mech : Mech S W) → Views mech.setup.seats (head_helped form (head_of word) drives mech) mech.number (callers.help_begun word mech.setup.seats drives)
    views_begun word drives mech = views_head (head_of word) drives mech

    pub views_driven : (seen : Seen) (mech : Mech S W)
        → Views mech.setup.seats (driven form seen mech) mech.number (if holds seen.before mech.seat then callers.help_begun seen.before mech.setup.seats true else in_queue.Collect)
    views_driven seen mech =
        views_if mech.setup.seats mech.number (holds seen.before mech.seat) (head_helped form (head_of seen.before) true mech) (in_phase phase.Collect mech) (callers.help_begun seen.before mech.setup.seats true) in_queue.Collect
        (views_begun seen.before true mech) (record { phase' = refl; number = refl; fits = tt })

    -- ---- the fast path: on it goes, or its call is told

    -- what a step of the fast path leads to
    abbrev pub FastNext : ℕ → ℕ → Mech S W → Type 0
    FastNext seats n new = Views seats new n in_queue.StoreValue ⊎ Views seats new (n + 1) in_queue.Look

    pub knows_fast : (a : Scene) (seats i n : ℕ) (new : Mech S W) → FastNext seats n new → IsFree a i n → IsOut a i → KnowsQueue a seats i new × PhaseFits seats new.phase
    knows_fast a seats i n new next free out =
        elim next [
          | inl on ↦ (knows_by a seats i n new in_queue.StoreValue on (free, out), on.fits)
          | inr told' ↦ (knows_by a seats i (n + 1) new in_queue.Look told' (record { closed = free.closed; number = let less = free.number in omega (arith, less) }), told'.fits)
        ]

    fast_if : (seats n : ℕ) (b : Bool) (x y : Mech S W) → FastNext seats n x → FastNext seats n y → FastNext seats n (if b then x else y)
    fast_if seats n true x y h k = h
    fast_if seats n false x y h k = k

    -- the stores of an offer tell of the call first, where the offer fills a block
    own_fits : (seats : ℕ) (needs : Bool) (run : FastWalk) (stores : List (ℕ × ℕ)) (mech : Mech S W)
        → PhaseFits {S = S} {W = W} seats (phase.Apply run (record { items = stores_for needs stores mech }) (if needs then Fill 0 else Execute))
    own_fits seats true run stores mech = record { block = block_of mech.hand; seat = mech.seat; number = mech.number; op = mech.op; rest = stores; is = refl }
    own_fits seats false run stores mech = tt

    filled_fits : (seats : ℕ) (over : Bool) (made : ℕ) (run : FastWalk) (stores : ArrayVec (ℕ × ℕ)) → TellsCall stores.items → PhaseFits {S = S} {W = W} seats (phase.Apply run stores (if over then Execute else Fill (made + 1)))
    filled_fits seats true made run stores h = tt
    filled_fits seats false made run stores h = h

    fast_offered : (seats : ℕ) (s : S) (mech : Mech S W) → FastNext seats mech.number (offered form s mech)
    fast_offered seats s mech =
        let offer = form.offer_of s mech.op (if form.needs_block mech.op then block_of mech.hand else 0) in
        inl (record { phase' = refl; number = refl; fits = own_fits seats (form.needs_block mech.op) (record { entries = offer.entries; next = 0 }) offer.stores mech })

    fast_searched : (seats : ℕ) (what : Found) (s : S) (mech : Mech S W) → FastNext seats mech.number (searched form what s mech)
    fast_searched seats found.Going s mech = inl (record { phase' = refl; number = refl; fits = tt })
    fast_searched seats found.Ready s mech =
        fast_if seats mech.number _ (in_phase (phase.Generate s LookForBlock) mech) (offered form s mech) (inl (record { phase' = refl; number = refl; fits = tt })) (fast_offered seats s mech)
    fast_searched seats (found.Answer outcome) s mech = inr (views_told seats outcome mech)
    fast_searched seats found.Contended s mech = inl (views_tried seats (record mech { failures = min (mech.failures + 1) mech.setup.limit }))

    pub fast_wrapped : (seats : ℕ) (what : Wrapped) (wrap : W) (mech : Mech S W) → FastNext seats mech.number (wrapped_up form what wrap mech)
    fast_wrapped seats wrapped.Going wrap mech = inl (record { phase' = refl; number = refl; fits = tt })
    fast_wrapped seats (wrapped.Done outcome) wrap mech = inr (views_told seats outcome mech)
    fast_wrapped seats wrapped.Restart wrap mech = inl (views_tried seats (record mech { failures = min (mech.failures + 1) mech.setup.limit }))

    spent_if : (seats n : ℕ) (b : Bool) (what : Wrapped) (wrap : W) (x y : Mech S W) → x.number ≡ n → y.number ≡ n → FastNext seats n (wrapped_up form what wrap (if b then x else y))
    spent_if seats n true what wrap x y h k = subst (λ m. FastNext seats m (wrapped_up form what wrap x)) h (fast_wrapped seats what wrap x)
    spent_if seats n false what wrap x y h k = subst (λ m. FastNext seats m (wrapped_up form what wrap y)) k (fast_wrapped seats what wrap y)

    fast_executed : (seats : ℕ) (execution : Execution) (run : FastWalk) (stores : ArrayVec (ℕ × ℕ)) (mech : Mech S W) → FastNext seats mech.number (executed form execution run stores mech)
    fast_executed seats Running run stores mech = inl (record { phase' = refl; number = refl; fits = tt })
    fast_executed seats (Stopped stop) run stores mech = spent_if seats mech.number (nat_lt 0 stop && form.needs_block mech.op) _ _ (with_hand None mech) mech refl refl

    pub fast_generated : (seats : ℕ) (s : S) (step : Generating) (seen : Seen) (mech : Mech S W) → FastNext seats mech.number (generated form s step seen mech)
    fast_generated seats s Search seen mech = fast_searched seats _ _ mech
    fast_generated seats s LookForBlock seen mech =
        fast_if seats mech.number (nat_lt seen.before mech.setup.cap) (in_phase (phase.Generate s Claim) mech) (in_phase (phase.End reply.Exhausted) mech)
        (inl (record { phase' = refl; number = refl; fits = tt })) (inr (record { phase' = refl; number = refl; fits = tt }))
    fast_generated seats s Claim seen mech =
        fast_if seats mech.number (nat_lt seen.before mech.setup.cap) (offered form s (with_hand (Some (seen.before + 1)) mech)) (in_phase (phase.End reply.Exhausted) mech)
        (fast_offered seats s (with_hand (Some (seen.before + 1)) mech)) (inr (record { phase' = refl; number = refl; fits = tt }))

    pub fast_applied : (seats : ℕ) (run : FastWalk) (stores : ArrayVec (ℕ × ℕ)) (step : Applying) (seen : Seen) (mech : Mech S W) → PhaseFits {S = S} {W = W} seats (phase.Apply run stores step) → FastNext seats mech.number (applied form run stores step seen mech)
    fast_applied seats run stores (Fill made) seen mech fits = inl (record { phase' = refl; number = refl; fits = filled_fits seats (made + 1 == length stores.items) made run stores fits })
    fast_applied seats run stores Execute seen mech fits = fast_executed seats _ _ stores mech
