-- The block in hand of a machine is that of its list.
use Rattle.std.proofs.Common.{◌≡◌, ◌∙◌, refl, sym, subst, ℕ, ◌+◌, ◌==◌, ◌&&◌, nat_lt, if◌then◌else◌, Bool, true, false, [], ◌∷◌, length, Option, Some, None, rules}
use Rattle.lin_report.specs.declared.calls.Op.{Op}
use Rattle.lin_report.specs.declared.calls.Outcome.{Outcome}
use Rattle.lin_report.specs.declared.calls.Outcome.TheVariants as outcome
use Rattle.lin_report.specs.declared.calls.Reply.TheVariants.{Exhausted}
use Rattle.step_memory.specs.declared.steps.Seen.{Seen}
use Rattle.arrayvec.specs.ArrayVec.{ArrayVec}
use Rattle.normal_traits.specs.declared.form.Found.{Found}
use Rattle.normal_traits.specs.declared.form.Found.TheVariants as found
use Rattle.normal_traits.specs.declared.form.Wrapped.{Wrapped}
use Rattle.normal_traits.specs.declared.form.Wrapped.TheVariants as wrapped
use Rattle.normal_traits.specs.NormalForm.{NormalForm}
use Rattle.cas_executor.specs.declared.fast_run.Execution.{Execution}
use Rattle.cas_executor.specs.declared.fast_run.Execution.TheVariants.{Running, Stopped}
use Rattle.cas_executor.specs.FastRuns.{FastWalk, fast_execution, fast_fed}
use Rattle.fast_slow_engine.specs.declared.phases.Phase.{Phase}
use Rattle.fast_slow_engine.specs.declared.phases.Phase.TheVariants.{Idle, Generate, Apply, Wrap, Help, End}
use Rattle.fast_slow_engine.specs.declared.phases.Generating.TheVariants.{Search, LookForBlock, Claim}
use Rattle.fast_slow_engine.specs.declared.phases.Applying.TheVariants.{Fill, Execute}
use Rattle.fast_slow_engine.specs.Hands.{block_of, holds_none}
use Rattle.fast_slow_engine.specs.Mechs.{Mech}
use Rattle.fast_slow_engine.specs.PhaseTable.{executed, failed, in_phase, offered, searched, spent, stepped, stores_for, told, with_hand, wrapped_up}
use Rattle.fast_slow_engine.specs.Runs.{begun}
use Rattle.run_laws.proofs.MachinesKept.{new_mech}
use Rattle.run_world.specs.Ghosts.{Held, SeatGhost, stopped_in}
use Rattle.run_world.specs.InHand.{BlockIn, ExecutesWith, HasBlock}
use Rattle.run_world.specs.SeatSteps.{held_in, list_after, newly_held, offered_block}
use Rattle.run_world.specs.RunGhosts.{ghost_of}
use Rattle.run_world.proofs.Holding.PlainSteps.{HoldsPlain, failed_plain, help_plain, leads_plain}
use Rattle.run_world.proofs.Words.Moved.{seen_by}
use Rattle.run_world.proofs.Words.Seats.{seats_keep}
use Rattle.run_hands.specs.Hands.{BlocksHeld}

-- the block that is offered, by whether one is needed
block_offered : (b : Bool) (hand : Option ℕ) → holds_none hand ≡ false → b ≡ true → hand ≡ Some (if b then block_of hand else 0)
block_offered b None has is = absurd (search rules)
block_offered true (Some block) has is = refl
block_offered false (Some block) has is = absurd (search rules)

none_offered : (b : Bool) (block : ℕ) → b ≡ false → (if b then block else 0) ≡ 0
none_offered true block is = absurd (search rules)
none_offered false block is = refl

holds_some : (hand : Option ℕ) → holds_none hand ≡ true → hand ≡ None
holds_some None is = refl
holds_some (Some block) is = absurd (search rules)

both_true : (b c : Bool) → (b && c) ≡ true → (b ≡ true) × (c ≡ true)
both_true true c is = (refl, is)
both_true false c is = absurd (search rules)

other_false : (b c : Bool) → (b && c) ≡ false → b ≡ true → c ≡ false
other_false true c is one = is
other_false false c is one = absurd (search rules)

module _ {S W : Type 0} (form : NormalForm S W) where
  -- the block of what is left of this list in the machine's phase
  abbrev Blocks : Mech S W → Option (Held S) → Type 0
  Blocks mech list = BlockIn form mech.phase mech (held_in mech.phase list)

  -- in a plain phase nothing is said of it
  abbrev Plain : Phase S W → Type 0
  Plain phase = (mech : Mech S W) (list : Option (Held S)) → BlockIn form phase mech (held_in phase list)

  plain : HoldsPlain Plain
  plain = record {
    idle = λ mech list. tt;
    look = λ mech list. tt;
    searches = λ s mech list. tt;
    announces = λ at mech list. tt;
    enters = λ owner mech list. tt;
    drives = λ mech list. tt;
    helps = λ drives head seats mech list. tt;
    collects = λ mech list. tt;
    values = λ reference mech list. tt;
    ends = λ reply mech list. tt;
  }

  told_blocks : (what : Outcome) (mech : Mech S W) (list : Option (Held S)) → Blocks (told what mech) list
  told_blocks (outcome.Plain reply) mech list = tt
  told_blocks (outcome.ValueOf reference) mech list = tt

  filling_blocks : (b : Bool) (run : FastWalk) (stores : ArrayVec (ℕ × ℕ)) (mech : Mech S W) (held : Held S) → form.needs_block mech.op ≡ b → run.next ≡ 0
      → (form.needs_block mech.op ≡ true → mech.hand ≡ Some held.list.block) → (form.needs_block mech.op ≡ false → held.list.block ≡ 0)
      → BlockIn form (Apply run stores (if b then Fill 0 else Execute)) mech (Some held)
  filling_blocks true run stores mech held needs first has none = (needs, first, has needs)
  filling_blocks false run stores mech held needs first has none = record { needed = has; other = none }

  named_blocks : (identity since : ℕ) (s : S) (mech : Mech S W) → (form.needs_block mech.op ≡ true → holds_none mech.hand ≡ false)
      → Blocks (offered form s mech) (Some (newly_held form identity s since (offered form s mech)))
  named_blocks identity since s mech has =
      let offer = form.offer_of s mech.op (offered_block form mech) in
      let needs = form.needs_block mech.op in
      filling_blocks needs (record { entries = offer.entries; next = 0 }) (record { items = stores_for needs offer.stores mech }) (offered form s mech) (newly_held form identity s since (offered form s mech)) refl refl
      (λ is. block_offered needs mech.hand (has is) is) (λ is. none_offered needs (block_of mech.hand) is)

  readied_blocks : (b : Bool) (identity since : ℕ) (s : S) (mech : Mech S W) → (form.needs_block mech.op && holds_none mech.hand) ≡ b
      → (let new = if b then in_phase (Generate s LookForBlock) mech else offered form s mech in Blocks new (Some (newly_held form identity s since new)))
  readied_blocks true identity since s mech is =
      let both = both_true (form.needs_block mech.op) (holds_none mech.hand) is in
      (both.0, holds_some mech.hand both.1)
  readied_blocks false identity since s mech is = named_blocks identity since s mech (other_false (form.needs_block mech.op) (holds_none mech.hand) is)

  searched_blocks : (what : Found) (identity since : ℕ) (s : S) (mech : Mech S W) → Blocks (searched form what s mech) (Some (newly_held form identity s since (searched form what s mech)))
  searched_blocks found.Going identity since s mech = tt
  searched_blocks found.Ready identity since s mech = readied_blocks (form.needs_block mech.op && holds_none mech.hand) identity since s mech refl
  searched_blocks (found.Answer outcome) identity since s mech = told_blocks outcome mech _
  searched_blocks found.Contended identity since s mech = failed_plain Plain plain form mech (failed form mech) _

  looked_blocks : (b : Bool) (s : S) (mech : Mech S W) (list : Mech S W → Option (Held S)) → (form.needs_block mech.op ≡ true) × (mech.hand ≡ None)
      → (let new = if b then in_phase (Generate s Claim) mech else in_phase (End Exhausted) mech in Blocks new (list new))
  looked_blocks true s mech list is = is
  looked_blocks false s mech list is = tt

  claimed_blocks : (b : Bool) (identity since : ℕ) (s : S) (block : ℕ) (mech : Mech S W)
      → (let new = if b then offered form s (with_hand (Some block) mech) else in_phase (End Exhausted) mech in Blocks new (Some (newly_held form identity s since new)))
  claimed_blocks true identity since s block mech = named_blocks identity since s (with_hand (Some block) mech) (λ needs. refl)
  claimed_blocks false identity since s block mech = tt

  wrapped_blocks : (what : Wrapped) (w : W) (mech : Mech S W) (list : Option (Held S)) → Blocks (wrapped_up form what w mech) list
  wrapped_blocks wrapped.Going w mech list = tt
  wrapped_blocks (wrapped.Done outcome) w mech list = told_blocks outcome mech list
  wrapped_blocks wrapped.Restart w mech list = failed_plain Plain plain form mech (failed form mech) list

  executed_blocks : (execution : Execution) (later : FastWalk) (stores : ArrayVec (ℕ × ℕ)) (mech : Mech S W) (held : Option (Held S)) → ExecutesWith form mech held
      → Blocks (executed form execution later stores mech) (stopped_in execution held)
  executed_blocks (Stopped stop) later stores mech held is =
      wrapped_blocks (form.wrap_begun_of mech.op later.entries stop) (form.begin_wrap_of mech.op later.entries stop) (spent form stop mech) (stopped_in (Stopped stop) held)
  executed_blocks Running later stores mech None is = record { needed = is.needed; other = is.other }
  executed_blocks Running later stores mech (Some held) is = record { needed = is.needed; other = is.other }

  fill_blocks : (b : Bool) (run : FastWalk) (stores : ArrayVec (ℕ × ℕ)) (next : ℕ) (mech : Mech S W) (held : Option (Held S)) → (form.needs_block mech.op ≡ true) × (run.next ≡ 0) × HasBlock mech held
      → (let new = in_phase (Apply run stores (if b then Execute else Fill next)) mech in BlockIn form new.phase new held)
  fill_blocks b run stores next mech None is = absurd is.2
  fill_blocks true run stores next mech (Some held) is = record { needed = λ needs. is.2; other = λ none. (let both : true ≡ false = sym is.0 ∙ none in absurd (search rules)) }
  fill_blocks false run stores next mech (Some held) is = is

  idle_blocks : (phase : Phase S W) (mech : Mech S W) (list : Option (Held S)) → phase ≡ Idle → BlockIn form phase mech (held_in phase list)
  idle_blocks phase mech list is = subst (λ (p : Phase S W). BlockIn form p mech (held_in p list)) (sym is) tt

  step_blocks : (phase : Phase S W) (identity : ℕ) (mech : Mech S W) (seen : Seen) (own : SeatGhost S) → mech.phase ≡ phase → BlockIn form phase mech own.held
      → Blocks (stepped form phase seen mech) (list_after form identity phase seen own (stepped form phase seen mech))
  step_blocks Idle identity mech seen own at is = idle_blocks mech.phase mech own.held at
  step_blocks (Generate s Search) identity mech seen own at is = searched_blocks (form.found_of s seen) identity own.carried.since (form.feed_of s seen) mech
  step_blocks (Generate s LookForBlock) identity mech seen own at is = looked_blocks (nat_lt seen.before mech.setup.cap) s mech (λ new. Some (newly_held form identity s own.carried.since new)) is
  step_blocks (Generate s Claim) identity mech seen own at is = claimed_blocks (nat_lt seen.before mech.setup.cap) identity own.carried.since s _ mech
  step_blocks (Apply run stores (Fill made)) identity mech seen own at is = fill_blocks (made + 1 == length stores.items) run stores (made + 1) mech own.held is
  step_blocks (Apply run stores Execute) identity mech seen own at is = executed_blocks (fast_execution run seen) (fast_fed run seen) stores mech own.held is
  step_blocks (Wrap w) identity mech seen own at is = wrapped_blocks (form.wrap_found_of w seen) (form.feed_wrap_of w seen) mech own.held
  step_blocks (Help drives help) identity mech seen own at is = help_plain Plain plain form drives help seen mech (λ goes mate list. tt) (stepped form (Help drives help) seen mech) own.held
  step_blocks phase identity mech seen own at is = leads_plain Plain plain form phase seen mech tt (stepped form phase seen mech) own.held

  -- a call that begins asks for no block yet
  pub begin_blocks : (begins : Option Op) (mech : Mech S W) (held : Option (Held S)) → BlockIn form mech.phase mech held → BlockIn form (begun begins mech).phase (begun begins mech) held
  begin_blocks None mech held is = is
  begin_blocks (Some op) mech held is = tt

  pub blocks_held : BlocksHeld form
  blocks_held setup [] are = λ seat mech at. subst (λ (m : Mech S W). BlockIn form m.phase m None) (sym (new_mech form setup seat mech at)) tt
  blocks_held setup (move ∷ older) are =
      let is = are.1 in
      let own = (ghost_of form setup older).seats move.seat in
      let each = blocks_held setup older are.0 in
      let one = begun move.begins is.mech in
      seats_keep form (λ seat mech ghost. BlockIn form mech.phase mech ghost.held) setup older move is each
      (step_blocks one.phase (length older) one (seen_by form setup older move is.mech) own refl (begin_blocks move.begins is.mech own.held (each move.seat is.mech is.seated)))
