-- The lists that a move may serve: that which a seat holds, and that which the record of its call names. Each is of a call that
-- runs and doesn't return now, and no other list has made the change of that call.
use Rattle.std.proofs.Common.{◌≡◌, ◌≢◌, ◌∙◌, refl, sym, subst, ap, ℕ, ◌⊎◌, true, List, slice_get, Option, Some, None, inl, inr}
use Rattle.lin_report.specs.declared.calls.Outcome.{Outcome}
use Rattle.lin_report.specs.declared.calls.Reply.{Reply}
use Rattle.word_fields.specs.Payloads.{payload_block}
use Rattle.word_fields.specs.Records.{record_number, record_of, record_payload, record_phase}
use Rattle.word_fields.specs.declared.records.RecordPhase as marks
use Rattle.word_fields.specs.declared.records.RecordPhase.TheVariants.{Executing, Wrapping}
use Rattle.node_arena.specs.MemoryMap.{record_place}
use Rattle.op_record.specs.Outcomes.{outcome_of}
use Rattle.help_queue.specs.Gathers.{is_open}
use Rattle.normal_traits.specs.World.{Called, Listed, World}
use Rattle.normal_traits.specs.NormalForm.{NormalForm}
use Rattle.fast_slow_engine.specs.declared.phases.Phase.{Phase}
use Rattle.fast_slow_engine.specs.declared.phases.Phase.TheVariants.{Idle, Begin, Look, Generate, Apply, Wrap, Announce, Enter, Drive, Help, Collect, Value, End}
use Rattle.fast_slow_engine.specs.declared.setup.Setup.{Setup}
use Rattle.fast_slow_engine.specs.Mechs.{Mech}
use Rattle.fast_slow_engine.specs.PhaseTable.{ticks_left}
use Rattle.fast_slow_engine.specs.Runs.{Move, AreMoves, run_of}
use Rattle.offered_blocks.specs.Blocks.{Offer, IsExecuting}
use Rattle.offered_blocks.specs.Records.{MadeBy, Names, RecordIsRight, RecordTells}
use Rattle.offered_blocks.proofs.Blocks.Named.{some_offer}
use Rattle.move_kinds.specs.Owned.{IsNamedNow}
use Rattle.helper_knowledge.specs.Callers.{called}
use Rattle.helper_knowledge.specs.Carried.{OfSome}
use Rattle.run_laws.proofs.MachinesKept.{seats_stay}
use Rattle.run_queue.specs.QueueLaws.{Publishes}
use Rattle.run_invariant.specs.Ghosts.{Held, SeatGhost}
use Rattle.run_invariant.specs.Lists.{HoldsIn, IsHeld, IsOffering}
use Rattle.run_invariant.specs.RunGhosts.{ghost_of, world_of}
use Rattle.run_invariant.specs.Kept.{IsKept}
use Rattle.run_invariant.specs.Tells.{TellsIn}
use Rattle.run_invariant.proofs.Holding.HeldLists.{lists_held}
use Rattle.run_invariant.proofs.Bounds.InKept.{keeps_queue}
use Rattle.run_exchanges.proofs.Moves.Seats.{holder_seated, opened_seated}

pub none_held : {X A : Type 0} (held : Option X) (x : X) → held ≡ None → held ≡ Some x → A
none_held held x none some = absurd (let both = sym none ∙ some in cc)

pub some_of : {X : Type 0} (P : X → Type 0) (held : Option X) (x : X) → held ≡ Some x → OfSome P held → P x
some_of P held x is has = subst (OfSome P) is has

module _ {S W : Type 0} where
  -- a call that is published runs, and doesn't return now
  pub publishing : (phase : Phase S W) → Publishes phase → (ticks_left phase ≡ 1) × ((reply : Reply) → phase ≢ End reply)
  publishing Idle is = absurd is
  publishing Begin is = absurd is
  publishing Look is = absurd is
  publishing (Generate s at) is = absurd is
  publishing (Apply run stores at) is = absurd is
  publishing (Wrap w) is = absurd is
  publishing (Announce stage) is = absurd is
  publishing (Enter owner) is = (refl, λ reply e. absurd cc)
  publishing Drive is = (refl, λ reply e. absurd cc)
  publishing (Help drives help) is = (refl, λ reply e. absurd cc)
  publishing Collect is = absurd is
  publishing (Value reference) is = absurd is
  publishing (End reply) is = absurd is

module _ {S W : Type 0} (form : NormalForm S W) where
  -- the call of the list runs and doesn't return now, and no other list made its change
  pub record IsServed (setup : Setup) (moves : List Move) (list : Listed) : Type 0 where
    pub mech : Mech S W
    pub seated : slice_get (run_of form setup moves).mechs list.call.seat ≡ Some mech
    pub call : list.call ≡ called mech
    pub running : ticks_left mech.phase ≡ 1
    pub stays : (reply : Reply) → mech.phase ≢ End reply
    pub only : MadeBy (world_of form setup moves) (called mech) list

  -- ---- a list that its seat holds

  record Serves (mech : Mech S W) (phase : Phase S W) (world : World) (held : Held S) : Type 0 where
    pub call : held.list.call ≡ called mech
    pub running : ticks_left phase ≡ 1
    pub stays : (reply : Reply) → phase ≢ End reply
    pub only : MadeBy world (called mech) held.list

  serves : (phase : Phase S W) (mech : Mech S W) (own : SeatGhost S) (world : World) (held : Held S) → own.held ≡ Some held → HoldsIn form phase mech own.held → TellsIn form phase mech own world → Serves mech phase world held
  serves (Apply run stores at) mech own world held is holds tells = record {
    call = (some_of (IsOffering form run stores mech) own.held held is holds).held_by.call;
    running = refl;
    stays = λ reply e. absurd cc;
    only = some_of (λ (h : Held S). MadeBy world (called mech) h.list) own.held held is tells;
  }
  serves (Wrap w) mech own world held is holds tells = record {
    call = (some_of (IsHeld form mech) own.held held is holds).call;
    running = refl;
    stays = λ reply e. absurd cc;
    only = some_of (λ (h : Held S). MadeBy world (called mech) h.list) own.held held is tells;
  }
  serves Idle mech own world held is holds tells = none_held own.held held holds is
  serves Begin mech own world held is holds tells = none_held own.held held holds is
  serves Look mech own world held is holds tells = none_held own.held held holds is
  serves (Generate s at) mech own world held is holds tells = none_held own.held held holds is
  serves (Announce stage) mech own world held is holds tells = none_held own.held held holds is
  serves (Enter owner) mech own world held is holds tells = none_held own.held held holds is
  serves Drive mech own world held is holds tells = none_held own.held held holds is
  serves (Help drives help) mech own world held is holds tells = none_held own.held held holds is
  serves Collect mech own world held is holds tells = none_held own.held held holds is
  serves (Value reference) mech own world held is holds tells = none_held own.held held holds is
  serves (End reply) mech own world held is holds tells = none_held own.held held holds is

  module _ (setup : Setup) (moves : List Move) (are : AreMoves form setup moves) (kept : IsKept form setup moves) where
    abbrev world : World
    world = world_of form setup moves

    abbrev offers : ℕ → Option (Offer S)
    offers = (ghost_of form setup moves).offers

    pub held_served : (seat : ℕ) (held : Held S) → ((ghost_of form setup moves).seats seat).held ≡ Some held → IsServed setup moves held.list
    held_served seat held is =
        let there = holder_seated form setup moves seat held are is in
        let mech = there.0 in
        let has = serves mech.phase mech ((ghost_of form setup moves).seats seat) world held is (lists_held form setup moves are seat mech there.1) (kept.seats seat mech there.1).tells in
        let here : seat ≡ held.list.call.seat = sym ((seats_stay form setup moves are).own seat mech there.1).seat ∙ ap (λ (c : Called). c.seat) (sym has.call) in
        record {
          mech = mech;
          seated = subst (λ k. slice_get (run_of form setup moves).mechs k ≡ Some mech) here there.1;
          call = has.call;
          running = has.running;
          stays = has.stays;
          only = has.only;
        }

    -- ---- a list that the record of its call names

    -- that record, by its phase
    names_of : (call : Called) (begun : ℕ) (p : marks.RecordPhase) (payload : ℕ) (told : Option Outcome) → (p ≡ Executing) ⊎ (p ≡ Wrapping) → RecordTells form world offers call begun p payload told
        → Names form world offers call begun (payload_block payload)
    names_of call begun marks.TheVariants.Idle payload told at tells = elim at [ inl e ↦ absurd cc | inr e ↦ absurd cc ]
    names_of call begun marks.TheVariants.Generate payload told at tells = elim at [ inl e ↦ absurd cc | inr e ↦ absurd cc ]
    names_of call begun Executing payload told at tells = tells
    names_of call begun Wrapping payload told at tells = tells.0
    names_of call begun marks.TheVariants.Completed payload told at tells = elim at [ inl e ↦ absurd cc | inr e ↦ absurd cc ]

    opened : (p : marks.RecordPhase) → (p ≡ Executing) ⊎ (p ≡ Wrapping) → is_open p ≡ true
    opened p (inl e) = ap is_open e
    opened p (inr e) = ap is_open e

    -- so its seat makes the call and has published it
    pub record IsPublished (list : Listed) : Type 0 where
      pub owner : Mech S W
      pub seated : slice_get (run_of form setup moves).mechs list.call.seat ≡ Some owner
      pub call : list.call ≡ called owner
      pub published : Publishes owner.phase
      pub only : MadeBy world (called owner) list

    pub named_published : (list : Listed) → IsNamedNow world offers list → IsPublished list
    named_published list now =
        let seat = list.call.seat in
        let there = opened_seated form setup moves seat now.seated are (keeps_queue form setup moves are kept) (opened (record_phase (world.words (record_place seat))) now.phase) in
        let mech = there.mech in
        let owns = there.owns (opened (record_phase (world.words (record_place seat))) now.phase) in
        let here : seat ≡ mech.seat = sym ((seats_stay form setup moves are).own seat mech there.seated).seat in
        let begun = ((ghost_of form setup moves).seats seat).begun in
        let right = (kept.seats seat mech there.seated).record_tells (ap (λ s. record_number (world.words (record_place s))) (sym here) ∙ owns.0) in
        let tells : RecordIsRight form world offers (called mech) begun (record_of (world.words (record_place seat))) = subst (λ s. RecordIsRight form world offers (called mech) begun (record_of (world.words (record_place s)))) (sym here) right in
        let word = world.words (record_place seat) in
        let names = names_of (called mech) begun (record_phase word) (record_payload word) (outcome_of (record_of word)) now.phase tells in
        let one : names.offer ≡ now.offer = some_offer names.offer now.offer (offers list.block) (subst (λ b. offers b ≡ Some names.offer) now.block names.stands) now.stands in
        let same : names.offer.list ≡ list = ap (λ (o : Offer S). o.list) one ∙ now.list_is in
        record {
          owner = mech;
          seated = there.seated;
          call = ap (λ (l : Listed). l.call) (sym same) ∙ names.call_is;
          published = owns.1;
          only = subst (MadeBy world (called mech)) same names.only;
        }

    pub named_served : (list : Listed) → IsNamedNow world offers list → IsServed setup moves list
    named_served list now =
        let is = named_published list now in
        let runs = publishing is.owner.phase is.published in
        record { mech = is.owner; seated = is.seated; call = is.call; running = runs.0; stays = runs.1; only = is.only }

    -- a list whose block is executed is named
    pub executing_named : (block : ℕ) (offer : Offer S) → offers block ≡ Some offer → IsExecuting world offer.list → IsNamedNow world offers offer.list
    executing_named block offer stands is = record {
      offer = offer;
      stands = ap offers (kept.holds.blocks.offered block offer stands).block_is ∙ stands;
      list_is = refl;
      seated = is.seated;
      phase = inl is.phase;
      block = is.block;
    }
