-- What a seat tells of its call, and has not announced or is about to return, stays so with every move.
use Rattle.std.proofs.Common.{◌≡◌, ◌∙◌, refl, sym, subst, ap, ℕ, ◌<◌, Bool, true, false, inl, inr, List, ◌∷◌, slice_get, Option, Some, None, arith}
use Rattle.std.proofs.lemmas.Option.{slice_get_within}
use Rattle.lin_report.specs.declared.calls.Op.{Op}
use Rattle.lin_report.specs.declared.calls.Outcome.{Outcome}
use Rattle.lin_report.specs.declared.calls.Outcome.TheVariants.{Plain, ValueOf}
use Rattle.word_fields.specs.Records.{record_phase}
use Rattle.node_arena.specs.MemoryMap.{record_place}
use Rattle.help_queue.specs.Gathers.{is_open}
use Rattle.normal_traits.specs.World.{World}
use Rattle.normal_traits.specs.NormalForm.{NormalForm}
use Rattle.normal_traits.specs.Laws.{Laws}
use Rattle.fast_slow_engine.specs.declared.phases.Phase.{Phase}
use Rattle.fast_slow_engine.specs.declared.phases.Phase.TheVariants as phase
use Rattle.fast_slow_engine.specs.declared.setup.Setup.{Setup}
use Rattle.fast_slow_engine.specs.Mechs.{Mech}
use Rattle.fast_slow_engine.specs.PhaseTable.{rests}
use Rattle.fast_slow_engine.specs.Runs.{AreMoves, CanMove, Move, begun, run_of}
use Rattle.offered_blocks.specs.Records.{MadeBy, MadeNone, TellsRight}
use Rattle.move_kinds.specs.Telling.{NoneNew}
use Rattle.move_kinds.proofs.TellsKept.{right_stays}
use Rattle.helper_knowledge.specs.Callers.{called}
use Rattle.helper_knowledge.specs.Carried.{OfSome}
use Rattle.run_laws.proofs.Steps.{some_same}
use Rattle.run_queue.specs.QueueLaws.{Publishes}
use Rattle.run_queue.proofs.QueueLaws.{owners_hold}
use Rattle.run_queue.proofs.Runs.RunMoves.{runs_queued}
use Rattle.kept_knowledge.specs.Ghosts.{Held, SeatGhost}
use Rattle.kept_knowledge.specs.Lists.{HoldsIn}
use Rattle.kept_knowledge.specs.RunGhosts.{ghost_of, world_of}
use Rattle.kept_knowledge.specs.Kept.{IsKept}
use Rattle.kept_knowledge.specs.Tells.{TellsIn}
use Rattle.kept_knowledge.proofs.Holding.HeldLists.{lists_held}
use Rattle.kept_knowledge.proofs.Bounds.InKept.{keeps_queue}
use Rattle.kept_knowledge.proofs.InRuns.Leaves.{leaves}
use Rattle.kept_knowledge.proofs.InRuns.Rests.{can, known}
use Rattle.run_invariant.proofs.Tells.ClosedRecords.{closed_new, none_some}

closed_by : {P : Type 0} (opened : Bool) → (opened ≡ true → P) → ¬ P → opened ≡ false
closed_by true gives none = absurd (none (gives refl))
closed_by false gives none = refl

rests_none : {S W : Type 0} (at : Phase S W) → rests at ≡ true → ¬ Publishes at
rests_none (phase.Enter owner) rest is = absurd cc
rests_none phase.Drive rest is = absurd cc
rests_none (phase.Help drives help) rest is = absurd cc
rests_none _ rest is = is

module _ {S W : Type 0} (form : NormalForm S W) (laws : Laws form) (setup : Setup) (older : List Move) (move : Move) (mech : Mech S W) (are : AreMoves form setup (move ∷ older))
    (at : slice_get (run_of form setup older).mechs move.seat ≡ Some mech) (kept : IsKept form setup older) where
  abbrev world : World
  world = world_of form setup older

  abbrev after : World
  after = world_of form setup (move ∷ older)

  abbrev own_at : ℕ → SeatGhost S
  own_at seat = (ghost_of form setup older).seats seat

  abbrev IsClosed : ℕ → Type 0
  IsClosed seat = is_open (record_phase (world.words (record_place seat))) ≡ false

  -- ---- of a machine of this seat

  module _ (seat : ℕ) (few : seat < 8) (one : Mech S W) (own_seat : one.seat ≡ seat) where
    -- a call whose seat holds no list makes no change
    pub none_new : IsClosed seat → (own_at seat).held ≡ None → NoneNew world after (called one)
    none_new closed empty change among of =
        elim (closed_new form laws setup older move mech are at kept seat few closed change among (of.seat ∙ own_seat)) [
          | inl old ↦ old
          | inr new ↦ none_some (own_at seat).held new.0 empty new.1
        ]

    made_none : IsClosed seat → (own_at seat).held ≡ None → MadeNone world (called one) → MadeNone after (called one)
    made_none closed empty made change among of = made change (none_new closed empty change among of) of

    made_by : IsClosed seat → (held : Option (Held S)) → (own_at seat).held ≡ held → OfSome (λ (h : Held S). MadeBy world (called one) h.list) held → OfSome (λ (h : Held S). MadeBy after (called one) h.list) held
    made_by closed None is made = made
    made_by closed (Some h) is made = λ change among of.
        elim (closed_new form laws setup older move mech are at kept seat few closed change among (of.seat ∙ own_seat)) [
          | inl old ↦ made change old of
          | inr new ↦ sym new.2 ∙ ap (λ (k : Held S). k.list) (some_same new.0 h (sym new.1 ∙ is))
        ]

    pub right_still : IsClosed seat → (own_at seat).held ≡ None → (begun_at : ℕ) (outcome : Outcome) → TellsRight form world (called one) begun_at outcome → TellsRight form after (called one) begun_at outcome
    right_still closed empty begun_at outcome =
        right_stays form laws world after (ghost_of form setup older).offers (ghost_of form setup (move ∷ older)).offers kept.holds (leaves form laws setup older move mech are at kept) (called one) begun_at
        (none_new closed empty) outcome

    -- what it tells in a phase
    pub tells_stay : (p : Phase S W) → (¬ Publishes p → IsClosed seat) → HoldsIn form p one (own_at seat).held → TellsIn form p one (own_at seat) world → TellsIn form p one (own_at seat) after
    tells_stay phase.Idle closed holds told = tt
    tells_stay phase.Begin closed holds told = made_none (closed (λ is. is)) holds told
    tells_stay phase.Look closed holds told = made_none (closed (λ is. is)) holds told
    tells_stay (phase.Generate s step) closed holds told = made_none (closed (λ is. is)) holds told
    tells_stay (phase.Apply run stores step) closed holds told = made_by (closed (λ is. is)) (own_at seat).held refl told
    tells_stay (phase.Wrap w) closed holds told = made_by (closed (λ is. is)) (own_at seat).held refl told
    tells_stay (phase.Announce step) closed holds told = made_none (closed (λ is. is)) holds told
    tells_stay (phase.Enter owner) closed holds told = tt
    tells_stay phase.Drive closed holds told = tt
    tells_stay (phase.Help true help) closed holds told = tt
    tells_stay (phase.Help false help) closed holds told = made_none (closed (λ is. absurd cc)) holds told
    tells_stay phase.Collect closed holds told = tt
    tells_stay (phase.Value reference) closed holds told = right_still (closed (λ is. is)) holds (own_at seat).begun (ValueOf reference) told
    tells_stay (phase.End reply) closed holds told = right_still (closed (λ is. is)) holds (own_at seat).begun (Plain reply) told

  -- ---- of each seat

  module _ (seat : ℕ) (mate : Mech S W) (found : slice_get (run_of form setup older).mechs seat ≡ Some mate) where
    -- only a call that its seat has announced has an open record
    pub record_closed : ¬ Publishes mate.phase → IsClosed seat
    record_closed none =
        closed_by (is_open (record_phase (world.words (record_place seat)))) (λ opened. ((owners_hold form setup older are.0 (keeps_queue form setup older are.0 kept) seat mate found).0 opened).1) none

    pub few_seats : seat < 8
    few_seats =
        let q = runs_queued form setup older are.0 (keeps_queue form setup older are.0 kept) in
        (let inside = slice_get_within (run_of form setup older).mechs seat mate found in let many = q.count in let most = setup.few_seats in omega (arith, inside, many, most))

    -- what a seat tells that doesn't move
    pub other_tells_after : TellsIn form mate.phase mate (own_at seat) after
    other_tells_after =
        let q = runs_queued form setup older are.0 (keeps_queue form setup older are.0 kept) in
        tells_stay seat few_seats mate (q.seats seat mate found).seat mate.phase record_closed (lists_held form setup older are.0 seat mate found) (kept.seats seat mate found).tells

  -- ---- of the machine that moves, with the call that it begins

  mover_closed : (begins : Option Op) → CanMove form begins mech → ¬ Publishes (begun begins mech).phase → IsClosed move.seat
  mover_closed None moves none = record_closed move.seat mech at none
  mover_closed (Some op) moves none = record_closed move.seat mech at (rests_none mech.phase moves.0)

  -- of a call that begins there is no change
  mover_told : (begins : Option Op) → TellsIn form (begun begins mech).phase (begun begins mech) (own_at move.seat) world
  mover_told None = (kept.seats move.seat mech at).tells
  mover_told (Some op) = λ change among of. (let below = (kept.seats move.seat mech at).below change among of.seat in let number = of.number in absurd (omega (arith, below, number)))

  -- it tells after the move what it told before its step
  pub mover_tells : TellsIn form (begun move.begins mech).phase (begun move.begins mech) (own_at move.seat) after
  mover_tells =
      let k = known form laws setup older move mech are at kept in
      tells_stay move.seat (subst (λ s. s < 8) k.seat_is k.few) (begun move.begins mech) k.seat_is (begun move.begins mech).phase
      (mover_closed move.begins (can form laws setup older move mech are at kept)) k.lists (mover_told move.begins)
