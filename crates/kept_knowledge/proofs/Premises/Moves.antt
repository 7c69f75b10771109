-- Each move of a run of which the invariant holds meets the premises of the laws of ticks, claims and the help queue, so they
-- are met by the run with the move.
use Rattle.std.proofs.Common.{◌≡◌, refl, sym, subst, ◌∙◌, ℕ, ◌<◌, true, inl, inr, List, ◌∷◌, slice_get, Some, arith}
use Rattle.node_arena.specs.declared.places.TheConstants.{TICKS, CLAIMS}
use Rattle.node_arena.specs.MemoryMap.{MayBeClients}
use Rattle.node_arena.proofs.PlacesApart.{engines_out}
use Rattle.normal_traits.specs.NormalForm.{NormalForm}
use Rattle.normal_traits.specs.Laws.{Laws}
use Rattle.fast_slow_engine.specs.declared.phases.Phase.{Phase}
use Rattle.fast_slow_engine.specs.declared.phases.Phase.TheVariants as phase
use Rattle.fast_slow_engine.specs.declared.phases.Generating.TheVariants.{Search, LookForBlock, Claim}
use Rattle.fast_slow_engine.specs.declared.phases.Applying.TheVariants.{Fill, Execute}
use Rattle.fast_slow_engine.specs.declared.setup.Setup.{Setup}
use Rattle.fast_slow_engine.specs.declared.help.Helping.{Helping}
use Rattle.fast_slow_engine.specs.declared.help.Helping.TheVariants.{Record, Known, Remove}
use Rattle.fast_slow_engine.specs.declared.help.Work.{Work}
use Rattle.fast_slow_engine.specs.declared.help.Work.TheVariants as work
use Rattle.fast_slow_engine.specs.Mechs.{Mech}
use Rattle.fast_slow_engine.specs.PhaseTable.{mech_request}
use Rattle.fast_slow_engine.specs.Runs.{AreMoves, Move, begun, run_of}
use Rattle.run_laws.specs.Premises as counters
use Rattle.run_laws.specs.Claims.{KeepsClaims}
use Rattle.run_laws.specs.Ticks.{KeepsTicks, LeavesWord}
use Rattle.run_laws.proofs.CountersLeft.{client_keeps_claims, client_keeps_ticks}
use Rattle.run_laws.proofs.Steps.{some_same}
use Rattle.run_queue.specs.Premises as queue
use Rattle.run_knowledge.specs.RunGhosts.{ghost_of, world_of}
use Rattle.run_knowledge.specs.Kept.{IsKept, callers_in}
use Rattle.run_knowledge.proofs.Blocks.Counts.{queue_kept}
use Rattle.run_knowledge.proofs.InRuns.MovesKinds.{hand_begun, hand_within}
use Rattle.run_knowledge.proofs.InRuns.Rests.{known}
use Rattle.kept_knowledge.proofs.Premises.Clients.{phase_leaves}
use Rattle.kept_knowledge.proofs.Premises.Requests.{LeavesOthers}

-- what counts as the client's for the two counters, counts as such for the queue
both_work : {S W : Type 0} (does : Work S W) → counters.works_for_client does ≡ true → queue.works_for_client does ≡ true
both_work work.Head is = is
both_work work.Op is = is
both_work (work.Value op) is = is
both_work (work.Generate op s Search) is = is
both_work (work.Generate op s LookForBlock) is = is
both_work (work.Generate op s Claim) is = is
both_work (work.Fill stores made) is = refl
both_work (work.Advance to) is = is
both_work (work.Read read) is = is
both_work (work.Execute run) is = is
both_work (work.Wrap wrap) is = is

both_help : {S W : Type 0} (at : Helping S W) → counters.helps_for_client at ≡ true → queue.helps_for_client at ≡ true
both_help (Record last) is = is
both_help (Known word does) is = both_work does is
both_help (Remove removal) is = is

both_clients : {S W : Type 0} (at : Phase S W) → counters.is_clients at ≡ true → queue.is_for_client at ≡ true
both_clients phase.Idle is = is
both_clients phase.Begin is = is
both_clients phase.Look is = is
both_clients (phase.Generate s Search) is = is
both_clients (phase.Generate s LookForBlock) is = is
both_clients (phase.Generate s Claim) is = is
both_clients (phase.Apply run stores (Fill made)) is = is
both_clients (phase.Apply run stores Execute) is = is
both_clients (phase.Wrap w) is = is
both_clients (phase.Announce step) is = is
both_clients (phase.Enter owner) is = is
both_clients phase.Drive is = is
both_clients (phase.Help drives help) is = both_help help.at is
both_clients phase.Collect is = is
both_clients (phase.Value reference) is = is
both_clients (phase.End reply) is = is

-- the two counters and the words of the queue are no words of a client
counter_not : (place : ℕ) → place < 20 → ¬ MayBeClients place
counter_not place low = engines_out place (inl low)

queue_not : (place : ℕ) → queue.IsQueuePlace place → ¬ MayBeClients place
queue_not place (inl is) = counter_not place (omega (arith, is))
queue_not place (inr (inl low)) = counter_not place low.1
queue_not place (inr (inr high)) = engines_out place (inr high)

module _ {S W : Type 0} (form : NormalForm S W) (laws : Laws form) (setup : Setup) (older : List Move) (move : Move) (mech : Mech S W) (are : AreMoves form setup (move ∷ older))
    (at : slice_get (run_of form setup older).mechs move.seat ≡ Some mech) (kept : IsKept form setup older) where
  -- the request of the move, if it is the client's
  move_leaves : queue.is_for_client (begun move.begins mech).phase ≡ true → LeavesOthers (mech_request form (begun move.begins mech))
  move_leaves client =
      let k = known form laws setup older move mech are at kept in
      let one = begun move.begins mech in
      phase_leaves form laws (world_of form setup older) (ghost_of form setup older).offers kept.holds (callers_in (run_of form setup older) (ghost_of form setup older)) one ((ghost_of form setup older).seats move.seat) one.phase
      (λ block has. (hand_within form laws setup older move mech are at kept block (sym (hand_begun form laws setup older move mech are at kept move.begins) ∙ has)).0)
      client k.command k.knows k.lists k.block

  -- of any machine at the seat
  abbrev OfMover : (Mech S W → Type 0) → Type 0
  OfMover P = (other : Mech S W) → slice_get (run_of form setup older).mechs move.seat ≡ Some other → P other

  of_mover : (P : Mech S W → Type 0) → P mech → OfMover P
  of_mover P is other found = subst P (some_same mech other (sym at ∙ found)) is

  counter_leaves : (place : ℕ) → place < 20 → counters.MoveLeaves form place (run_of form setup older) move
  counter_leaves place low =
      of_mover (λ other. counters.is_clients (begun move.begins other).phase ≡ true → LeavesWord place (mech_request form (begun move.begins other)) (run_of form setup older).words)
      (λ client. move_leaves (both_clients (begun move.begins mech).phase client) place (run_of form setup older).words (counter_not place low))

  -- the move leaves the tick counter, the claim counter and the words of the queue where it asks for the client
  pub leaves_ticks : counters.MoveLeaves form TICKS (run_of form setup older) move
  leaves_ticks = counter_leaves TICKS (omega arith)

  pub leaves_claims : counters.MoveLeaves form CLAIMS (run_of form setup older) move
  leaves_claims = counter_leaves CLAIMS (omega arith)

  pub leaves_queue : queue.MoveLeavesQueue form (run_of form setup older) move
  leaves_queue =
      of_mover (λ other. queue.is_for_client (begun move.begins other).phase ≡ true → queue.LeavesQueue (mech_request form (begun move.begins other)) (run_of form setup older).words)
      (λ client place is. move_leaves client place (run_of form setup older).words (queue_not place is))

  -- so the run with the move keeps its counters and its queue
  pub claims_after : KeepsClaims form setup (move ∷ older)
  claims_after = client_keeps_claims form setup (move ∷ older) (kept.claims, leaves_claims)

  pub ticks_after : KeepsTicks form setup (move ∷ older)
  ticks_after = client_keeps_ticks form setup (move ∷ older) (kept.ticks, leaves_ticks)

  pub queue_after : queue.KeepsQueue form setup (move ∷ older)
  queue_after = queue_kept form setup (move ∷ older) are claims_after (kept.queue, leaves_queue)
