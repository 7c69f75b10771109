-- How many changes there were when calls and searches began, after a move: no more than there are, and of a search no fewer than
-- when its call began.
use Rattle.std.proofs.Common.{◌≡◌, ◌∙◌, refl, sym, subst, ap, ℕ, ◌≤◌, if◌then◌else◌, Bool, true, false, List, ◌∷◌, length, length-append, slice_get, Option, Some, None, arith}
use Rattle.lin_report.specs.declared.calls.Op.{Op}
use Rattle.step_memory.specs.declared.steps.Seen.{Seen}
use Rattle.normal_traits.specs.declared.form.Found.{Found}
use Rattle.normal_traits.specs.declared.form.Found.TheVariants as found
use Rattle.normal_traits.specs.World.{World}
use Rattle.normal_traits.specs.NormalForm.{NormalForm}
use Rattle.normal_traits.specs.Laws.{Laws}
use Rattle.fast_slow_engine.specs.declared.phases.Phase.{Phase}
use Rattle.fast_slow_engine.specs.declared.phases.Phase.TheVariants as phase
use Rattle.fast_slow_engine.specs.declared.phases.Generating.TheVariants.{Search, LookForBlock, Claim}
use Rattle.fast_slow_engine.specs.declared.setup.Setup.{Setup}
use Rattle.fast_slow_engine.specs.declared.help.Help as helper
use Rattle.fast_slow_engine.specs.declared.help.Helping.{Helping}
use Rattle.fast_slow_engine.specs.declared.help.Helping.TheVariants.{Record, Known, Remove}
use Rattle.fast_slow_engine.specs.declared.help.Work.TheVariants as work
use Rattle.fast_slow_engine.specs.HelpTable.{contended, helping_ends, is_over}
use Rattle.fast_slow_engine.specs.Mechs.{Mech}
use Rattle.fast_slow_engine.specs.PhaseTable.{stepped}
use Rattle.fast_slow_engine.specs.Runs.{AreMoves, Move, begun, run_of}
use Rattle.offered_blocks.specs.Blocks.{Offer}
use Rattle.run_knowledge.specs.Ghosts.{Held, SeatGhost}
use Rattle.run_knowledge.specs.RunGhosts.{ghost_of, world_of}
use Rattle.run_knowledge.specs.SeatSteps.{begun_after, searches_on}
use Rattle.run_knowledge.specs.Worlds.{world_stepped}
use Rattle.run_knowledge.specs.Kept.{IsKept}
use Rattle.run_knowledge.specs.Tells.{CountsIn}
use Rattle.run_knowledge.proofs.Words.Grow.{world_grows}
use Rattle.run_knowledge.proofs.Words.Moved.{made_moved, seat_after, seen_by}
use Rattle.run_knowledge.proofs.Words.Seats.{machine_after}

-- it is so in every phase where it is so of the numbers
any_counts : {S W : Type 0} (at : Phase S W) (own : SeatGhost S) → own.begun ≤ own.carried.since → CountsIn at own
any_counts phase.Idle own is = tt
any_counts phase.Begin own is = tt
any_counts phase.Look own is = tt
any_counts (phase.Generate s step) own is = is
any_counts (phase.Apply run stores step) own is = tt
any_counts (phase.Wrap w) own is = tt
any_counts (phase.Announce step) own is = tt
any_counts (phase.Enter owner) own is = tt
any_counts phase.Drive own is = tt
any_counts (phase.Help drives help) own is = tt
any_counts phase.Collect own is = tt
any_counts (phase.Value reference) own is = tt
any_counts (phase.End reply) own is = tt

least_if : (b : Bool) (least since count : ℕ) → least ≤ since → least ≤ count → least ≤ (if b then since else count)
least_if true least since count low high = low
least_if false least since count low high = high

-- a search never ends helping
never_over : {S W : Type 0} (form : NormalForm S W) (what : Found) → is_over form (contended form what) ≡ false
never_over form found.Going = refl
never_over form found.Ready = refl
never_over form (found.Answer outcome) = refl
never_over form found.Contended = refl

-- how many changes there were at the begin tick is no more than there are
begun_early : {S W : Type 0} (at : Phase S W) (count before : ℕ) → before ≤ count → begun_after at count before ≤ count
begun_early phase.Begin count before is = omega arith
begun_early phase.Idle count before is = is
begun_early phase.Look count before is = is
begun_early (phase.Generate s step) count before is = is
begun_early (phase.Apply run stores step) count before is = is
begun_early (phase.Wrap w) count before is = is
begun_early (phase.Announce step) count before is = is
begun_early (phase.Enter owner) count before is = is
begun_early phase.Drive count before is = is
begun_early (phase.Help drives help) count before is = is
begun_early phase.Collect count before is = is
begun_early (phase.Value reference) count before is = is
begun_early (phase.End reply) count before is = is

module _ {S W : Type 0} (form : NormalForm S W) (mech : Mech S W) (own : SeatGhost S) (count : ℕ) (seen : Seen) (held : Option (Held S)) (filled : Option (Offer S)) where
  -- what is known of the seat after a step in this phase
  abbrev after_step : Phase S W → SeatGhost S
  after_step at = record { begun = begun_after at count own.begun; held = held; carried = record { since = if searches_on form at seen then own.carried.since else count; filled = filled } }

  abbrev Counts : Phase S W → Type 0
  Counts at = CountsIn (stepped form at seen mech).phase (after_step at)

  plain_counts : (at : Phase S W) → (after_step at).begun ≤ (after_step at).carried.since → Counts at
  plain_counts at is = any_counts (stepped form at seen mech).phase (after_step at) is

  ends_or_helps : (b : Bool) (drives : Bool) (help help' : helper.Help S W) (over : Mech S W) (going : Mech S W) → going.phase ≡ phase.Help drives help' → b ≡ false → CountsIn (if b then over else going).phase (after_step (phase.Help drives help))
  ends_or_helps false drives help help' over going is off = subst (λ (p : Phase S W). CountsIn p (after_step (phase.Help drives help))) (sym is) tt
  ends_or_helps true drives help help' over going is off = absurd cc

  -- of a helper that searches, which goes on helping
  helper_counts : (drives : Bool) (head seats : ℕ) (at : Helping S W) → own.begun ≤ count → Counts (phase.Help drives (record { head = head; seats = seats; at = at }))
  helper_counts drives head seats (Record known) early = plain_counts (phase.Help drives (record { head = head; seats = seats; at = Record known })) early
  helper_counts drives head seats (Remove removal) early = plain_counts (phase.Help drives (record { head = head; seats = seats; at = Remove removal })) early
  helper_counts drives head seats (Known word work.Head) early = plain_counts (phase.Help drives (record { head = head; seats = seats; at = Known word work.Head })) early
  helper_counts drives head seats (Known word work.Op) early = plain_counts (phase.Help drives (record { head = head; seats = seats; at = Known word work.Op })) early
  helper_counts drives head seats (Known word (work.Value op)) early = plain_counts (phase.Help drives (record { head = head; seats = seats; at = Known word (work.Value op) })) early
  helper_counts drives head seats (Known word (work.Generate op s Search)) early =
      ends_or_helps (helping_ends form (Known word (work.Generate op s Search)) head seen) drives (record { head = head; seats = seats; at = Known word (work.Generate op s Search) }) _ _ _ refl (never_over form (form.found_of s seen))
  helper_counts drives head seats (Known word (work.Generate op s LookForBlock)) early = tt
  helper_counts drives head seats (Known word (work.Generate op s Claim)) early = tt
  helper_counts drives head seats (Known word (work.Fill stores made)) early = plain_counts (phase.Help drives (record { head = head; seats = seats; at = Known word (work.Fill stores made) })) early
  helper_counts drives head seats (Known word (work.Advance to)) early = plain_counts (phase.Help drives (record { head = head; seats = seats; at = Known word (work.Advance to) })) early
  helper_counts drives head seats (Known word (work.Read read)) early = plain_counts (phase.Help drives (record { head = head; seats = seats; at = Known word (work.Read read) })) early
  helper_counts drives head seats (Known word (work.Execute run)) early = plain_counts (phase.Help drives (record { head = head; seats = seats; at = Known word (work.Execute run) })) early
  helper_counts drives head seats (Known word (work.Wrap wrap)) early = plain_counts (phase.Help drives (record { head = head; seats = seats; at = Known word (work.Wrap wrap) })) early

  step_counts : (at : Phase S W) → CountsIn at own → own.begun ≤ count → Counts at
  step_counts phase.Idle is early = plain_counts phase.Idle early
  step_counts phase.Begin is early = tt
  step_counts phase.Look is early = plain_counts phase.Look early
  step_counts (phase.Generate s Search) is early = plain_counts (phase.Generate s Search) (least_if (searches_on form (phase.Generate s Search) seen) own.begun own.carried.since count is early)
  step_counts (phase.Generate s LookForBlock) is early = plain_counts (phase.Generate s LookForBlock) is
  step_counts (phase.Generate s Claim) is early = plain_counts (phase.Generate s Claim) is
  step_counts (phase.Apply run stores step) is early = plain_counts (phase.Apply run stores step) early
  step_counts (phase.Wrap w) is early = plain_counts (phase.Wrap w) early
  step_counts (phase.Announce step) is early = plain_counts (phase.Announce step) early
  step_counts (phase.Enter owner) is early = plain_counts (phase.Enter owner) early
  step_counts phase.Drive is early = plain_counts phase.Drive early
  step_counts (phase.Help drives help) is early = helper_counts drives help.head help.seats help.at early
  step_counts phase.Collect is early = plain_counts phase.Collect early
  step_counts (phase.Value reference) is early = plain_counts (phase.Value reference) early
  step_counts (phase.End reply) is early = plain_counts (phase.End reply) early

module _ {S W : Type 0} (form : NormalForm S W) (laws : Laws form) (setup : Setup) (older : List Move) (move : Move) (mech : Mech S W) (are : AreMoves form setup (move ∷ older))
    (at : slice_get (run_of form setup older).mechs move.seat ≡ Some mech) (kept : IsKept form setup older) where
  abbrev world : World
  world = world_of form setup older

  abbrev after : World
  after = world_of form setup (move ∷ older)

  abbrev own : SeatGhost S
  own = (ghost_of form setup older).seats move.seat

  -- how many changes the move leaves
  abbrev count : ℕ
  count = length (world_stepped form (begun move.begins mech).phase own.held (ghost_of form setup older).offers (seen_by form setup older move mech) world).changes

  count_is : count ≡ length after.changes
  count_is = ap (λ (w : World). length w.changes) (made_moved form setup older move mech at)

  changes_more : length world.changes ≤ length after.changes
  changes_more =
      let newer = (world_grows form setup older move).changes in
      let long = ap length newer.1 ∙ length-append newer.0 world.changes in
      omega (arith, long)

  own_early : own.begun ≤ count
  own_early =
      let early = (kept.seats move.seat mech at).early in
      let same = count_is in
      let more = changes_more in
      omega (arith, early, same, more)

  counts_begun : (begins : Option Op) → CountsIn (begun begins mech).phase own
  counts_begun None = (kept.seats move.seat mech at).counts
  counts_begun (Some op) = tt

  -- of the seat that moved, when its search began
  pub counts_after : CountsIn (machine_after form setup older move mech).phase (seat_after form setup older move mech)
  counts_after =
      let one = begun move.begins mech in
      step_counts form one own count (seen_by form setup older move mech) (seat_after form setup older move mech).held (seat_after form setup older move mech).carried.filled one.phase (counts_begun move.begins) own_early

  -- and when its call did
  pub early_after : (seat_after form setup older move mech).begun ≤ length after.changes
  early_after =
      let least = begun_early (begun move.begins mech).phase count own.begun own_early in
      let same = count_is in
      omega (arith, least, same)

  -- of the other seats
  pub others_early_after : (seat : ℕ) (mate : Mech S W) → slice_get (run_of form setup older).mechs seat ≡ Some mate → ((ghost_of form setup older).seats seat).begun ≤ length after.changes
  others_early_after seat mate found =
      let early = (kept.seats seat mate found).early in
      let more = changes_more in
      omega (arith, early, more)

  pub others_counts_after : (seat : ℕ) (mate : Mech S W) → slice_get (run_of form setup older).mechs seat ≡ Some mate → CountsIn mate.phase ((ghost_of form setup older).seats seat)
  others_counts_after seat mate found = (kept.seats seat mate found).counts
