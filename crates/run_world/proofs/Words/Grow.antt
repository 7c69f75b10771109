-- What is known of a run only grows, and what is known of the other seats stays.
use Rattle.std.proofs.Common.{◌≡◌, ◌≢◌, refl, ℕ, ◌==◌, ◌||◌, ◌&&◌, if◌then◌else◌, Bool, true, false, List, [], ◌∷◌, length, slice_get, Option, Some, None}
use Rattle.step_memory.specs.declared.steps.Request.{Request}
use Rattle.step_memory.specs.declared.steps.Request.TheVariants.{Load, Store, Exchange, Add}
use Rattle.step_memory.specs.declared.steps.Seen.{Seen}
use Rattle.step_memory.specs.Step.{seen_of}
use Rattle.normal_traits.specs.declared.lists.Entry.{Entry}
use Rattle.normal_traits.specs.World.{Listed, Maker, World}
use Rattle.normal_traits.specs.World.Maker.{By, Beside}
use Rattle.normal_traits.specs.NormalForm.{NormalForm}
use Rattle.normal_traits.specs.Steps.{change_of, exchanged, listed_if, using_block}
use Rattle.cas_executor.specs.FastRuns.{FastWalk}
use Rattle.cas_executor.specs.SlowRuns.{SlowWalk, installs}
use Rattle.fast_slow_engine.specs.declared.phases.Phase.{Phase}
use Rattle.fast_slow_engine.specs.declared.phases.Phase.TheVariants.{Generate, Apply, Wrap, Help}
use Rattle.fast_slow_engine.specs.declared.phases.Generating.TheVariants.{Search}
use Rattle.fast_slow_engine.specs.declared.phases.Applying.TheVariants.{Execute}
use Rattle.fast_slow_engine.specs.declared.help.Helping.{Helping}
use Rattle.fast_slow_engine.specs.declared.help.Helping.TheVariants.{Known}
use Rattle.fast_slow_engine.specs.declared.help.Work.{Work}
use Rattle.fast_slow_engine.specs.declared.help.Work.TheVariants as work
use Rattle.fast_slow_engine.specs.HelpWords.{named_block}
use Rattle.fast_slow_engine.specs.Mechs.{Mech}
use Rattle.fast_slow_engine.specs.PhaseTable.{mech_request}
use Rattle.fast_slow_engine.specs.Runs.{Move, RunState, begun, run_of}
use Rattle.move_kinds.specs.Moves.{Grows}
use Rattle.offered_blocks.specs.Blocks.{Offer}
use Rattle.offered_blocks.specs.RunWorlds.{ran_by}
use Rattle.run_world.specs.Ghosts.{Ghost, Held, uses_block, world_with}
use Rattle.run_world.specs.Worlds.{asked_beside, asked_listed, asked_named, with_block, won_beside, won_entry, world_helped, world_stepped, world_worked}
use Rattle.run_world.specs.RunGhosts.{ghost_moved, ghost_of}
use Rattle.run_world.specs.Moves.{WorldGrows, OthersStay}
use Rattle.run_world.proofs.Words.Moved.{other_seat}

-- nothing came
pub same_grows : (world : World) → Grows world world
same_grows world = record { changes = ([], refl); journal = ([], refl); used = λ block is. is }

grows_if : (b : Bool) (world x y : World) → Grows world x → Grows world y → Grows world (if b then x else y)
grows_if true world x y h k = h
grows_if false world x y h k = k

-- a used block stays used where another comes to be
used_still : (b c : Bool) → c ≡ true → (b || c) ≡ true
used_still true c is = refl
used_still false c is = is

with_block_grows : (list : Listed) (j : ℕ) (before after : World) → Grows before after → Grows before (with_block list j after)
with_block_grows list j before after grows =
    grows_if (uses_block list j) before _ after
    (record { changes = grows.changes; journal = grows.journal; used = λ block is. used_still (block == list.block) _ (grows.used block is) })
    grows

used_more : (b : Bool) (block : ℕ) (used : ℕ → Bool) (at : ℕ) → used at ≡ true → (if b then using_block block used else used) at ≡ true
used_more true block used at is = used_still (at == block) (used at) is
used_more false block used at is = is

module _ {S W : Type 0} (form : NormalForm S W) where
  exchanged_grows : (maker : Maker) (list : Option Listed) (entry : Entry) (word : ℕ) (world : World) → Grows world (exchanged form maker list entry word world)
  exchanged_grows maker None entry word world = record { changes = ([], refl); journal = (_ ∷ [], refl); used = λ block is. is }
  exchanged_grows maker (Some list) entry word world = record { changes = (change_of form.object list world.changes ∷ [], refl); journal = (_ ∷ [], refl); used = λ block is. is }

  won_grows : (request : Request) (world : World) → Grows world (won_beside form request world)
  won_grows (Exchange at from to) world = exchanged_grows Beside _ _ to world
  won_grows (Load at) world = same_grows world
  won_grows (Store at value) world = same_grows world
  won_grows (Add at by) world = same_grows world

  beside_grows : (request : Request) (seen : Seen) (world : World) → Grows world (asked_beside form request seen world)
  beside_grows request seen world = grows_if seen.won world (won_beside form request world) world (won_grows request world) (same_grows world)

  entry_grows : (list : Listed) (j : ℕ) (entry : Option Entry) (world : World) → Grows world (won_entry form list j entry world)
  entry_grows list j None world = same_grows world
  entry_grows list j (Some entry) world =
      with_block_grows list j world (exchanged form (By list j) (listed_if (form.adds list j) list) entry entry.to world)
      (exchanged_grows (By list j) (listed_if (form.adds list j) list) entry entry.to world)

  listed_grows : (held : Option (Held S)) (run : FastWalk) (seen : Seen) (world : World) → Grows world (asked_listed form held run seen world)
  listed_grows None run seen world = same_grows world
  listed_grows (Some held) run seen world =
      let entry = slice_get run.entries run.next in
      grows_if seen.won world (won_entry form held.list run.next entry world) world (entry_grows held.list run.next entry world) (same_grows world)

  -- a run on a named list adds to the world what its entry does
  ran_grows : (offer : Offer S) (j : ℕ) (words : ℕ → ℕ) (b : Bool) (entry : Option Entry) (world : World) → Grows world (ran_by form world offer j words b entry)
  ran_grows offer j words false entry world = record { changes = ([], refl); journal = ([], refl); used = λ block is. is }
  ran_grows offer j words true None world = record { changes = ([], refl); journal = ([], refl); used = λ block is. is }
  ran_grows offer j words true (Some entry) world =
      let grown = exchanged_grows (By offer.list j) (listed_if (form.adds offer.list j) offer.list) entry entry.to world in
      record { changes = grown.changes; journal = grown.journal; used = used_more (j == 0) offer.list.block world.used }

  named_grows : (offer : Option (Offer S)) (run : SlowWalk) (seen : Seen) (world : World) → Grows world (asked_named form offer run seen world)
  named_grows None run seen world = same_grows world
  named_grows (Some offer) run seen world = ran_grows offer run.next world.words (installs run.step && seen.won) (slice_get offer.list.entries run.next) world

  worked_grows : (does : Work S W) (offer : Option (Offer S)) (seen : Seen) (world : World) → Grows world (world_worked form does offer seen world)
  worked_grows (work.Generate op s Search) offer seen world = beside_grows (form.request_of s) seen world
  worked_grows (work.Execute run) offer seen world = named_grows offer run seen world
  worked_grows (work.Wrap wrap) offer seen world = beside_grows (form.wrap_request_of wrap) seen world
  worked_grows _ offer seen world = same_grows world

  helped_grows : (at : Helping S W) (offers : ℕ → Option (Offer S)) (seen : Seen) (world : World) → Grows world (world_helped form at offers seen world)
  helped_grows (Known word does) offers seen world = worked_grows does (offers (named_block word)) seen world
  helped_grows _ offers seen world = same_grows world

  pub stepped_grows : (phase : Phase S W) (held : Option (Held S)) (offers : ℕ → Option (Offer S)) (seen : Seen) (world : World) → Grows world (world_stepped form phase held offers seen world)
  stepped_grows (Generate s Search) held offers seen world = beside_grows (form.request_of s) seen world
  stepped_grows (Apply run stores Execute) held offers seen world = listed_grows held run seen world
  stepped_grows (Wrap w) held offers seen world = beside_grows (form.wrap_request_of w) seen world
  stepped_grows (Help drives help) held offers seen world = helped_grows help.at offers seen world
  stepped_grows _ held offers seen world = same_grows world

  moved_grows : (identity : ℕ) (mech : Option (Mech S W)) (move : Move) (state : RunState S W) (ghost : Ghost S) (words : List ℕ)
      → Grows (world_with state.words ghost) (world_with words (ghost_moved form identity mech move state ghost))
  moved_grows identity None move state ghost words = record { changes = ([], refl); journal = ([], refl); used = λ block is. is }
  moved_grows identity (Some mech) move state ghost words =
      let one = begun move.begins mech in
      let grows = stepped_grows one.phase (ghost.seats move.seat).held ghost.offers (seen_of (mech_request form one) state.words) (world_with state.words ghost) in
      record { changes = grows.changes; journal = grows.journal; used = grows.used }

  pub world_grows : WorldGrows form
  world_grows setup older move =
      let state = run_of form setup older in
      moved_grows (length older) (slice_get state.mechs move.seat) move state (ghost_of form setup older) (run_of form setup (move ∷ older)).words

  moved_others : (identity : ℕ) (mech : Option (Mech S W)) (move : Move) (state : RunState S W) (ghost : Ghost S) (seat : ℕ) → seat ≢ move.seat
      → (ghost_moved form identity mech move state ghost).seats seat ≡ ghost.seats seat
  moved_others identity None move state ghost seat apart = refl
  moved_others identity (Some mech) move state ghost seat apart = other_seat move.seat _ ghost.seats seat apart

  pub others_stay : OthersStay form
  others_stay setup older move seat apart =
      let state = run_of form setup older in
      moved_others (length older) (slice_get state.mechs move.seat) move state (ghost_of form setup older) seat apart
