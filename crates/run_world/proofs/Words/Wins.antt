-- What a move adds to the won exchanges and to the used blocks.
use Rattle.std.proofs.Common.{◌≡◌, refl, subst, ℕ, ◌&&◌, if◌then◌else◌, Bool, true, false, List, ◌∷◌, slice_get, Option, Some, None}
use Rattle.arrayvec.specs.ArrayVec.{ArrayVec}
use Rattle.step_memory.specs.declared.steps.Request.{Request}
use Rattle.step_memory.specs.declared.steps.Request.TheVariants.{Load, Store, Exchange, Add}
use Rattle.step_memory.specs.declared.steps.Seen.{Seen}
use Rattle.step_memory.specs.Step.{words_after}
use Rattle.normal_traits.specs.declared.lists.Entry.{Entry}
use Rattle.normal_traits.specs.World.{Listed, Cause, Won, World}
use Rattle.normal_traits.specs.World.Maker.{By, Beside}
use Rattle.normal_traits.specs.NormalForm.{NormalForm}
use Rattle.normal_traits.specs.Steps.{exchanged, listed_if, using_block}
use Rattle.cas_executor.specs.FastRuns.{FastWalk}
use Rattle.cas_executor.specs.SlowRuns.{SlowWalk, installs}
use Rattle.fast_slow_engine.specs.declared.phases.Phase.{Phase}
use Rattle.fast_slow_engine.specs.declared.phases.Phase.TheVariants.{Generate, Apply, Wrap, Help}
use Rattle.fast_slow_engine.specs.declared.phases.Generating.TheVariants.{Search}
use Rattle.fast_slow_engine.specs.declared.phases.Applying.TheVariants.{Execute}
use Rattle.fast_slow_engine.specs.declared.help.Helping.{Helping}
use Rattle.fast_slow_engine.specs.declared.help.Helping.TheVariants.{Known}
use Rattle.fast_slow_engine.specs.declared.help.Work.{Work}
use Rattle.fast_slow_engine.specs.declared.help.Work.TheVariants as work
use Rattle.fast_slow_engine.specs.declared.setup.Setup.{Setup}
use Rattle.fast_slow_engine.specs.HelpWords.{named_block}
use Rattle.fast_slow_engine.specs.Mechs.{Mech}
use Rattle.fast_slow_engine.specs.PhaseTable.{lists, mech_request}
use Rattle.fast_slow_engine.specs.Runs.{Move, begun, run_of}
use Rattle.offered_blocks.specs.Blocks.{Offer}
use Rattle.offered_blocks.specs.RunWorlds.{ran_by, used_by}
use Rattle.run_world.specs.Ghosts.{Held, uses_block}
use Rattle.run_world.specs.Worlds.{asked_beside, asked_listed, asked_named, won_beside, won_entry, world_helped, world_stepped, world_worked}
use Rattle.run_world.specs.RunGhosts.{ghost_of, world_of}
use Rattle.run_world.proofs.Words.Moved.{made_moved, seen_by, with_list}

-- the used blocks once entry j of a list took effect
abbrev pub used_with : Listed → ℕ → (ℕ → Bool) → ℕ → Bool
used_with list j used = if uses_block list j then using_block list.block used else used

-- the won exchange of entry j of a list
abbrev pub won_by : Listed → ℕ → Entry → Cause → Won
won_by list j entry cause = record { place = entry.target; before = entry.from; after = entry.to; maker = By list j; cause = cause }

-- no entry of the walk took effect
abbrev pub MissedIn : {S : Type 0} → FastWalk → Seen → Option (Held S) → Type 0
MissedIn run seen None = Unit {0}
MissedIn run seen (Some held) = seen.won ≡ true → slice_get run.entries run.next ≡ None

abbrev pub Missed : {S W : Type 0} → Phase S W → Seen → Option (Held S) → Type 0
Missed (Apply run stores Execute) seen held = MissedIn run seen held
Missed _ seen held = Unit {0}

-- what a step adds: nothing, an exchange beside the lists, an entry of the list that its seat executes, or one of a list
-- that a record has named
pub data Wins {S W : Type 0} (phase : Phase S W) (held : Option (Held S)) (offers : ℕ → Option (Offer S)) (seen : Seen) (before after : World) : Type 0 where
  nothing : Missed phase seen held → after.journal ≡ before.journal → after.used ≡ before.used → Wins phase held offers seen before after
  beside : (won : Won) → lists phase ≡ false → won.maker ≡ Beside → after.journal ≡ won ∷ before.journal → after.used ≡ before.used → Wins phase held offers seen before after
  takes : (run : FastWalk) (stores : ArrayVec (ℕ × ℕ)) (own : Held S) (entry : Entry) (cause : Cause) → phase ≡ Apply run stores Execute → held ≡ Some own → slice_get run.entries run.next ≡ Some entry → seen.won ≡ true
      → after.journal ≡ won_by own.list run.next entry cause ∷ before.journal → after.used ≡ used_with own.list run.next before.used → Wins phase held offers seen before after
  installed : (drives : Bool) (head seats word : ℕ) (run : SlowWalk) (offer : Offer S) (entry : Entry) (cause : Cause) → phase ≡ Help drives (record { head = head; seats = seats; at = Known word (work.Execute run) })
      → offers (named_block word) ≡ Some offer → slice_get offer.list.entries run.next ≡ Some entry → (installs run.step && seen.won) ≡ true
      → after.journal ≡ won_by offer.list run.next entry cause ∷ before.journal → after.used ≡ used_by run.next offer.list.block before.used → Wins phase held offers seen before after

if_used : (b : Bool) (x y : World) → (if b then x else y).used ≡ (if b then x.used else y.used)
if_used true x y = refl
if_used false x y = refl

if_journal : (b : Bool) (x y : World) (journal : List Won) → x.journal ≡ journal → y.journal ≡ journal → (if b then x else y).journal ≡ journal
if_journal true x y journal h k = h
if_journal false x y journal h k = k

module _ {S W : Type 0} (form : NormalForm S W) where
  module _ (phase : Phase S W) (held : Option (Held S)) (offers : ℕ → Option (Offer S)) (seen : Seen) (world : World) where
    request_wins : (request : Request) → lists phase ≡ false → Missed phase seen held → Wins phase held offers seen world (won_beside form request world)
    request_wins (Exchange at from to) other missed = beside _ other refl refl refl
    request_wins (Load at) other missed = nothing missed refl refl
    request_wins (Store at value) other missed = nothing missed refl refl
    request_wins (Add at by) other missed = nothing missed refl refl

    wins_if : (b : Bool) (x : World) → Missed phase seen held → Wins phase held offers seen world x → Wins phase held offers seen world (if b then x else world)
    wins_if true x missed wins = wins
    wins_if false x missed wins = nothing missed refl refl

    beside_wins : (request : Request) → lists phase ≡ false → Missed phase seen held → Wins phase held offers seen world (asked_beside form request seen world)
    beside_wins request other missed = wins_if seen.won (won_beside form request world) missed (request_wins request other missed)

  -- ---- a list that its seat executes

  entry_wins : (entry : Option Entry) (run : FastWalk) (stores : ArrayVec (ℕ × ℕ)) (own : Held S) (offers : ℕ → Option (Offer S)) (seen : Seen) (world : World) → slice_get run.entries run.next ≡ entry → seen.won ≡ true
      → Wins {W = W} (Apply run stores Execute) (Some own) offers seen world (won_entry form own.list run.next entry world)
  entry_wins None run stores own offers seen world is won = nothing (λ w. is) refl refl
  entry_wins (Some entry) run stores own offers seen world is won =
      let list = own.list in
      let b = uses_block list run.next in
      let made = exchanged form (By list run.next) (listed_if (form.adds list run.next) list) entry entry.to world in
      let uses : World = record { words = made.words; changes = made.changes; used = using_block list.block made.used; journal = made.journal } in
      takes run stores own entry (form.cause_of world (By list run.next) entry) refl refl is won
      (if_journal b uses made made.journal refl refl) (if_used b uses made)

  listed_if_won : (b : Bool) (run : FastWalk) (stores : ArrayVec (ℕ × ℕ)) (own : Held S) (offers : ℕ → Option (Offer S)) (seen : Seen) (world : World) → seen.won ≡ b
      → Wins {W = W} (Apply run stores Execute) (Some own) offers seen world (if b then won_entry form own.list run.next (slice_get run.entries run.next) world else world)
  listed_if_won true run stores own offers seen world is = entry_wins (slice_get run.entries run.next) run stores own offers seen world refl is
  listed_if_won false run stores own offers seen world is = nothing (λ won. absurd (cc)) refl refl

  listed_wins : (run : FastWalk) (stores : ArrayVec (ℕ × ℕ)) (held : Option (Held S)) (offers : ℕ → Option (Offer S)) (seen : Seen) (world : World)
      → Wins {W = W} (Apply run stores Execute) held offers seen world (asked_listed form held run seen world)
  listed_wins run stores None offers seen world = nothing tt refl refl
  listed_wins run stores (Some own) offers seen world = listed_if_won seen.won run stores own offers seen world refl

  -- ---- a list that a record has named

  module _ (drives : Bool) (head seats word : ℕ) (held : Option (Held S)) (offers : ℕ → Option (Offer S)) (seen : Seen) (world : World) where
    abbrev working : Work S W → Phase S W
    working does = Help drives (record { head = head; seats = seats; at = Known word does })

    ran_wins : (run : SlowWalk) (offer : Offer S) (b : Bool) (entry : Option Entry) → offers (named_block word) ≡ Some offer → (installs run.step && seen.won) ≡ b → slice_get offer.list.entries run.next ≡ entry
        → Wins (working (work.Execute run)) held offers seen world (ran_by form world offer run.next world.words b entry)
    ran_wins run offer false entry stands won is = nothing tt refl refl
    ran_wins run offer true None stands won is = nothing tt refl refl
    ran_wins run offer true (Some entry) stands won is = installed drives head seats word run offer entry _ refl stands is won refl refl

    named_wins : (run : SlowWalk) (offer : Option (Offer S)) → offers (named_block word) ≡ offer → Wins (working (work.Execute run)) held offers seen world (asked_named form offer run seen world)
    named_wins run None stands = nothing tt refl refl
    named_wins run (Some offer) stands = ran_wins run offer (installs run.step && seen.won) (slice_get offer.list.entries run.next) stands refl refl

    worked_wins : (does : Work S W) → Wins (working does) held offers seen world (world_worked form does (offers (named_block word)) seen world)
    worked_wins (work.Generate op s Search) = beside_wins (working (work.Generate op s Search)) held offers seen world (form.request_of s) refl tt
    worked_wins (work.Execute run) = named_wins run (offers (named_block word)) refl
    worked_wins (work.Wrap wrap) = beside_wins (working (work.Wrap wrap)) held offers seen world (form.wrap_request_of wrap) refl tt
    worked_wins _ = nothing tt refl refl

  helped_wins : (drives : Bool) (head seats : ℕ) (at : Helping S W) (held : Option (Held S)) (offers : ℕ → Option (Offer S)) (seen : Seen) (world : World)
      → Wins (Help drives (record { head = head; seats = seats; at = at })) held offers seen world (world_helped form at offers seen world)
  helped_wins drives head seats (Known word does) held offers seen world = worked_wins drives head seats word held offers seen world does
  helped_wins drives head seats _ held offers seen world = nothing tt refl refl

  stepped_wins : (phase : Phase S W) (held : Option (Held S)) (offers : ℕ → Option (Offer S)) (seen : Seen) (world : World) → Wins phase held offers seen world (world_stepped form phase held offers seen world)
  stepped_wins (Generate s Search) held offers seen world = beside_wins (Generate s Search) held offers seen world (form.request_of s) refl tt
  stepped_wins (Apply run stores Execute) held offers seen world = listed_wins run stores held offers seen world
  stepped_wins (Wrap w) held offers seen world = beside_wins (Wrap w) held offers seen world (form.wrap_request_of w) refl tt
  stepped_wins (Help drives help) held offers seen world = helped_wins drives help.head help.seats help.at held offers seen world
  stepped_wins _ held offers seen world = nothing tt refl refl

  wins_words : (phase : Phase S W) (held : Option (Held S)) (offers : ℕ → Option (Offer S)) (seen : Seen) (before after : World) (words : List ℕ) → Wins phase held offers seen before after
      → Wins phase held offers seen before (with_list words after)
  wins_words phase held offers seen before after words wins =
      elim wins [
        | nothing missed journal used ↦ nothing missed journal used
        | beside won other maker journal used ↦ beside won other maker journal used
        | takes run stores own entry cause at holds next won journal used ↦ takes run stores own entry cause at holds next won journal used
        | installed drives head seats word run offer entry cause at stands next won journal used ↦ installed drives head seats word run offer entry cause at stands next won journal used
      ]

  -- what a move adds
  pub move_wins : (setup : Setup) (older : List Move) (move : Move) (mech : Mech S W) → slice_get (run_of form setup older).mechs move.seat ≡ Some mech
      → Wins (begun move.begins mech).phase ((ghost_of form setup older).seats move.seat).held (ghost_of form setup older).offers (seen_by form setup older move mech) (world_of form setup older) (world_of form setup (move ∷ older))
  move_wins setup older move mech at =
      let one = begun move.begins mech in
      let words = (run_of form setup older).words in
      let world = world_of form setup older in
      let ghost = ghost_of form setup older in
      let own = (ghost.seats move.seat).held in
      let seen = seen_by form setup older move mech in
      subst (λ (w : World). Wins one.phase own ghost.offers seen world w) (made_moved form setup older move mech at)
      (wins_words one.phase own ghost.offers seen world (world_stepped form one.phase own ghost.offers seen world) (words_after (mech_request form one) words) (stepped_wins one.phase own ghost.offers seen world))
