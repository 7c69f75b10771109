-- What a step of a machine does to what is known of its seat, and to the lists that records have named.
use Rattle.std.specs.Prelude.{ℕ, not, if◌then◌else◌, Bool, true, false, Option, Some, None}
use Rattle.step_memory.specs.declared.steps.Seen.{Seen}
use Rattle.normal_traits.specs.declared.form.Found.{Found}
use Rattle.normal_traits.specs.declared.form.Found.TheVariants.{Contended}
use Rattle.normal_traits.specs.NormalForm.{NormalForm}
use Rattle.cas_executor.specs.FastRuns.{fast_execution}
use Rattle.fast_slow_engine.specs.declared.phases.Phase.{Phase}
use Rattle.fast_slow_engine.specs.declared.phases.Phase.TheVariants as phase
use Rattle.fast_slow_engine.specs.declared.phases.Generating.{Generating}
use Rattle.fast_slow_engine.specs.declared.phases.Generating.TheVariants.{Search}
use Rattle.fast_slow_engine.specs.declared.phases.Applying.TheVariants.{Execute}
use Rattle.fast_slow_engine.specs.declared.help.Helping.{Helping}
use Rattle.fast_slow_engine.specs.declared.help.Helping.TheVariants.{Known}
use Rattle.fast_slow_engine.specs.declared.help.Work.{Work}
use Rattle.fast_slow_engine.specs.declared.help.Work.TheVariants as work
use Rattle.fast_slow_engine.specs.Hands.{block_of}
use Rattle.fast_slow_engine.specs.Mechs.{Mech}
use Rattle.fast_slow_engine.specs.HelpTable.{work_fed, work_hand}
use Rattle.fast_slow_engine.specs.PhaseTable.{mech_fed}
use Rattle.offered_blocks.specs.Blocks.{Offer}
use Rattle.helper_knowledge.specs.Callers.{called}
use Rattle.helper_knowledge.specs.Carried.{Carried, list_named}
use Rattle.helper_knowledge.specs.HelperStep.{call_in}
use Rattle.helper_knowledge.specs.Meetings.{won_offers}
use Rattle.run_world.specs.Ghosts.{Held, SeatGhost, held_of, stopped_in}

-- ---- searches

-- a search gave up; a new one begins
abbrev pub gave_up : Found → Bool
gave_up Contended = true
gave_up _ = false

-- a helper's search goes on until another record word is loaded
abbrev pub works_on : {S W : Type 0} → Work S W → Bool
works_on (work.Generate op search at) = true
works_on _ = false

abbrev pub helps_on : {S W : Type 0} → Helping S W → Bool
helps_on (Known word does) = works_on does
helps_on _ = false

-- ---- lists that are held

-- a list is held while its offer is made and while it is wrapped up
abbrev pub held_in : {S W : Type 0} → Phase S W → Option (Held S) → Option (Held S)
held_in (phase.Apply run stores at) held = held
held_in (phase.Wrap wrap) held = held
held_in _ held = None

-- ---- lists that are carried

-- where the work becomes the filling of a block, this list is carried
abbrev pub named_if : {S W : Type 0} → Work S W → Offer S → Option (Offer S)
named_if (work.Fill stores made) offer = Some offer
named_if _ offer = None

-- ---- records

-- a record that goes on to Executing names the block of the list that is carried
abbrev pub offers_worked : {S W : Type 0} → Work S W → Seen → Option (Offer S) → (ℕ → Option (Offer S)) → ℕ → Option (Offer S)
offers_worked (work.Advance to) seen filled offers = if seen.won then won_offers to filled offers else offers
offers_worked _ seen filled offers = offers

abbrev pub offers_helped : {S W : Type 0} → Helping S W → Seen → Option (Offer S) → (ℕ → Option (Offer S)) → ℕ → Option (Offer S)
offers_helped (Known word does) seen filled offers = offers_worked does seen filled offers
offers_helped _ seen filled offers = offers

abbrev pub offers_after : {S W : Type 0} → Phase S W → Seen → Option (Offer S) → (ℕ → Option (Offer S)) → ℕ → Option (Offer S)
offers_after (phase.Help drives help) seen filled offers = offers_helped help.at seen filled offers
offers_after _ seen filled offers = offers

-- how many changes there were at the begin tick, where there are so many after this step
abbrev pub begun_after : {S W : Type 0} → Phase S W → ℕ → ℕ → ℕ
begun_after phase.Begin count before = count
begun_after _ count before = before

module _ {S W : Type 0} (form : NormalForm S W) where
  -- whether a search of the phase goes on with what it began to know
  abbrev pub searches_on : Phase S W → Seen → Bool
  searches_on (phase.Generate search Search) seen = not (gave_up (form.found_of search seen))
  searches_on (phase.Generate search _) seen = true
  searches_on (phase.Help drives help) seen = helps_on help.at
  searches_on _ seen = false

  -- the block of the list that a machine names for its own call: the one in hand, 0 where the operation needs none
  abbrev pub offered_block : Mech S W → ℕ
  offered_block mech = if form.needs_block mech.op then block_of mech.hand else 0

  -- the list that a machine names for its own call where this search is ready
  abbrev pub newly_held : ℕ → S → ℕ → Mech S W → Held S
  newly_held identity offering since mech = held_of (list_named form identity offering since (called mech) (offered_block mech)) 0

  -- the list of a seat after a step in this phase, if the new machine holds one
  abbrev pub list_after : ℕ → Phase S W → Seen → SeatGhost S → Mech S W → Option (Held S)
  list_after identity (phase.Generate search Search) seen own new = Some (newly_held identity (form.feed_of search seen) own.carried.since new)
  list_after identity (phase.Generate search _) seen own new = Some (newly_held identity search own.carried.since new)
  list_after identity (phase.Apply run stores Execute) seen own new = stopped_in (fast_execution run seen) own.held
  list_after identity _ seen own new = own.held

  -- the search that a step leaves
  abbrev pub search_fed : S → Generating → Seen → S
  search_fed search Search seen = form.feed_of search seen
  search_fed search _ seen = search

  -- the list that a helper carries after a step: a search that is ready names one for the block in hand, and it is
  -- carried while the block is filled, up to the exchange of the record
  abbrev pub filled_worked : ℕ → Work S W → ℕ → ℕ → Option ℕ → ℕ → Seen → Carried S → Option (Offer S)
  filled_worked identity (work.Generate op search at) head word hand cap seen own =
      named_if (work_fed form (work.Generate op search at) head word hand cap seen)
      (list_named form identity (search_fed search at seen) own.since (call_in head word op) (block_of (work_hand {W = W} (work.Generate op search at) hand cap seen)))
  filled_worked identity (work.Fill stores made) head word hand cap seen own = own.filled
  filled_worked identity _ head word hand cap seen own = None

  abbrev pub filled_helped : ℕ → Helping S W → ℕ → Option ℕ → ℕ → Seen → Carried S → Option (Offer S)
  filled_helped identity (Known word does) head hand cap seen own = filled_worked identity does head word hand cap seen own
  filled_helped identity _ head hand cap seen own = None

  abbrev pub filled_after : ℕ → Phase S W → Option ℕ → ℕ → Seen → Carried S → Option (Offer S)
  filled_after identity (phase.Help drives help) hand cap seen own = filled_helped identity help.at help.head hand cap seen own
  filled_after identity _ hand cap seen own = None

  -- what is known of a seat after the step of its machine, where there are so many changes then; a list that is named by
  -- the step has this identity
  abbrev pub seat_stepped : ℕ → ℕ → Mech S W → Seen → SeatGhost S → SeatGhost S
  seat_stepped identity count mech seen own =
      record {
        begun = begun_after mech.phase count own.begun;
        held = held_in (mech_fed form mech seen).phase (list_after identity mech.phase seen own (mech_fed form mech seen));
        carried = record {
          since = if searches_on mech.phase seen then own.carried.since else count;
          filled = filled_after identity mech.phase mech.hand mech.setup.cap seen own.carried;
        };
      }
