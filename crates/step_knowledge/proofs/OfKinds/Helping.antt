-- A step of a helper is one of the kinds: of its work, of its exchange of the head's record, or at the queue word.
use Rattle.std.proofs.Common.{◌≡◌, sym, subst, ℕ, ◌≤◌, inl, inr, Option, ◌⊎◌}
use Rattle.step_memory.specs.declared.steps.Seen.{Seen}
use Rattle.node_arena.specs.declared.places.TheConstants.{QUEUE}
use Rattle.normal_traits.specs.World.{World}
use Rattle.normal_traits.specs.NormalForm.{NormalForm}
use Rattle.normal_traits.specs.Laws.{Laws}
use Rattle.fast_slow_engine.specs.declared.help.Helping.{Helping}
use Rattle.fast_slow_engine.specs.declared.help.Helping.TheVariants.{Record, Known, Remove}
use Rattle.fast_slow_engine.specs.declared.help.Work.{Work}
use Rattle.fast_slow_engine.specs.declared.help.Work.TheVariants as work
use Rattle.fast_slow_engine.specs.HelpTable.{CanWork}
use Rattle.fast_slow_engine.specs.Mechs.{Mech}
use Rattle.offered_blocks.specs.Blocks.{Offer}
use Rattle.offered_blocks.specs.Holds.{HasOffers}
use Rattle.move_kinds.specs.Kinds.{Kind}
use Rattle.move_kinds.specs.Kinds.Kind.{quiet, queues}
use Rattle.helper_knowledge.specs.Callers.{Caller}
use Rattle.helper_knowledge.specs.Carried.{Carried}
use Rattle.helper_knowledge.specs.HelperStep.{HandIsSpare, RestsOn, Steps}
use Rattle.helper_knowledge.specs.Meetings.{won_world}
use Rattle.helper_knowledge.specs.WorkKnown.{KnowsWork}
use Rattle.helper_knowledge.proofs.LawsOfHelpers.{advances_are_right, work_is_kind}
use Rattle.step_knowledge.specs.Known.{KnowsHelp}
use Rattle.step_knowledge.specs.Moves.{Advances, HelpSteps, MeetsHead, MeetsWork, Puts, RestsHelp, WorkSteps}
use Rattle.step_knowledge.specs.Moves.Advances.{lost, won}

module _ {S W : Type 0} (form : NormalForm S W) (laws : Laws form) (world after : World) (offers offers' : ℕ → Option (Offer S)) (callers : ℕ → Caller) (holds : HasOffers form world offers) where
  -- nothing, or an exchange of the queue word
  pub queue_kind : (mech : Mech S W) → (after ≡ world) ⊎ Puts form world after offers offers' QUEUE → offers' ≡ offers → Kind form world after offers offers' mech.seat mech.hand
  queue_kind mech (inl same) kept = quiet same kept
  queue_kind mech (inr put) kept = queues put.0 put.1 kept

  module _ (mech : Mech S W) (head word : ℕ) (own own' : Carried S) (identity : ℕ) (seen : Seen) (spare : HandIsSpare world offers mech.hand) where
    abbrev IsKind : Type 0
    IsKind = Kind form world after offers offers' mech.seat mech.hand

    -- an exchange of the record that is lost does nothing, and one that is won is what it was made for
    advance_kind : (to : ℕ) → MeetsWork form world offers callers (work.Advance to) head word mech.hand own.filled → KnowsWork form world offers (callers head) head word mech.hand own (work.Advance to)
        → Advances form world after offers offers' head word to own.filled seen → IsKind
    advance_kind to meets knows (lost failed same kept) = quiet same kept
    advance_kind to meets knows (won succeeded stood same kept) =
        let m : MeetsHead form world offers callers head word mech.hand own.filled = meets stood in
        let known : KnowsWork form world offers _ head word mech.hand own (work.Advance to) = subst (λ (c : Caller). KnowsWork form world offers c head word mech.hand own (work.Advance to)) m.is knows in
        let wins = advances_are_right form laws world offers head word m.call m.begun mech.seat mech.hand own.filled to holds m.meets m.fresh known in
        subst (λ (w : World). Kind form world w offers offers' mech.seat mech.hand) (sym same)
        (subst (λ (o : ℕ → Option (Offer S)). Kind form world (won_world world head to) offers o mech.seat mech.hand) (sym kept) wins.kind)

    -- any other step of its work
    plain_kind : (does : Work S W) → RestsOn form world offers head (callers head) → CanWork form does → KnowsWork form world offers (callers head) head word mech.hand own does
        → (offers' ≡ offers) × Steps form world after offers head word mech.hand own own' identity mech.setup.cap seen does → IsKind
    plain_kind does rests can knows is =
        subst (λ (o : ℕ → Option (Offer S)). Kind form world after offers o mech.seat mech.hand) (sym is.0)
        (work_is_kind form laws world after offers (callers head) head word mech.seat mech.hand own own' identity mech.setup.cap seen does rests spare can is.1 knows)

    work_kind : (does : Work S W) → RestsOn form world offers head (callers head) × MeetsWork form world offers callers does head word mech.hand own.filled
        → CanWork form does × KnowsWork form world offers (callers head) head word mech.hand own does × (1 ≤ (callers head).number) → WorkSteps form world after offers offers' does head word mech own own' identity seen → IsKind
    work_kind work.Head rests knows is = plain_kind work.Head rests.0 knows.0 knows.1 is
    work_kind work.Op rests knows is = plain_kind work.Op rests.0 knows.0 knows.1 is
    work_kind (work.Value op) rests knows is = plain_kind (work.Value op) rests.0 knows.0 knows.1 is
    work_kind (work.Generate op s at) rests knows is = plain_kind (work.Generate op s at) rests.0 knows.0 knows.1 is
    work_kind (work.Fill stores made) rests knows is = plain_kind (work.Fill stores made) rests.0 knows.0 knows.1 is
    work_kind (work.Advance to) rests knows is = advance_kind to rests.1 knows.1 is
    work_kind (work.Read read) rests knows is = plain_kind (work.Read read) rests.0 knows.0 knows.1 is
    work_kind (work.Execute run) rests knows is = plain_kind (work.Execute run) rests.0 knows.0 knows.1 is
    work_kind (work.Wrap wrap) rests knows is = plain_kind (work.Wrap wrap) rests.0 knows.0 knows.1 is

  pub help_kind : (mech : Mech S W) (head : ℕ) (own own' : Carried S) (identity : ℕ) (seen : Seen) → HandIsSpare world offers mech.hand → (at : Helping S W)
      → RestsHelp form world offers callers at head mech.hand own.filled → KnowsHelp form world offers (callers head) head mech.hand own at → HelpSteps form world after offers offers' at head mech own own' identity seen
      → Kind form world after offers offers' mech.seat mech.hand
  help_kind mech head own own' identity seen spare (Record known) rests knows is = quiet is.0 is.1
  help_kind mech head own own' identity seen spare (Known word does) rests knows is = work_kind mech head word own own' identity seen spare does rests knows is
  help_kind mech head own own' identity seen spare (Remove removal) rests knows is = queue_kind mech is.0 is.1
