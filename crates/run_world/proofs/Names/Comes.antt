-- Where a list was before a move: it is new, or was kept, and a list that a record names was carried.
use Rattle.std.proofs.Common.{◌≡◌, ◌≢◌, ◌∙◌, refl, sym, ap, ℕ, ◌==◌, ◌&&◌, if◌then◌else◌, Bool, true, false, Option, Some, None, ◌⊎◌, inl, inr, arith, rules}
use Rattle.std.proofs.lemmas.Bool.Decides.{nat_tests}
use Rattle.step_memory.specs.declared.steps.Seen.{Seen}
use Rattle.word_fields.specs.Records.{record_phase}
use Rattle.normal_traits.specs.World.{Listed}
use Rattle.normal_traits.specs.NormalForm.{NormalForm}
use Rattle.cas_executor.specs.declared.fast_run.Execution.{Execution}
use Rattle.cas_executor.specs.declared.fast_run.Execution.TheVariants.{Running, Stopped}
use Rattle.cas_executor.specs.FastRuns.{fast_execution}
use Rattle.fast_slow_engine.specs.declared.phases.Phase.{Phase}
use Rattle.fast_slow_engine.specs.declared.phases.Phase.TheVariants.{Generate, Apply, Wrap, Help}
use Rattle.fast_slow_engine.specs.declared.phases.Generating.TheVariants.{Search, LookForBlock, Claim}
use Rattle.fast_slow_engine.specs.declared.phases.Applying.TheVariants.{Execute}
use Rattle.fast_slow_engine.specs.declared.help.Helping.{Helping}
use Rattle.fast_slow_engine.specs.declared.help.Helping.TheVariants.{Known}
use Rattle.fast_slow_engine.specs.declared.help.Work.{Work}
use Rattle.fast_slow_engine.specs.declared.help.Work.TheVariants as work
use Rattle.fast_slow_engine.specs.HelpTable.{work_fed}
use Rattle.fast_slow_engine.specs.HelpWords.{is_executing, named_block}
use Rattle.fast_slow_engine.specs.Mechs.{Mech}
use Rattle.offered_blocks.specs.Blocks.{Offer}
use Rattle.helper_knowledge.specs.Carried.{Carried}
use Rattle.helper_knowledge.specs.Meetings.{offers_if}
use Rattle.run_laws.proofs.Steps.{some_same}
use Rattle.run_world.specs.Ghosts.{Held, SeatGhost, stopped_in}
use Rattle.run_world.specs.SeatSteps.{filled_after, filled_helped, filled_worked, held_in, list_after, named_if, offers_after, offers_helped, offers_worked}
use Rattle.run_world.specs.Identities.{Keeper, holder, carrier, named, list_held, list_offered}

pub none_some : {A B : Type 0} (x : A) → None ≡ Some x → B
none_some x e = absurd (search rules)

-- the list is that of what is held or carried
pub held_listed : {S : Type 0} (held : Option (Held S)) (list : Listed) → list_held held ≡ Some list → (own : Held S) × (held ≡ Some own) × (own.list ≡ list)
held_listed None list is = none_some list is
held_listed (Some own) list is = (own, refl, some_same own.list list is)

pub offered_listed : {S : Type 0} (offer : Option (Offer S)) (list : Listed) → list_offered offer ≡ Some list → (own : Offer S) × (offer ≡ Some own) × (own.list ≡ list)
offered_listed None list is = none_some list is
offered_listed (Some own) list is = (own, refl, some_same own.list list is)

-- the block that a step names in a record, if it does
abbrev pub names_worked : {S W : Type 0} → Work S W → Seen → Option ℕ
names_worked (work.Advance to) seen = if seen.won && is_executing (record_phase to) then Some (named_block to) else None
names_worked _ seen = None

abbrev pub names_helped : {S W : Type 0} → Helping S W → Seen → Option ℕ
names_helped (Known word does) seen = names_worked does seen
names_helped _ seen = None

abbrev pub names_in : {S W : Type 0} → Phase S W → Seen → Option ℕ
names_in (Help drives help) seen = names_helped help.at seen
names_in _ seen = None

-- where a list that a step names comes to be: a helper names one that it carries, and any other one that it holds
abbrev pub newest : {S W : Type 0} → Phase S W → ℕ → Keeper
newest (Help drives help) seat = carrier seat
newest _ seat = holder seat

-- where a list comes to be that was kept: with the block that the step names where the mover carried it, and else where it was
abbrev pub Goes : Option ℕ → ℕ → Keeper → Keeper → Type 0
Goes names seat was keeper = ((keeper ≡ was) × ((names ≡ None) ⊎ (was ≢ carrier seat))) ⊎ ((block : ℕ) × (names ≡ Some block) × (was ≡ carrier seat) × (keeper ≡ named block))

-- so a list is in one place after the step
pub goes_once : (names : Option ℕ) (seat : ℕ) (was keeper other : Keeper) → Goes names seat was keeper → Goes names seat was other → keeper ≡ other
goes_once names seat was keeper other one two =
    elim one [
      | inl stays ↦ elim two [
        | inl too ↦ stays.0 ∙ sym too.0
        | inr moves ↦ elim stays.1 [ inl none ↦ none_some moves.0 (sym none ∙ moves.1) | inr apart ↦ absurd (apart moves.2) ]
      ]
      | inr moves ↦ elim two [
        | inl too ↦ elim too.1 [ inl none ↦ none_some moves.0 (sym none ∙ moves.1) | inr apart ↦ absurd (apart moves.2) ]
        | inr too ↦ moves.3 ∙ ap named (some_same moves.0 too.0 (sym moves.1 ∙ too.1)) ∙ sym too.3
      ]
    ]

-- ---- blocks that records have named

module _ {S : Type 0} where
  with_came : (b : Bool) (block at : ℕ) (offer own : Offer S) (before : Option (Offer S)) → (at == block) ≡ b → (if b then Some offer else before) ≡ Some own → (before ≡ Some own) ⊎ ((at ≡ block) × (Some offer ≡ Some own))
  with_came true block at offer own before test is = inr (grind (arith, nat_tests, test), is)
  with_came false block at offer own before test is = inl is

  offer_came : (won names : Bool) (block : ℕ) (filled : Option (Offer S)) (offers : ℕ → Option (Offer S)) (at : ℕ) (own : Offer S) → (if won then offers_if names block filled offers else offers) at ≡ Some own
      → (offers at ≡ Some own) ⊎ (((if won && names then Some block else None) ≡ Some at) × (filled ≡ Some own))
  offer_came false names block filled offers at own is = inl is
  offer_came true false block filled offers at own is = inl is
  offer_came true true block None offers at own is = inl is
  offer_came true true block (Some offer) offers at own is =
      elim (with_came (at == block) block at offer own (offers at) refl is) [
        | inl before ↦ inl before
        | inr new ↦ inr (ap Some (sym new.0), new.1)
      ]

module _ {S W : Type 0} where
  worked_came : (does : Work S W) (seen : Seen) (filled : Option (Offer S)) (offers : ℕ → Option (Offer S)) (at : ℕ) (own : Offer S) → offers_worked does seen filled offers at ≡ Some own
      → (offers at ≡ Some own) ⊎ ((names_worked does seen ≡ Some at) × (filled ≡ Some own))
  worked_came (work.Advance to) seen filled offers at own is = offer_came seen.won (is_executing (record_phase to)) (named_block to) filled offers at own is
  worked_came _ seen filled offers at own is = inl is

  helped_came : (helping : Helping S W) (seen : Seen) (filled : Option (Offer S)) (offers : ℕ → Option (Offer S)) (at : ℕ) (own : Offer S) → offers_helped helping seen filled offers at ≡ Some own
      → (offers at ≡ Some own) ⊎ ((names_helped helping seen ≡ Some at) × (filled ≡ Some own))
  helped_came (Known word does) seen filled offers at own is = worked_came does seen filled offers at own is
  helped_came _ seen filled offers at own is = inl is

  pub offers_came : (phase : Phase S W) (seen : Seen) (filled : Option (Offer S)) (offers : ℕ → Option (Offer S)) (at : ℕ) (own : Offer S) → offers_after phase seen filled offers at ≡ Some own
      → (offers at ≡ Some own) ⊎ ((names_in phase seen ≡ Some at) × (filled ≡ Some own))
  offers_came (Help drives help) seen filled offers at own is = helped_came help.at seen filled offers at own is
  offers_came _ seen filled offers at own is = inl is

  -- ---- lists that are held

  pub held_was : (phase : Phase S W) (list : Option (Held S)) (held : Held S) → held_in phase list ≡ Some held → list ≡ Some held
  held_was (Apply run stores at) list held is = is
  held_was (Wrap w) list held is = is
  held_was _ list held is = none_some held is

  -- ---- lists that are carried

  named_came : (does : Work S W) (offer own : Offer S) → named_if does offer ≡ Some own → offer ≡ own
  named_came (work.Fill stores made) offer own is = some_same offer own is
  named_came _ offer own is = none_some own is

-- the list is new, with this identity, or it is one that was held
abbrev pub HeldBefore : {S W : Type 0} → Phase S W → ℕ → ℕ → Option (Held S) → Held S → Type 0
HeldBefore phase seat identity before held = ((newest phase seat ≡ holder seat) × (held.list.identity ≡ identity)) ⊎ ((old : Held _) × (before ≡ Some old) × (old.list ≡ held.list))

stopped_came : {S W : Type 0} (phase : Phase S W) (execution : Execution) (seat identity : ℕ) (list : Option (Held S)) (held : Held S) → stopped_in execution list ≡ Some held → HeldBefore phase seat identity list held
stopped_came phase execution seat identity None held is = none_some held is
stopped_came phase Running seat identity (Some old) held is = inr (old, refl, ap (λ (h : Held _). h.list) (some_same old held is))
stopped_came phase (Stopped stop) seat identity (Some old) held is = inr (old, refl, ap (λ (h : Held _). h.list) (some_same _ held is))

module _ {S W : Type 0} (form : NormalForm S W) where
  pub list_came : (phase : Phase S W) (seat identity : ℕ) (seen : Seen) (own : SeatGhost S) (new : Mech S W) (held : Held S) → list_after form identity phase seen own new ≡ Some held → HeldBefore phase seat identity own.held held
  list_came (Generate s Search) seat identity seen own new held is = inl (refl, ap (λ (h : Held S). h.list.identity) (sym (some_same _ held is)))
  list_came (Generate s LookForBlock) seat identity seen own new held is = inl (refl, ap (λ (h : Held S). h.list.identity) (sym (some_same _ held is)))
  list_came (Generate s Claim) seat identity seen own new held is = inl (refl, ap (λ (h : Held S). h.list.identity) (sym (some_same _ held is)))
  list_came (Apply run stores Execute) seat identity seen own new held is = stopped_came {W = W} (Apply run stores Execute) (fast_execution run seen) seat identity own.held held is
  list_came _ seat identity seen own new held is = inr (held, is, refl)

  -- a carried list is new, or was carried and is not named
  abbrev pub CarriedBefore : ℕ → Option ℕ → Option (Offer S) → Offer S → Type 0
  CarriedBefore identity names before offer = (offer.list.identity ≡ identity) ⊎ ((before ≡ Some offer) × (names ≡ None))

  filled_work_came : (does : Work S W) (identity head word : ℕ) (hand : Option ℕ) (cap : ℕ) (seen : Seen) (own : Carried S) (offer : Offer S) → filled_worked form identity does head word hand cap seen own ≡ Some offer
      → CarriedBefore identity (names_worked does seen) own.filled offer
  filled_work_came (work.Generate op s at) identity head word hand cap seen own offer is =
      inl (ap (λ (o : Offer S). o.list.identity) (sym (named_came (work_fed form (work.Generate op s at) head word hand cap seen) _ offer is)))
  filled_work_came (work.Fill stores made) identity head word hand cap seen own offer is = inr (is, refl)
  filled_work_came _ identity head word hand cap seen own offer is = none_some offer is

  filled_help_came : (helping : Helping S W) (identity head : ℕ) (hand : Option ℕ) (cap : ℕ) (seen : Seen) (own : Carried S) (offer : Offer S) → filled_helped form identity helping head hand cap seen own ≡ Some offer
      → CarriedBefore identity (names_helped helping seen) own.filled offer
  filled_help_came (Known word does) identity head hand cap seen own offer is = filled_work_came does identity head word hand cap seen own offer is
  filled_help_came _ identity head hand cap seen own offer is = none_some offer is

  pub filled_came : (phase : Phase S W) (seat identity : ℕ) (hand : Option ℕ) (cap : ℕ) (seen : Seen) (own : Carried S) (offer : Offer S) → filled_after form identity phase hand cap seen own ≡ Some offer
      → (newest phase seat ≡ carrier seat) × CarriedBefore identity (names_in phase seen) own.filled offer
  filled_came (Help drives help) seat identity hand cap seen own offer is = (refl, filled_help_came help.at identity help.head hand cap seen own offer is)
  filled_came _ seat identity hand cap seen own offer is = none_some offer is
