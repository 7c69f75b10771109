-- The lists that seats hold, each that of its machine, and the lists that helpers carry, each that of the head's call.
use Rattle.std.specs.Prelude.{◌≡◌, ℕ, false, ◌⊎◌, List, Option, Some, None}
use Rattle.arrayvec.specs.ArrayVec.{ArrayVec}
use Rattle.word_fields.specs.Records.{record_number, record_phase}
use Rattle.normal_traits.specs.NormalForm.{NormalForm}
use Rattle.cas_executor.specs.FastRuns.{FastWalk}
use Rattle.fast_slow_engine.specs.declared.phases.Phase.{Phase}
use Rattle.fast_slow_engine.specs.declared.phases.Phase.TheVariants as phase
use Rattle.fast_slow_engine.specs.declared.help.Helping.{Helping}
use Rattle.fast_slow_engine.specs.declared.help.Helping.TheVariants.{Known}
use Rattle.fast_slow_engine.specs.declared.help.Work.{Work}
use Rattle.fast_slow_engine.specs.declared.help.Work.TheVariants as work
use Rattle.fast_slow_engine.specs.declared.setup.Setup.{Setup}
use Rattle.fast_slow_engine.specs.HelpWords.{executing_word, is_executing}
use Rattle.fast_slow_engine.specs.Mechs.{Mech}
use Rattle.fast_slow_engine.specs.OfferStores.{offer_stores}
use Rattle.fast_slow_engine.specs.PhaseTable.{stores_for}
use Rattle.fast_slow_engine.specs.Runs.{Move, AreMoves, run_of}
use Rattle.offered_blocks.specs.Blocks.{Offer}
use Rattle.helper_knowledge.specs.Callers.{called}
use Rattle.helper_knowledge.specs.Carried.{OfSome}
use Rattle.run_laws.specs.Seats.{EachMech}
use Rattle.run_world.specs.Ghosts.{Held}
use Rattle.run_world.specs.SeatSteps.{offered_block}
use Rattle.run_world.specs.RunGhosts.{ghost_of}

module _ {S W : Type 0} (form : NormalForm S W) where
  -- a held list is of the machine's call, and has the entries that its search offers with its block
  pub record IsHeld (mech : Mech S W) (held : Held S) : Type 0 where
    pub call : held.list.call ≡ called mech
    pub entries : held.list.entries ≡ (form.offer_of held.offering held.list.call.op held.list.block).entries

  -- while its offer is made, it has the block in hand, 0 where the operation needs none, the entries that
  -- the machine executes, and the stores that it makes, none where the operation needs no block
  pub record IsOffering (run : FastWalk) (stores : ArrayVec (ℕ × ℕ)) (mech : Mech S W) (held : Held S) : Type 0 where
    pub held_by : IsHeld mech held
    pub block : held.list.block ≡ offered_block form mech
    pub entries : held.list.entries ≡ run.entries
    pub made : stores.items ≡ stores_for (form.needs_block mech.op) (form.offer_of held.offering held.list.call.op held.list.block).stores mech

  -- a machine holds its list while it offers it and wraps it up, and else none
  abbrev pub HoldsIn : Phase S W → Mech S W → Option (Held S) → Type 0
  HoldsIn (phase.Apply run stores at) mech held = OfSome (IsOffering run stores mech) held
  HoldsIn (phase.Wrap wrap) mech held = OfSome (IsHeld mech) held
  HoldsIn _ mech held = held ≡ None

  -- so it is in every run; the premises of an entry's win and of a wrap-up come from it
  abbrev pub ListsHeld : Type 0
  ListsHeld =
      (setup : Setup) (moves : List Move) → AreMoves form setup moves
      → EachMech (λ seat mech. HoldsIn mech.phase mech ((ghost_of form setup moves).seats seat).held) (run_of form setup moves).mechs

  -- a carried list is of the call in the record word that was loaded, for the block in hand, and has the entries that its
  -- search offers with it
  pub record IsCarried (head word : ℕ) (hand : Option ℕ) (offer : Offer S) : Type 0 where
    pub seat_is : offer.list.call.seat ≡ head
    pub number_is : offer.list.call.number ≡ record_number word
    pub hand_is : hand ≡ Some offer.list.block
    pub entries : offer.list.entries ≡ (form.offer_of offer.offering offer.list.call.op offer.list.block).entries

  -- while the block is filled, the stores are those of its list
  pub record IsFilling (head word : ℕ) (hand : Option ℕ) (stores : ArrayVec (ℕ × ℕ)) (offer : Offer S) : Type 0 where
    pub carried : IsCarried head word hand offer
    pub made : stores.items ≡ offer_stores offer.list.block head (record_number word) offer.list.call.op offer.list.entries (form.offer_of offer.offering offer.list.call.op offer.list.block).stores

  -- and then the record is exchanged to the word that names the block
  pub record IsNaming (head word : ℕ) (hand : Option ℕ) (to : ℕ) (offer : Offer S) : Type 0 where
    pub carried : IsCarried head word hand offer
    pub names : to ≡ executing_word word offer.list.block

  -- of an exchange of the record: to a word that names no block, with no list, or to the one that names the carried list's
  abbrev pub Advancing : ℕ → ℕ → Option ℕ → ℕ → Option (Offer S) → Type 0
  Advancing head word hand to filled = ((is_executing (record_phase to) ≡ false) × (filled ≡ None)) ⊎ OfSome (IsNaming head word hand to) filled

  -- a helper carries a list while it fills a block and exchanges the record to name it, and else none
  abbrev pub CarriesWork : Work S W → ℕ → ℕ → Option ℕ → Option (Offer S) → Type 0
  CarriesWork (work.Fill stores made) head word hand filled = OfSome (IsFilling head word hand stores) filled
  CarriesWork (work.Advance to) head word hand filled = Advancing head word hand to filled
  CarriesWork _ head word hand filled = filled ≡ None

  abbrev pub CarriesHelp : Helping S W → ℕ → Option ℕ → Option (Offer S) → Type 0
  CarriesHelp (Known word does) head hand filled = CarriesWork does head word hand filled
  CarriesHelp _ head hand filled = filled ≡ None

  abbrev pub CarriesIn : Phase S W → Option ℕ → Option (Offer S) → Type 0
  CarriesIn (phase.Help drives help) hand filled = CarriesHelp help.at help.head hand filled
  CarriesIn _ hand filled = filled ≡ None

  -- so it is in every run
  abbrev pub CarriedHeld : Type 0
  CarriedHeld =
      (setup : Setup) (moves : List Move) → AreMoves form setup moves
      → EachMech (λ seat mech. CarriesIn mech.phase mech.hand ((ghost_of form setup moves).seats seat).carried.filled) (run_of form setup moves).mechs
