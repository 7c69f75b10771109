-- Where each list was before a move, and so that identities differ.
use Rattle.std.proofs.Common.{◌≡◌, ◌∙◌, refl, sym, subst, ap, ℕ, List, [], ◌∷◌, length, slice_get, Option, Some, None, ◌⊎◌, inl, inr, arith, rules}
use Rattle.std.proofs.lemmas.Bool.{cases_eq}
use Rattle.normal_traits.specs.World.{Listed}
use Rattle.normal_traits.specs.NormalForm.{NormalForm}
use Rattle.fast_slow_engine.specs.declared.setup.Setup.{Setup}
use Rattle.fast_slow_engine.specs.Mechs.{Mech}
use Rattle.fast_slow_engine.specs.PhaseTable.{mech_fed}
use Rattle.fast_slow_engine.specs.Runs.{Move, begun, run_of}
use Rattle.offered_blocks.specs.Blocks.{Offer}
use Rattle.run_world.specs.Ghosts.{Ghost, SeatGhost}
use Rattle.run_world.specs.Identities.{Keeper, holder, carrier, named, kept_list, list_held, list_offered, IdentitiesBelow, IdentitiesDiffer}
use Rattle.run_world.specs.RunGhosts.{ghost_moved, ghost_of}
use Rattle.run_world.proofs.Words.Grow.{others_stay}
use Rattle.run_world.proofs.Words.Moved.{made_offers, made_seat, seat_after, seen_by}
use Rattle.run_world.proofs.Names.Comes.{Goes, filled_came, goes_once, held_listed, held_was, list_came, names_in, newest, none_some, offered_listed, offers_came}

-- different places
holder_carrier : {A : Type 0} (seat other : ℕ) → holder seat ≡ carrier other → A
holder_carrier seat other e = absurd (search rules)

named_carrier : {A : Type 0} (block other : ℕ) → named block ≡ carrier other → A
named_carrier block other e = absurd (search rules)

same_carrier : (seat other : ℕ) → carrier seat ≡ carrier other → seat ≡ other
same_carrier seat other e = cc

module _ {S W : Type 0} (form : NormalForm S W) where
  -- the block that a move names, and where a list comes to be that it names
  abbrev names_of : Setup → List Move → Move → Option (Mech S W) → Option ℕ
  names_of setup older move None = None
  names_of setup older move (Some mech) = names_in (begun move.begins mech).phase (seen_by form setup older move mech)

  abbrev newest_of : Move → Option (Mech S W) → Keeper
  newest_of move None = holder move.seat
  newest_of move (Some mech) = newest (begun move.begins mech).phase move.seat

  -- a list that is kept after a move is new there, or was kept before it
  abbrev pub KeptBefore : Setup → List Move → Move → Option (Mech S W) → Keeper → Listed → Type 0
  KeptBefore setup older move mech keeper list =
      ((keeper ≡ newest_of move mech) × (list.identity ≡ length older))
      ⊎ ((was : Keeper) × (kept_list (ghost_of form setup older) was ≡ Some list) × Goes (names_of setup older move mech) move.seat was keeper)

  module _ (setup : Setup) (older : List Move) (move : Move) (mech : Mech S W) (at : slice_get (run_of form setup older).mechs move.seat ≡ Some mech) where
    abbrev After : Ghost S
    After = ghost_of form setup (move ∷ older)

    abbrev Earlier : Ghost S
    Earlier = ghost_of form setup older

    own_held_came : (list : Listed) → list_held (After.seats move.seat).held ≡ Some list → KeptBefore setup older move (Some mech) (holder move.seat) list
    own_held_came list is =
        let one = begun move.begins mech in
        let seen = seen_by form setup older move mech in
        let held = held_listed (After.seats move.seat).held list is in
        let here : (seat_after form setup older move mech).held ≡ Some held.0 = ap (λ (o : SeatGhost S). o.held) (sym (made_seat form setup older move mech at)) ∙ held.1 in
        elim (list_came form one.phase move.seat (length older) seen (Earlier.seats move.seat) (mech_fed form one seen) held.0 (held_was (mech_fed form one seen).phase _ held.0 here)) [
          | inl new ↦ inl (sym new.0, ap (λ (l : Listed). l.identity) (sym held.2) ∙ new.1)
          | inr old ↦ inr (holder move.seat, ap list_held old.1 ∙ ap Some (old.2 ∙ held.2), inl (refl, inr (λ e. holder_carrier move.seat move.seat e)))
        ]

    own_carried_came : (list : Listed) → list_offered (After.seats move.seat).carried.filled ≡ Some list → KeptBefore setup older move (Some mech) (carrier move.seat) list
    own_carried_came list is =
        let one = begun move.begins mech in
        let seen = seen_by form setup older move mech in
        let offer = offered_listed (After.seats move.seat).carried.filled list is in
        let here : (seat_after form setup older move mech).carried.filled ≡ Some offer.0 = ap (λ (o : SeatGhost S). o.carried.filled) (sym (made_seat form setup older move mech at)) ∙ offer.1 in
        let came = filled_came form one.phase move.seat (length older) one.hand one.setup.cap seen (Earlier.seats move.seat).carried offer.0 here in
        elim came.1 [
          | inl new ↦ inl (sym came.0, ap (λ (l : Listed). l.identity) (sym offer.2) ∙ new)
          | inr old ↦ inr (carrier move.seat, ap list_offered old.0 ∙ ap Some offer.2, inl (refl, inl old.1))
        ]

    named_list_came : (block : ℕ) (list : Listed) → list_offered (After.offers block) ≡ Some list → KeptBefore setup older move (Some mech) (named block) list
    named_list_came block list is =
        let one = begun move.begins mech in
        let offer = offered_listed (After.offers block) list is in
        elim (offers_came one.phase (seen_by form setup older move mech) (Earlier.seats move.seat).carried.filled Earlier.offers block offer.0 (ap (λ (o : ℕ → Option (Offer S)). o block) (sym (made_offers form setup older move mech at)) ∙ offer.1)) [
          | inl before ↦ inr (named block, ap list_offered before ∙ ap Some offer.2, inl (refl, inr (λ e. named_carrier block move.seat e)))
          | inr new ↦ inr (carrier move.seat, ap list_offered new.1 ∙ ap Some offer.2, inr (block, new.0, refl, refl))
        ]

    moved_came : (keeper : Keeper) (list : Listed) → kept_list After keeper ≡ Some list → KeptBefore setup older move (Some mech) keeper list
    moved_came (holder seat) list is =
        elim (cases_eq seat move.seat) [
          | inl same ↦ subst (λ k. KeptBefore setup older move (Some mech) (holder k) list) (sym same) (own_held_came list (subst (λ k. list_held (After.seats k).held ≡ Some list) same is))
          | inr apart ↦ inr (holder seat, ap (λ (o : SeatGhost S). list_held o.held) (sym (others_stay form setup older move seat apart)) ∙ is, inl (refl, inr (λ e. holder_carrier seat move.seat e)))
        ]
    moved_came (carrier seat) list is =
        elim (cases_eq seat move.seat) [
          | inl same ↦ subst (λ k. KeptBefore setup older move (Some mech) (carrier k) list) (sym same) (own_carried_came list (subst (λ k. list_offered (After.seats k).carried.filled ≡ Some list) same is))
          | inr apart ↦ inr (carrier seat, ap (λ (o : SeatGhost S). list_offered o.carried.filled) (sym (others_stay form setup older move seat apart)) ∙ is, inl (refl, inr (λ e. apart (same_carrier seat move.seat e))))
        ]
    moved_came (named block) list is = named_list_came block list is

  kept_by : (setup : Setup) (older : List Move) (move : Move) (mech : Option (Mech S W)) → slice_get (run_of form setup older).mechs move.seat ≡ mech → (keeper : Keeper) (list : Listed)
      → kept_list (ghost_of form setup (move ∷ older)) keeper ≡ Some list → KeptBefore setup older move mech keeper list
  kept_by setup older move None at keeper list is =
      inr (keeper, subst (λ o. kept_list (ghost_moved form (length older) o move (run_of form setup older) (ghost_of form setup older)) keeper ≡ Some list) at is, inl (refl, inl refl))
  kept_by setup older move (Some mech) at keeper list is = moved_came setup older move mech at keeper list is

  -- so it is with any move
  pub kept_came : (setup : Setup) (older : List Move) (move : Move) (keeper : Keeper) (list : Listed) → kept_list (ghost_of form setup (move ∷ older)) keeper ≡ Some list
      → KeptBefore setup older move (slice_get (run_of form setup older).mechs move.seat) keeper list
  kept_came setup older move keeper list is = kept_by setup older move (slice_get (run_of form setup older).mechs move.seat) refl keeper list is

  -- ---- the laws

  none_kept : {A : Type 0} (keeper : Keeper) (list : Listed) (setup : Setup) → kept_list (ghost_of form setup []) keeper ≡ Some list → A
  none_kept (holder seat) list setup is = none_some list is
  none_kept (carrier seat) list setup is = none_some list is
  none_kept (named block) list setup is = none_some list is

  pub identities_below : IdentitiesBelow form
  identities_below setup [] keeper list is = none_kept keeper list setup is
  identities_below setup (move ∷ older) keeper list is =
      elim (kept_came setup older move keeper list is) [
        | inl new ↦ omega (arith, new.1)
        | inr old ↦ omega (arith, identities_below setup older old.0 list old.1)
      ]

  pub identities_differ : IdentitiesDiffer form
  identities_differ setup [] keeper other list mate is was same = none_kept keeper list setup is
  identities_differ setup (move ∷ older) keeper other list mate is was same =
      elim (kept_came setup older move keeper list is) [
        | inl new ↦
            elim (kept_came setup older move other mate was) [
              | inl newer ↦ new.0 ∙ sym newer.0
              | inr one ↦ absurd (omega (arith, new.1, same, identities_below setup older one.0 mate one.1))
            ]
        | inr old ↦
            elim (kept_came setup older move other mate was) [
              | inl newer ↦ absurd (omega (arith, newer.1, same, identities_below setup older old.0 list old.1))
              | inr one ↦
                  let before : old.0 ≡ one.0 = identities_differ setup older old.0 one.0 list mate old.1 one.1 same in
                  let names = names_of setup older move (slice_get (run_of form setup older).mechs move.seat) in
                  goes_once names move.seat one.0 keeper other (subst (λ k. Goes names move.seat k keeper) before old.2) one.2
            ]
      ]
