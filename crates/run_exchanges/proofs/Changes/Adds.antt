-- What a move adds to the won exchanges and to the changes: each is for a list that the move may serve.
use Rattle.std.proofs.Common.{◌≡◌, ◌≢◌, ◌∙◌, refl, sym, subst, ap, ℕ, suc, ◌<◌, ◌⊎◌, inl, inr, Bool, true, List, [], ◌∷◌, length, slice_get, Option, Some, None, All, AllPairs, arith}
use Rattle.std.proofs.lemmas.Bool.{cases_eq, cases_lt}
use Rattle.std.proofs.lemmas.List.Elements.{All-head, All-tail}
use Rattle.std.proofs.lemmas.Option.{slice_get_within}
use Rattle.word_fields.specs.Versioned.{versioned_version}
use Rattle.normal_traits.specs.declared.lists.Entry.{Entry}
use Rattle.normal_traits.specs.World.{Among, Cause, Change, Listed, Took}
use Rattle.normal_traits.specs.World.Maker.{By, Beside}
use Rattle.normal_traits.specs.NormalForm.{NormalForm}
use Rattle.normal_traits.specs.Steps.{change_of, listed_if, with_change}
use Rattle.cas_executor_laws.specs.Parts.{KnowsStop}
use Rattle.cas_executor_laws.proofs.OfferedPartsKept.{entry_at}
use Rattle.fast_slow_engine.specs.declared.setup.Setup.{Setup}
use Rattle.fast_slow_engine.specs.Runs.{Move}
use Rattle.offered_blocks.specs.Blocks.{Offer, IsExecuting, IsOffer, has_taken, site_of}
use Rattle.offered_blocks.proofs.Blocks.Items.{both}
use Rattle.offered_blocks.proofs.Helpers.Allowed.{taken_any}
use Rattle.move_kinds.specs.Owned.{IsOwned}
use Rattle.move_kinds.specs.Owned.IsOwned.{unannounced as is_unannounced, named as is_named, dead as is_dead, changed as has_changed}
use Rattle.run_invariant.specs.Identities.{Keeper, holder, named, kept_list}
use Rattle.run_invariant.specs.RunGhosts.{ghost_of, world_of}
use Rattle.run_invariant.specs.Kept.{held_in_seats}
use Rattle.run_invariant.specs.Tells.{IsFollowed}
use Rattle.run_invariant.specs.Tells.IsFollowed.{with_seat, dead, changed}
use Rattle.run_invariant.proofs.Names.Comes.{held_listed, offered_listed}
use Rattle.run_invariant.proofs.Names.Journal.{won_came}
use Rattle.run_invariant.proofs.InRuns.MovesInRuns.{Moved, after, offers, step, world}
use Rattle.run_exchanges.proofs.Changes.Items.{Does, nothing, beside, listed, item_of, step_does}
use Rattle.run_exchanges.proofs.Moves.Served.{IsServed, executing_named, held_served, named_served}

-- ---- changes of lists with different identities

abbrev pub DifferentLists : Change → Change → Type 0
DifferentLists a b = a.list.identity ≢ b.list.identity

pub all_of : {X : Type 0} (P : X → Type 0) (xs : List X) (x : X) → All P xs → Among x xs → P x
all_of P [] x each among = absurd among
all_of P (y ∷ xs) x each (inl same) = subst P (sym same) (All-head P y xs each)
all_of P (y ∷ xs) x each (inr among) = all_of P xs x (All-tail P y xs each) among

-- the first differs from each other
pub first_differs : (x : Change) (xs : List Change) (change : Change) → AllPairs DifferentLists (x ∷ xs) → Among change xs → DifferentLists x change
first_differs x xs change pairs among = all_of (DifferentLists x) xs change (λ k d inside. pairs 0 (suc k) d (omega arith) (omega arith)) among

module _ {S W : Type 0} (form : NormalForm S W) where
  -- the change of a list that a move makes beside the lists
  pub record AddsBeside (setup : Setup) (older : List Move) (list : Option Listed) : Type 0 where
    pub served : (one : Listed) → list ≡ Some one → IsServed form setup older one

  -- a move wins no exchange, wins one beside the lists, which may make the change of a list, or wins one of an entry of a
  -- list, which is kept somewhere
  pub data Adds (setup : Setup) (older : List Move) (move : Move) : Type 0 where
    none : (world_of form setup (move ∷ older)).journal ≡ (world_of form setup older).journal → (world_of form setup (move ∷ older)).changes ≡ (world_of form setup older).changes → Adds setup older move
    aside : (entry : Entry) (cause : Cause) (list : Option Listed) → (world_of form setup (move ∷ older)).journal ≡ item_of Beside entry cause ∷ (world_of form setup older).journal
        → (world_of form setup (move ∷ older)).changes ≡ with_change form.object list (world_of form setup older).changes → AddsBeside setup older list → Adds setup older move
    serves : (list : Listed) (j : ℕ) (entry : Entry) (cause : Cause) (keeper : Keeper) → slice_get list.entries j ≡ Some entry → (j ≡ 0) ⊎ Took (world_of form setup older) list 0
        → (world_of form setup (move ∷ older)).journal ≡ item_of (By list j) entry cause ∷ (world_of form setup older).journal
        → (world_of form setup (move ∷ older)).changes ≡ with_change form.object (listed_if (form.adds list j) list) (world_of form setup older).changes
        → kept_list (ghost_of form setup older) keeper ≡ Some list → IsServed form setup older list → Adds setup older move

  module _ {setup : Setup} {older : List Move} {move : Move} (m : Moved form setup older move) where
    -- ---- a list that a record has named

    module _ (block : ℕ) (offer : Offer S) (stands : offers form m block ≡ Some offer) (j : ℕ) (entry : Entry) (at : slice_get offer.list.entries j ≡ Some entry)
        (behind : (j ≡ 0) ⊎ Took (world form m) offer.list 0) (stood : (world form m).words entry.target ≡ entry.from) where
      mine : IsOffer form (world form m) block offer
      mine = m.kept.holds.blocks.offered block offer stands

      took : ℕ → Bool
      took = has_taken (world form m).journal offer.list

      inside : j < length offer.list.entries
      inside = slice_get_within offer.list.entries j entry at

      same_entry : (a b : Entry) → Some a ≡ Some b → a ≡ b
      same_entry a b e = cc

      not_past : versioned_version entry.from < versioned_version ((world form m).words entry.target) → ⊥
      not_past past = (let v = ap versioned_version stood in omega (arith, past, v))

      -- an entry whose target stands at `from` is none of a list that has stopped
      not_stopped : (stop : ℕ) → KnowsStop (site_of offer) (world form m).words (has_taken (world form m).journal offer.list) stop → ⊥
      not_stopped stop stopped =
          elim (cases_lt j stop) [
            | inl before ↦ not_past (stopped.done j entry at before).past
            | inr rest ↦
                let failed = stopped.failed (omega (arith, rest, inside)) in
                elim (cases_eq stop j) [
                  | inl here ↦
                      let own = entry_at offer.list.entries stop (omega (arith, here, inside)) in
                      let one : own.0 ≡ entry = same_entry own.0 entry (sym own.1 ∙ ap (λ k. slice_get offer.list.entries k) here ∙ at) in
                      let past = (mine.parts.lives stop own.0 own.1).failed_past failed in
                      not_past (subst (λ (e : Entry). versioned_version e.from < versioned_version ((world form m).words e.target)) one past)
                  | inr apart ↦ elim behind [
                    | inl first ↦ omega (arith, first, rest, apart)
                    | inr began ↦
                        let short = mine.site.short in
                        let least : stop ≡ 0 = omega (arith, rest, apart, inside, short) in
                        let own = entry_at offer.list.entries stop (omega (arith, rest, inside)) in
                        let lost = (mine.parts.lives stop own.0 own.1).failed failed in
                        let won : has_taken (world form m).journal offer.list stop ≡ true = subst (λ k. has_taken (world form m).journal offer.list k ≡ true) (sym least) (taken_any (world form m).journal offer.list offer.list 0 _ began.won refl refl) in
                        both _ won lost
                  ]
                ]
          ]

      pub now_executing : IsExecuting (world form m) offer.list
      now_executing = elim mine.settled [ inl is ↦ is | inr stopped ↦ absurd (not_stopped stopped.0 stopped.1) ]

    -- ---- an entry of a list

    -- it was not won before
    not_old : (list : Listed) (j : ℕ) (entry : Entry) (cause : Cause) → (world form m).words entry.target ≡ entry.from → ¬ Among (item_of (By list j) entry cause) (world form m).journal
    not_old list j entry cause stood among =
        let past = m.kept.holds.blocks.journal.past _ among in
        let v = ap versioned_version stood in
        omega (arith, past, v)

    served_by : (list : Listed) (j : ℕ) (entry : Entry) → slice_get list.entries j ≡ Some entry → (j ≡ 0) ⊎ Took (world form m) list 0 → (world form m).words entry.target ≡ entry.from
        → (keeper : Keeper) → kept_list (ghost_of form setup older) keeper ≡ Some list → (keeper ≡ holder move.seat) ⊎ ((block : ℕ) × (keeper ≡ named block)) → IsServed form setup older list
    served_by list j entry at behind stood keeper is (inl held) =
        let own = held_listed ((ghost_of form setup older).seats move.seat).held list (subst (λ k. kept_list (ghost_of form setup older) k ≡ Some list) held is) in
        subst (IsServed form setup older) own.2 (held_served form setup older m.are.0 m.kept move.seat own.0 own.1)
    served_by list j entry at behind stood keeper is (inr of) =
        let own = offered_listed ((ghost_of form setup older).offers of.0) list (subst (λ k. kept_list (ghost_of form setup older) k ≡ Some list) of.1 is) in
        let executing = now_executing of.0 own.0 own.1 j entry (subst (λ (l : Listed). slice_get l.entries j ≡ Some entry) (sym own.2) at)
        (subst (λ (l : Listed). (j ≡ 0) ⊎ Took (world form m) l 0) (sym own.2) behind) stood in
        subst (IsServed form setup older) own.2 (named_served form setup older m.are.0 m.kept own.0.list (executing_named form setup older m.are.0 m.kept of.0 own.0 own.1 executing))

    listed_adds : (list : Listed) (j : ℕ) (entry : Entry) (cause : Cause) → slice_get list.entries j ≡ Some entry → (j ≡ 0) ⊎ Took (world form m) list 0 → (world form m).words entry.target ≡ entry.from
        → (after form m).journal ≡ item_of (By list j) entry cause ∷ (world form m).journal
        → (after form m).changes ≡ with_change form.object (listed_if (form.adds list j) list) (world form m).changes → Adds setup older move
    listed_adds list j entry cause at behind stood journal changes =
        let item = item_of (By list j) entry cause in
        elim (won_came form setup older move item list j (subst (Among item) (sym journal) (inl refl)) refl) [
          | inl old ↦ absurd (not_old list j entry cause stood old)
          | inr from ↦ serves list j entry cause from.0 at behind journal changes from.1 (served_by list j entry at behind stood from.0 from.1 from.2)
        ]

    -- ---- a change beside the lists

    pairs : AllPairs DifferentLists (after form m).changes
    pairs = m.laws.of_world.one_change_a_list (after form m) m.later.holds.shape

    new_change : Listed → Change
    new_change list = change_of form.object list (world form m).changes

    not_dead : (list : Listed) → (after form m).changes ≡ change_of form.object list (world form m).changes ∷ (world form m).changes → ¬ form.dead list (world form m)
    not_dead list changes gone =
        let new = change_of form.object list (world form m).changes in
        m.laws.of_world.dead_unchanged (after form m) list new m.later.holds.shape (m.laws.dead_kept (world form m) (after form m) list m.kept.holds.shape gone (step form m)) (subst (Among new) (sym changes) (inl refl)) refl

    not_changed : (list : Listed) → (after form m).changes ≡ change_of form.object list (world form m).changes ∷ (world form m).changes → (change : Change) → Among change (world form m).changes → change.list ≢ list
    not_changed list changes change among of =
        first_differs (change_of form.object list (world form m).changes) (world form m).changes change (subst (AllPairs DifferentLists) changes pairs) among (ap (λ (l : Listed). l.identity) (sym of))

    unannounced_served : (list : Listed) → (after form m).changes ≡ change_of form.object list (world form m).changes ∷ (world form m).changes
        → IsFollowed form (world form m) (held_in_seats (ghost_of form setup older)) list → IsServed form setup older list
    unannounced_served list changes (with_seat held has is) = subst (IsServed form setup older) is (held_served form setup older m.are.0 m.kept list.call.seat held has)
    unannounced_served list changes (dead is) = absurd (not_dead list changes is)
    unannounced_served list changes (changed change among of) = absurd (not_changed list changes change among of)

    owned_served : (list : Listed) → Took (world form m) list 0 → (after form m).changes ≡ change_of form.object list (world form m).changes ∷ (world form m).changes
        → IsOwned form (world form m) (offers form m) list → IsServed form setup older list
    owned_served list took changes (is_unannounced fast) = unannounced_served list changes (m.kept.followed list took fast)
    owned_served list took changes (is_named now) = named_served form setup older m.are.0 m.kept list now
    owned_served list took changes (is_dead is) = absurd (not_dead list changes is)
    owned_served list took changes (has_changed change among of) = absurd (not_changed list changes change among of)

    beside_served : (entry : Entry) (list : Option Listed) → form.adds_beside (world form m) entry ≡ list → (after form m).changes ≡ with_change form.object list (world form m).changes
        → (one : Listed) → list ≡ Some one → IsServed form setup older one
    beside_served entry None adds changes one is = absurd cc
    beside_served entry (Some list) adds changes one is =
        let took = (m.laws.of_world.beside (world form m) list entry m.kept.holds.shape adds).1 in
        let same : list ≡ one = cc in
        subst (IsServed form setup older) same (owned_served list took changes (m.kept.owned list took))

    -- ---- of each move

    does_adds : Does form (world form m) (after form m) → Adds setup older move
    does_adds (nothing journal changes) = none journal changes
    does_adds (beside entry cause journal changes) =
        aside entry cause (form.adds_beside (world form m) entry) journal changes (record { served = beside_served entry (form.adds_beside (world form m) entry) refl changes })
    does_adds (listed list j entry cause at behind stood journal changes) = listed_adds list j entry cause at behind stood journal changes

    pub adds : Adds setup older move
    adds = does_adds (step_does form (world form m) (after form m) (step form m))
