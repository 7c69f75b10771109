-- What the lists of a call that was left no block have won: entries that make no change, of lists that are given up.
use Rattle.std.proofs.Common.{◌≡◌, ◌≢◌, ◌∙◌, refl, sym, subst, ap, ℕ, ◌<◌, ◌⊎◌, Bool, true, false, List, [], ◌∷◌, slice_get, Option, Some, None, All, Contains, inl, inr, arith}
use Rattle.lin_report.specs.declared.calls.Receipt.{Receipt}
use Rattle.lin_report.specs.declared.calls.Reply.{Reply}
use Rattle.lin_report.specs.Object.{Object}
use Rattle.normal_traits.specs.AtOnce.{ChangesAtOnce}
use Rattle.normal_traits.specs.World.{Called, Change, Listed, Took, Won, World, Among}
use Rattle.normal_traits.specs.World.Maker.{By}
use Rattle.normal_traits.specs.NormalForm.{NormalForm}
use Rattle.normal_traits.specs.Laws.{Laws}
use Rattle.normal_traits.specs.Steps.{change_of, listed_if, with_change}
use Rattle.fast_slow_engine.specs.declared.phases.Phase.{Phase}
use Rattle.fast_slow_engine.specs.declared.phases.Phase.TheVariants.{End}
use Rattle.fast_slow_engine.specs.declared.setup.Setup.{Setup}
use Rattle.fast_slow_engine.specs.Mechs.{Mech}
use Rattle.fast_slow_engine.specs.Runs.{Move, AreMoves, run_of}
use Rattle.offered_blocks.specs.Records.{MadeNone}
use Rattle.move_kinds.specs.Owned.{IsOwned}
use Rattle.move_kinds.specs.Owned.IsOwned.{unannounced as is_unannounced, named as is_named, dead as is_dead, changed as has_changed}
use Rattle.helper_knowledge.specs.Callers.{called}
use Rattle.run_laws.specs.Ticks.{draws_tick}
use Rattle.run_laws.proofs.CallsFollow.{numbers_go_on}
use Rattle.run_laws.proofs.MachinesKept.{seats_stay}
use Rattle.run_laws.proofs.Steps.{some_same}
use Rattle.run_exchanges.specs.Ghosts.{Held}
use Rattle.run_exchanges.specs.Lists.{HoldsIn}
use Rattle.run_exchanges.specs.RunGhosts.{ghost_of, world_of}
use Rattle.run_exchanges.specs.Kept.{RunsAreKept, held_in_seats}
use Rattle.run_exchanges.specs.Tells.{IsFollowed}
use Rattle.run_exchanges.specs.Tells.IsFollowed.{with_seat, dead, changed}
use Rattle.run_exchanges.proofs.Holding.HeldLists.{lists_held}
use Rattle.run_exchanges.proofs.Words.Grow.{world_grows}
use Rattle.run_exchanges.proofs.Goes.Runs.{took_grows}
use Rattle.run_exchanges.proofs.InRuns.MovesInRuns.{Moved, after, mech, mover, offers, own, seated, step, ticks, world, moved}
use Rattle.run_exchanges.proofs.Changes.Adds.{Adds, none, aside, serves, adds}
use Rattle.run_exchanges.proofs.Changes.Items.{item_of}
use Rattle.run_exchanges.proofs.Journals.Once.{no_maker, same_maker}
use Rattle.run_exchanges.proofs.Moves.Served.{IsServed, named_served, none_held}
use Rattle.run_reports.specs.Endings.{ChangedNone, WasRefused, WonInVain, WonNone, called_by}
use Rattle.run_reports.proofs.Counts.Ticks.{drawn_changes}

-- what is among changes is among them with another
among_with : (object : Object) (list : Option Listed) (changes : List Change) (change : Change) → Among change changes → Among change (with_change object list changes)
among_with object None changes change among = among
among_with object (Some list) changes change among = inr among

-- the change of a list whose entry makes it
among_adds : (object : Object) (makes : Bool) (list : Listed) (changes : List Change) → makes ≡ true → Among (change_of object list changes) (with_change object (listed_if makes list) changes)
among_adds object true list changes is = inl refl
among_adds object false list changes is = absurd (cc)

-- a change that came is that of the list
came_of : (object : Object) (list : Option Listed) (changes : List Change) (change : Change) → Among change (with_change object list changes) → Among change changes ⊎ ((one : Listed) × (list ≡ Some one) × (change.list ≡ one))
came_of object None changes change among = inl among
came_of object (Some list) changes change (inl new) = inr (list, refl, ap (λ (c : Change). c.list) new)
came_of object (Some list) changes change (inr old) = inl old

listed_same : (b : Bool) (list one : Listed) → listed_if b list ≡ Some one → list ≡ one
listed_same true list one is = cc
listed_same false list one is = absurd cc

-- what holds of all holds of each
pub held_of : {X : Type 0} (P : X → Type 0) (xs : List X) (x : X) → All P xs → Contains xs x → P x
held_of P xs x each has = subst P has.2 (each has.0 x has.1)

module _ {S W : Type 0} (form : NormalForm S W) where
  -- an entry that makes its change has made it
  abbrev pub AddsMade : World → Type 0
  AddsMade world =
      (won : Won) (list : Listed) (j : ℕ) → Among won world.journal → won.maker ≡ By list j → form.adds list j ≡ true → (change : Change) × (Among change world.changes) × (change.list ≡ list)

  -- a list that won an exchange has won its first
  abbrev pub FirstsTook : World → Type 0
  FirstsTook world = (won : Won) (list : Listed) (j : ℕ) → Among won world.journal → won.maker ≡ By list j → Took world list 0

  module _ {setup : Setup} {older : List Move} {move : Move} (m : Moved form setup older move) where
    made_more : Adds form setup older move → AddsMade (world form m) → AddsMade (after form m)
    made_more (none journal changes) old won list j among maker makes =
        let there = old won list j (subst (Among won) journal among) maker makes in (there.0, subst (Among there.0) (sym changes) there.1, there.2)
    made_more (aside entry cause beside journal changes served) old won list j among maker makes =
        elim (subst (Among won) journal among) [
          | inl new ↦ no_maker list j (sym (ap (λ (w : Won). w.maker) new) ∙ maker)
          | inr there ↦
              let had = old won list j there maker makes in
              (had.0, subst (Among had.0) (sym changes) (among_with form.object beside (world form m).changes had.0 had.1), had.2)
        ]
    made_more (serves one k entry cause keeper at behind journal changes has served) old won list j among maker makes =
        elim (subst (Among won) journal among) [
          | inl new ↦
              let same = same_maker one list k j (sym (ap (λ (w : Won). w.maker) new) ∙ maker) in
              let on : form.adds one k ≡ true = ap (λ (l : Listed). form.adds l k) same.0 ∙ ap (form.adds list) same.1 ∙ makes in
              let change = change_of form.object one (world form m).changes in
              (change, subst (Among change) (sym changes) (among_adds form.object (form.adds one k) one (world form m).changes on), same.0)
          | inr there ↦
              let had = old won list j there maker makes in
              (had.0, subst (Among had.0) (sym changes) (among_with form.object (listed_if (form.adds one k) one) (world form m).changes had.0 had.1), had.2)
        ]

    grown : (list : Listed) → Took (world form m) list 0 → Took (after form m) list 0
    grown list took = took_grows (world form m) (after form m) list 0 (world_grows form setup older move) took

    firsts_more : Adds form setup older move → FirstsTook (world form m) → FirstsTook (after form m)
    firsts_more (none journal changes) old won list j among maker = grown list (old won list j (subst (Among won) journal among) maker)
    firsts_more (aside entry cause beside journal changes served) old won list j among maker =
        elim (subst (Among won) journal among) [
          | inl new ↦ no_maker list j (sym (ap (λ (w : Won). w.maker) new) ∙ maker)
          | inr there ↦ grown list (old won list j there maker)
        ]
    firsts_more (serves one k entry cause keeper at behind journal changes has served) old won list j among maker =
        elim (subst (Among won) journal among) [
          | inl new ↦
              let same = same_maker one list k j (sym (ap (λ (w : Won). w.maker) new) ∙ maker) in
              subst (λ (l : Listed). Took (after form m) l 0) same.0 (elim behind [
                | inl first ↦ subst (λ i. Took (after form m) one i) first (record { entry = entry; cause = cause; listed = at; won = subst (Among (item_of (By one k) entry cause)) (sym journal) (inl refl) })
                | inr took ↦ grown one took
              ])
          | inr there ↦ grown list (old won list j there maker)
        ]

  module _ (laws : Laws form) (kept : RunsAreKept form) where
    pub adds_made : (setup : Setup) (moves : List Move) → AreMoves form setup moves → AddsMade (world_of form setup moves)
    adds_made setup [] are = λ won list j among maker makes. absurd among
    adds_made setup (move ∷ older) are = made_more (moved form laws kept setup older move are) (adds form (moved form laws kept setup older move are)) (adds_made setup older are.0)

    pub firsts_took : (setup : Setup) (moves : List Move) → AreMoves form setup moves → FirstsTook (world_of form setup moves)
    firsts_took setup [] are = λ won list j among maker. absurd among
    firsts_took setup (move ∷ older) are = firsts_more (moved form laws kept setup older move are) (adds form (moved form laws kept setup older move are)) (firsts_took setup older are.0)

  -- ---- a line keeps that its call changed nothing and won in vain

  module _ {setup : Setup} {older : List Move} {move : Move} (m : Moved form setup older move) where
    -- a call whose list is served has no line
    pub no_line : (list : Listed) → IsServed form setup older list → (r : Receipt) → Contains (run_of form setup older).receipts r → list.call ≢ called_by r
    no_line list served r has same =
        let call : called served.mech ≡ called_by r = sym served.call ∙ same in
        let seat : r.seat ≡ list.call.seat = ap (λ (c : Called). c.seat) (sym same) in
        let numbered = (numbers_go_on form setup older m.are.0 (ticks form m).0).each list.call.seat served.mech served.seated in
        let fewer = held_of (λ (l : Receipt). l.seat ≡ list.call.seat → l.number < served.mech.number) (run_of form setup older).receipts r (numbered.fewer (omega (arith, served.running))) has seat in
        let number : served.mech.number ≡ r.number = ap (λ (c : Called). c.number) call in
        omega (arith, fewer, number)

    module _ (r : Receipt) (known : Contains (run_of form setup older).receipts r) where
      with_quiet : (list : Option Listed) → (after form m).changes ≡ with_change form.object list (world form m).changes → ((one : Listed) → list ≡ Some one → IsServed form setup older one) → ChangedNone form setup older r → ChangedNone form setup (move ∷ older) r
      with_quiet list changes served quiet change among =
          elim (came_of form.object list (world form m).changes change (subst (Among change) changes among)) [
            | inl old ↦ quiet change old
            | inr new ↦ subst (λ (l : Listed). l.call ≢ called_by r) (sym new.2) (no_line new.0 (served new.0 new.1) r known)
          ]

      pub quiet_stays : Adds form setup older move → ChangedNone form setup older r → ChangedNone form setup (move ∷ older) r
      quiet_stays (none journal changes) quiet = λ change among. quiet change (subst (Among change) changes among)
      quiet_stays (aside entry cause list journal changes served) quiet = with_quiet list changes served.served quiet
      quiet_stays (serves list j entry cause keeper at behind journal changes has served) quiet =
          with_quiet (listed_if (form.adds list j) list) changes (λ one is. subst (IsServed form setup older) (listed_same (form.adds list j) list one is) served) quiet

      -- a dead list stays dead
      dead_stays : (list : Listed) (j : ℕ) → (form.adds list j ≡ false) × form.dead list (world form m) → (form.adds list j ≡ false) × form.dead list (after form m)
      dead_stays list j vain = (vain.0, m.laws.dead_kept (world form m) (after form m) list m.kept.holds.shape vain.1 (step form m))

      pub vain_stays : Adds form setup older move → WonInVain form setup older r → WonInVain form setup (move ∷ older) r
      vain_stays (none journal changes) vain won list j among maker call = dead_stays list j (vain won list j (subst (Among won) journal among) maker call)
      vain_stays (aside entry cause beside journal changes served) vain won list j among maker call =
          elim (subst (Among won) journal among) [
            | inl new ↦ no_maker list j (sym (ap (λ (w : Won). w.maker) new) ∙ maker)
            | inr there ↦ dead_stays list j (vain won list j there maker call)
          ]
      vain_stays (serves one k entry cause keeper at behind journal changes has served) vain won list j among maker call =
          elim (subst (Among won) journal among) [
            | inl new ↦
                let same = same_maker one list k j (sym (ap (λ (w : Won). w.maker) new) ∙ maker) in
                absurd (no_line one served r known (ap (λ (l : Listed). l.call) same.0 ∙ call))
            | inr there ↦ dead_stays list j (vain won list j there maker call)
          ]

    -- ---- the call that returns now

    module _ (reply : Reply) (ends : (mech form m).phase ≡ End reply) (quiet : MadeNone (world form m) (called (mech form m))) (made : AddsMade (world form m)) (firsts : FirstsTook (world form m)) where
      -- its call made no change
      not_changed : (change : Change) (list : Listed) → Among change (world form m).changes → change.list ≡ list → list.call ≢ called (mech form m)
      not_changed change list among same call =
          quiet change among (record { seat = ap (λ (l : Listed). l.call.seat) same ∙ ap (λ (c : Called). c.seat) call; number = ap (λ (l : Listed). l.call.number) same ∙ ap (λ (c : Called). c.number) call })

      seat_is : (list : Listed) → list.call ≡ called (mech form m) → list.call.seat ≡ move.seat
      seat_is list call = ap (λ (c : Called). c.seat) call ∙ ((seats_stay form setup older m.are.0).own move.seat (mech form m) (seated form m)).seat

      -- no list of its is served
      not_served : (list : Listed) → list.call ≡ called (mech form m) → ¬ IsServed form setup older list
      not_served list call served =
          let same : served.mech ≡ mech form m = some_same served.mech (mech form m) (sym served.seated ∙ ap (λ k. slice_get (run_of form setup older).mechs k) (seat_is list call) ∙ seated form m) in
          served.stays reply (ap (λ (x : Mech S W). x.phase) same ∙ ends)

      -- its seat holds none
      not_held : (list : Listed) (held : Held S) → list.call ≡ called (mech form m) → ¬ (held_in_seats (ghost_of form setup older) list.call.seat ≡ Some held)
      not_held list held call has =
          let empty = subst (λ (p : Phase S W). HoldsIn form p (mech form m) (own form m).held) ends (lists_held form setup older m.are.0 move.seat (mech form m) (seated form m)) in
          none_held (own form m).held held empty (subst (λ k. held_in_seats (ghost_of form setup older) k ≡ Some held) (seat_is list call) has)

      made_none : (list : Listed) (j : ℕ) (won : Won) (b : Bool) → form.adds list j ≡ b → Among won (world form m).journal → won.maker ≡ By list j → list.call ≡ called (mech form m) → form.adds list j ≡ false
      made_none list j won true is among maker call = let by = made won list j among maker is in absurd (not_changed by.0 list by.1 by.2 call)
      made_none list j won false is among maker call = is

      followed_dead : (list : Listed) → list.call ≡ called (mech form m) → IsFollowed form (world form m) (held_in_seats (ghost_of form setup older)) list → form.dead list (world form m)
      followed_dead list call (with_seat held has is) = absurd (not_held list held call has)
      followed_dead list call (dead is) = is
      followed_dead list call (changed change among is) = absurd (not_changed change list among is call)

      given_up : (list : Listed) → Took (world form m) list 0 → list.call ≡ called (mech form m) → IsOwned form (world form m) (offers form m) list → form.dead list (world form m)
      given_up list took call (is_unannounced fast) = followed_dead list call (m.kept.followed list took fast)
      given_up list took call (is_named now) = absurd (not_served list call (named_served form setup older m.are.0 m.kept list now))
      given_up list took call (is_dead is) = is
      given_up list took call (has_changed change among is) = absurd (not_changed change list among is call)

      pub vain_now : (r : Receipt) → called_by r ≡ called (mech form m) → draws_tick (mover form m).phase ≡ true → WonInVain form setup (move ∷ older) r
      vain_now r is draws won list j among maker call =
          let before = subst (Among won) (drawn_changes form setup older move (mech form m) (seated form m) draws).1 among in
          let took = firsts won list j before maker in
          let gone = given_up list took (call ∙ is) (m.kept.owned list took) in
          (made_none list j won (form.adds list j) refl before maker (call ∙ is), m.laws.dead_kept (world form m) (after form m) list m.kept.holds.shape gone (step form m))

  -- ---- where the first entry of each list makes its change, nothing was won

  pub nothing_won : Laws form → RunsAreKept form → ChangesAtOnce form → (setup : Setup) (moves : List Move) → AreMoves form setup moves → (r : Receipt) → WasRefused form setup moves r → WonNone form setup moves r
  nothing_won laws kept at_once setup moves are r refused won list j among maker call =
      let took = firsts_took laws kept setup moves are won list j among maker in
      let idle = (refused.in_vain _ list 0 took.won refl call).0 in
      let adds' = at_once list in
      absurd (let both = sym idle ∙ adds' in cc)
