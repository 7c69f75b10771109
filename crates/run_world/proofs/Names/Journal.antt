-- Each list in the journal is known by its identity.
use Rattle.std.proofs.Common.{◌≡◌, ◌∙◌, refl, sym, subst, ap, ℕ, ◌<◌, List, [], ◌∷◌, length, slice_get, Option, Some, None, ◌⊎◌, inl, inr, arith, rules}
use Rattle.step_memory.specs.declared.steps.Seen.{Seen}
use Rattle.normal_traits.specs.World.{Among, Listed, Won, World}
use Rattle.normal_traits.specs.World.Maker.{By, Beside}
use Rattle.normal_traits.specs.NormalForm.{NormalForm}
use Rattle.normal_traits.specs.Steps.{IsFresh}
use Rattle.fast_slow_engine.specs.declared.phases.Phase.{Phase}
use Rattle.fast_slow_engine.specs.declared.setup.Setup.{Setup}
use Rattle.fast_slow_engine.specs.HelpWords.{named_block}
use Rattle.fast_slow_engine.specs.Mechs.{Mech}
use Rattle.fast_slow_engine.specs.Runs.{Move, begun, run_of}
use Rattle.run_laws.proofs.Steps.{some_same}
use Rattle.run_world.specs.Ghosts.{Ghost}
use Rattle.run_world.specs.Identities.{Keeper, holder, carrier, named, kept_list, list_held, list_offered, JournalIdentities}
use Rattle.run_world.specs.RunGhosts.{ghost_moved, ghost_of, world_of}
use Rattle.run_world.proofs.Words.Moved.{seen_by}
use Rattle.run_world.proofs.Words.Wins.{Wins, nothing, beside, takes, installed, move_wins}
use Rattle.run_world.proofs.Names.Kept.{identities_below, identities_differ, kept_came}

no_maker : {A : Type 0} (list : Listed) (j : ℕ) → Beside ≡ By list j → A
no_maker list j e = absurd (search rules)

pub same_maker : (list other : Listed) (i j : ℕ) → By list i ≡ By other j → (list ≡ other) × (i ≡ j)
same_maker list other i j e = (cc, cc)

-- a won exchange of a list was won before, or is that of a list that the mover holds, or that a record has named
abbrev pub ListedBy : {S : Type 0} → List Won → Ghost S → ℕ → Won → Listed → Type 0
ListedBy journal ghost seat won list = Among won journal ⊎ ((keeper : Keeper) × (kept_list ghost keeper ≡ Some list) × ((keeper ≡ holder seat) ⊎ ((block : ℕ) × (keeper ≡ named block))))

-- every identity in the journal is below this
abbrev pub AreBelow : ℕ → List Won → Type 0
AreBelow count journal = (won : Won) (list : Listed) (j : ℕ) → Among won journal → won.maker ≡ By list j → list.identity < count

wins_came : {S W : Type 0} (phase : Phase S W) (ghost : Ghost S) (seat : ℕ) (seen : Seen) (before after : World) (won : Won) (list : Listed) (j : ℕ) → Wins phase (ghost.seats seat).held ghost.offers seen before after
    → Among won after.journal → won.maker ≡ By list j → ListedBy before.journal ghost seat won list
wins_came phase ghost seat seen before after won list j wins among maker =
    elim wins [
      | nothing missed journal used ↦ inl (subst (λ l. Among won l) journal among)
      | beside new other by journal used ↦
          elim (subst (λ l. Among won l) journal among) [
            | inl same ↦ no_maker list j (sym by ∙ ap (λ (w : Won). w.maker) (sym same) ∙ maker)
            | inr old ↦ inl old
          ]
      | takes run stores own entry cause at holds next won' journal used ↦
          elim (subst (λ l. Among won l) journal among) [
            | inl same ↦ inr (holder seat, ap list_held holds ∙ ap Some (same_maker own.list list run.next j (ap (λ (w : Won). w.maker) (sym same) ∙ maker)).0, inl refl)
            | inr old ↦ inl old
          ]
      | installed drives head seats word run offer entry cause at stands next won' journal used ↦
          elim (subst (λ l. Among won l) journal among) [
            | inl same ↦ inr (named (named_block word), ap list_offered stands ∙ ap Some (same_maker offer.list list run.next j (ap (λ (w : Won). w.maker) (sym same) ∙ maker)).0, inr (named_block word, refl))
            | inr old ↦ inl old
          ]
    ]

module _ {S W : Type 0} (form : NormalForm S W) where
  came_by : (setup : Setup) (older : List Move) (move : Move) (mech : Option (Mech S W)) (won : Won) (list : Listed) (j : ℕ) → slice_get (run_of form setup older).mechs move.seat ≡ mech
      → Among won (ghost_of form setup (move ∷ older)).journal → won.maker ≡ By list j
      → ListedBy (ghost_of form setup older).journal (ghost_of form setup older) move.seat won list
  came_by setup older move None won list j at among maker =
      inl (subst (λ o. Among won (ghost_moved form (length older) o move (run_of form setup older) (ghost_of form setup older)).journal) at among)
  came_by setup older move (Some mech) won list j at among maker =
      wins_came (begun move.begins mech).phase (ghost_of form setup older) move.seat (seen_by form setup older move mech) (world_of form setup older) (world_of form setup (move ∷ older)) won list j
      (move_wins form setup older move mech at) among maker

  -- an exchange that a move won for a list is of a list that was held or named before it
  pub won_came : (setup : Setup) (older : List Move) (move : Move) (won : Won) (list : Listed) (j : ℕ) → Among won (ghost_of form setup (move ∷ older)).journal → won.maker ≡ By list j
      → ListedBy (ghost_of form setup older).journal (ghost_of form setup older) move.seat won list
  won_came setup older move won list j among maker = came_by setup older move (slice_get (run_of form setup older).mechs move.seat) won list j refl among maker

  below_moved : (setup : Setup) (older : List Move) (move : Move) → AreBelow (length older) (ghost_of form setup older).journal → AreBelow (length older) (ghost_of form setup (move ∷ older)).journal
  below_moved setup older move below won list j among maker =
      elim (won_came setup older move won list j among maker) [
        | inl old ↦ below won list j old maker
        | inr mine ↦ identities_below form setup older mine.0 list mine.1
      ]

  pub journal_below : (setup : Setup) (moves : List Move) → AreBelow (length moves) (ghost_of form setup moves).journal
  journal_below setup [] won list j among maker = absurd among
  journal_below setup (move ∷ older) won list j among maker = omega (arith, below_moved setup older move (journal_below setup older) won list j among maker)

  -- after a move there is none with the identity of a list that the move names
  pub journal_before : (setup : Setup) (older : List Move) (move : Move) → AreBelow (length older) (ghost_of form setup (move ∷ older)).journal
  journal_before setup older move = below_moved setup older move (journal_below setup older)

  -- so a list that is named by it is fresh
  pub named_fresh : (setup : Setup) (older : List Move) (move : Move) (list : Listed) → list.identity ≡ length older → IsFresh (world_of form setup (move ∷ older)) list
  named_fresh setup older move list is other j same took =
      let below = journal_before setup older move _ other j took.won refl in omega (arith, below, same, is)

  -- lists of one identity are one
  pub kept_once : (setup : Setup) (moves : List Move) (keeper mate : Keeper) (list other : Listed) → kept_list (ghost_of form setup moves) keeper ≡ Some list → kept_list (ghost_of form setup moves) mate ≡ Some other
      → list.identity ≡ other.identity → list ≡ other
  kept_once setup moves keeper mate list other is was same =
      let keepers = identities_differ form setup moves keeper mate list other is was same in
      some_same list other (sym is ∙ subst (λ k. kept_list (ghost_of form setup moves) k ≡ Some other) (sym keepers) was)

  journal_owns : (setup : Setup) (moves : List Move) (won : Won) (list : Listed) (j : ℕ) → Among won (ghost_of form setup moves).journal → won.maker ≡ By list j
      → (keeper : Keeper) (other : Listed) → kept_list (ghost_of form setup moves) keeper ≡ Some other → other.identity ≡ list.identity → other ≡ list
  journal_owns setup [] won list j among maker keeper other is same = absurd among
  journal_owns setup (move ∷ older) won list j among maker keeper other is same =
      elim (kept_came form setup older move keeper other is) [
        | inl new ↦ (let below = journal_before setup older move won list j among maker in absurd (omega (arith, new.1, same, below)))
        | inr old ↦
            elim (won_came setup older move won list j among maker) [
              | inl before ↦ journal_owns setup older won list j before maker old.0 other old.1 same
              | inr mine ↦ kept_once setup older old.0 mine.0 other list old.1 mine.1 same
            ]
      ]

  pub journal_identities : JournalIdentities form
  journal_identities setup moves won list j among maker = record {
    below = journal_below setup moves won list j among maker;
    own = journal_owns setup moves won list j among maker;
  }

  -- ---- lists that are carried

  carrier_apart : {A : Type 0} (seat mover : ℕ) (keeper : Keeper) → carrier seat ≡ keeper → (keeper ≡ holder mover) ⊎ ((block : ℕ) × (keeper ≡ named block)) → A
  carrier_apart seat mover keeper is other =
      elim other [
        | inl held ↦ (let both : carrier seat ≡ holder mover = is ∙ held in absurd (search rules))
        | inr offered ↦ (let both : carrier seat ≡ named offered.0 = is ∙ offered.1 in absurd (search rules))
      ]

  -- no exchange has the identity of a list that is carried
  pub carried_none : (setup : Setup) (moves : List Move) (seat : ℕ) (list : Listed) → kept_list (ghost_of form setup moves) (carrier seat) ≡ Some list
      → (won : Won) (other : Listed) (j : ℕ) → Among won (ghost_of form setup moves).journal → won.maker ≡ By other j → other.identity ≡ list.identity → ⊥
  carried_none setup [] seat list is won other j among maker same = absurd among
  carried_none setup (move ∷ older) seat list is won other j among maker same =
      elim (kept_came form setup older move (carrier seat) list is) [
        | inl new ↦ (let below = journal_before setup older move won other j among maker in omega (arith, new.1, same, below))
        | inr old ↦
            elim old.2 [
              | inl stays ↦
                  let before : kept_list (ghost_of form setup older) (carrier seat) ≡ Some list = subst (λ k. kept_list (ghost_of form setup older) k ≡ Some list) (sym stays.0) old.1 in
                  elim (won_came setup older move won other j among maker) [
                    | inl earlier ↦ carried_none setup older seat list before won other j earlier maker same
                    | inr mine ↦ carrier_apart seat move.seat mine.0 (identities_differ form setup older (carrier seat) mine.0 list other before mine.1 (sym same)) mine.2
                  ]
              | inr moves ↦ (let both : carrier seat ≡ named moves.0 = moves.3 in absurd (search rules))
            ]
      ]
