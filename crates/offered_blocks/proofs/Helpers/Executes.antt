-- A step of a run on the list of an offered block, with what it adds to the won exchanges and the changes.
use Rattle.std.proofs.Common.{◌≡◌, ◌≢◌, ◌∙◌, refl, sym, ap, ℕ, ◌==◌, ◌&&◌, ◌||◌, Bool, true, false, inl, inr, ◌⊎◌, ◌∷◌, slice_get, Option, Some}
use Rattle.std.proofs.lemmas.Bool.{eq-eqb, ne_eqb, or_left, and_from}
use Rattle.step_memory.specs.declared.steps.Seen.{Seen}
use Rattle.normal_traits.specs.declared.lists.Entry.{Entry}
use Rattle.normal_traits.specs.World.{Cause, Listed, World}
use Rattle.normal_traits.specs.World.Maker.{By}
use Rattle.normal_traits.specs.NormalForm.{NormalForm}
use Rattle.normal_traits.specs.Steps.{IsStep, listed_if, with_change}
use Rattle.cas_executor.specs.SlowRuns.{SlowWalk, installs, slow_request}
use Rattle.cas_executor_laws.specs.Parts.{RequestMade, Knows, TookBy}
use Rattle.offered_blocks.specs.Blocks.{Offer, site_of, has_taken}
use Rattle.offered_blocks.proofs.Blocks.Items.{both}

-- a list has taken what it had, and its new item
pub same_item : (list : Listed) (j : ℕ) (before : Bool) → ((list.identity == list.identity) && (j == j) || before) ≡ true
same_item list j before = or_left ((list.identity == list.identity) && (j == j)) before (and_from (list.identity == list.identity) (j == j) (eq-eqb list.identity list.identity refl) (eq-eqb j j refl))

pub and_second : (a b : Bool) → b ≡ false → (a && b) ≡ false
and_second true b e = e
and_second false b e = refl

other_entry : (list : Listed) (i j : ℕ) (before : Bool) → j ≢ i → ((list.identity == list.identity) && (i == j) || before) ≡ before
other_entry list i j before apart = ap (λ b. b || before) (and_second (list.identity == list.identity) (i == j) (ne_eqb i j (λ e. apart (sym e))))

other_list : (list other : Listed) (i j : ℕ) (before : Bool) → list.identity ≢ other.identity → ((list.identity == other.identity) && (i == j) || before) ≡ before
other_list list other i j before apart = ap (λ b. b && (i == j) || before) (ne_eqb list.identity other.identity apart)

module _ {S W : Type 0} (form : NormalForm S W) (world after : World) where
  -- nothing, or what the entry that is installed adds
  pub data Tells (list : Listed) (walk : SlowWalk) (seen : Seen) : Type 0 where
    no_win : (installs walk.step ≡ false) ⊎ (seen.won ≡ false) → after.journal ≡ world.journal → after.changes ≡ world.changes → Tells list walk seen
    wins : installs walk.step ≡ true → seen.won ≡ true → (entry : Entry) (cause : Cause) → slice_get list.entries walk.next ≡ Some entry → world.words entry.target ≡ entry.from
        → after.journal ≡ record { place = entry.target; before = entry.from; after = entry.to; maker = By list walk.next; cause = cause } ∷ world.journal
        → after.changes ≡ with_change form.object (listed_if (form.adds list walk.next) list) world.changes → Tells list walk seen

  pub record Executes (offers : ℕ → Option (Offer S)) (block : ℕ) (offer : Offer S) (walk : SlowWalk) (seen : Seen) : Type 0 where
    pub stands : offers block ≡ Some offer
    pub knows : Knows (site_of offer) world.words (has_taken world.journal offer.list) walk
    pub made : RequestMade (slow_request walk) world.words after.words seen
    pub tells : Tells offer.list walk seen
    pub used : (other : ℕ) → world.used other ≡ true → after.used other ≡ true
    pub uses : (other : ℕ) → after.used other ≡ true → (world.used other ≡ true) ⊎ ((other ≡ block) × (has_taken after.journal offer.list 0 ≡ true))
    pub step : IsStep form world after

  pub taken_by : (list : Listed) (walk : SlowWalk) (seen : Seen) → Tells list walk seen → TookBy walk seen (has_taken world.journal list) (has_taken after.journal list)
  taken_by list walk seen (no_win why same kept) = record {
    won = λ installing won. elim why [ inl none ↦ both (installs walk.step) installing none | inr lost ↦ both seen.won won lost ];
    others = λ j apart. ap (λ log. has_taken log list j) same;
    lost = λ none. ap (λ log. has_taken log list walk.next) same;
  }
  taken_by list walk seen (wins installing won entry cause listed stood grown made) = record {
    won = λ i w. ap (λ log. has_taken log list walk.next) grown ∙ same_item list walk.next (has_taken world.journal list walk.next);
    others = λ j apart. ap (λ log. has_taken log list j) grown ∙ other_entry list walk.next j (has_taken world.journal list j) apart;
    lost = λ none. elim none [ inl never ↦ both (installs walk.step) installing never | inr lost ↦ both seen.won won lost ];
  }

  -- another list's items are the same
  pub other_items : (list other : Listed) (walk : SlowWalk) (seen : Seen) → Tells list walk seen → list.identity ≢ other.identity
      → (j : ℕ) → has_taken after.journal other j ≡ has_taken world.journal other j
  other_items list other walk seen (no_win why same kept) apart j = ap (λ log. has_taken log other j) same
  other_items list other walk seen (wins installing won entry cause listed stood grown made) apart j =
      ap (λ log. has_taken log other j) grown ∙ other_list list other walk.next j (has_taken world.journal other j) apart
