-- A step of a run that knows what it must is one that a helper may make, and the run knows what it must afterwards.
use Rattle.std.proofs.Common.{◌≡◌, ◌≢◌, ◌∙◌, refl, sym, subst, ap, ℕ, ◌&&◌, ◌∷◌, Bool, true, false, inl, inr, slice_get, Option, Some, arith}
use Rattle.std.proofs.lemmas.Bool.{and_from, cases_eq}
use Rattle.step_memory.specs.declared.steps.Seen.{Seen}
use Rattle.word_fields.specs.Versioned.{marked_word}
use Rattle.normal_traits.specs.declared.lists.Entry.{Entry}
use Rattle.normal_traits.specs.World.{World}
use Rattle.normal_traits.specs.World.Maker.{By}
use Rattle.normal_traits.specs.NormalForm.{NormalForm}
use Rattle.normal_traits.specs.Steps.{listed_if, put_word, with_change, with_word}
use Rattle.normal_traits.proofs.Stays.{word_beside, word_put}
use Rattle.cas_executor.specs.declared.slow_run.SlowStep.{SlowStep}
use Rattle.cas_executor.specs.declared.slow_run.SlowStep.TheVariants.{LoadState, Install, LoadTarget, Succeed, Fail, LoadDecision, Clear}
use Rattle.cas_executor.specs.SlowRuns.{SlowWalk, installs, slow_execution, slow_fed, slow_request, step_request}
use Rattle.cas_executor_laws.specs.ExecRuns.{IsEntry}
use Rattle.cas_executor_laws.specs.Parts.{Helps as RunHelps, RequestMade, Knows, KnowsEntry, view_in}
use Rattle.cas_executor_laws.proofs.Exchanges.{exchange_did, load_leaves}
use Rattle.cas_executor_laws.proofs.Exchanges.Exchanged.{lost, won}
use Rattle.cas_executor_laws.proofs.StepsAreDeeds.{request_is}
use Rattle.cas_executor_laws.proofs.OfferedPartsKept.{entry_at}
use Rattle.offered_blocks.specs.Blocks.{Offer, IsOffer, has_taken, site_of}
use Rattle.offered_blocks.specs.Holds.{HasOffers}
use Rattle.offered_blocks.specs.HelperSteps.{AreBehind, Helps, entered, first_entered}
use Rattle.offered_blocks.specs.HelperSteps.Helps.{looks, installs_first, installs_second, succeeds, fails, clears_bit}
use Rattle.offered_blocks.specs.RunWorlds.{ran_by, ran_world, with_words}
use Rattle.offered_blocks.proofs.Helpers.Executes.{Tells, and_second, taken_by}
use Rattle.offered_blocks.proofs.Helpers.Executes.Tells.{no_win, wins}
use Rattle.offered_blocks.proofs.Helpers.OwnDeeds.{own_helps}

-- a word that was put is what a step left there, where the step left the others
put_is : (at to : ℕ) (words words' : ℕ → ℕ) → words' at ≡ to → ((place : ℕ) → place ≢ at → words' place ≡ words place) → (place : ℕ) → with_word at to words place ≡ words' place
put_is at to words words' there others place =
    elim (cases_eq place at) [
      | inl same ↦ word_put at to words place same ∙ sym there ∙ ap words' (sym same)
      | inr apart ↦ word_beside at to words place apart ∙ sym (others place apart)
    ]

module _ {S W : Type 0} (form : NormalForm S W) (world : World) (offers : ℕ → Option (Offer S)) (holds : HasOffers form world offers)
    (block : ℕ) (offer : Offer S) (stands : offers block ≡ Some offer) (walk : SlowWalk) (seen : Seen) (words : ℕ → ℕ)
    (knows : Knows (site_of offer) world.words (has_taken world.journal offer.list) walk) (made : RequestMade (slow_request walk) world.words words seen) where
  mine : IsOffer form world block offer
  mine = holds.blocks.offered block offer stands

  abbrev own : Entry
  own = (entry_at offer.list.entries walk.next knows.within).0

  own_listed : IsEntry offer.list.entries walk.next own
  own_listed = (entry_at offer.list.entries walk.next knows.within).1

  behind : AreBehind world offer walk.next
  behind i entry listed before = let done = knows.done i entry listed before in (done.succeeded, done.gone)

  -- a world that the helper may have made, which is the one with the words that the step left
  record Ran : Type 0 where
    pub after : World
    pub helps : Helps form world offer after
    pub is : after ≡ ran_world form world offer walk seen words
    pub tells : Tells form world after offer.list walk seen

  abbrev entry_there : Option Entry
  entry_there = slice_get offer.list.entries walk.next

  -- without a won install it is the old one with other words
  kept_is : (f : ℕ → ℕ) → (installs walk.step && seen.won) ≡ false → ((place : ℕ) → f place ≡ words place) → with_words world f ≡ ran_world form world offer walk seen words
  kept_is f none same = (λ i. with_words world (λ place. same place i)) ∙ ap (λ (b : Bool). ran_by form world offer walk.next words b entry_there) (sym none)

  no_install : installs walk.step ≡ false → (installs walk.step && seen.won) ≡ false
  no_install none = ap (λ b. b && seen.won) none

  stays_ran : installs walk.step ≡ false → ((place : ℕ) → words place ≡ world.words place) → Ran
  stays_ran none leaves = record { after = world; helps = looks; is = kept_is world.words (no_install none) (λ place. sym (leaves place)); tells = no_win (inl none) refl refl }

  lost_ran : seen.won ≡ false → ((place : ℕ) → words place ≡ world.words place) → Ran
  lost_ran saw leaves = record { after = world; helps = looks; is = kept_is world.words (and_second (installs walk.step) seen.won saw) (λ place. sym (leaves place)); tells = no_win (inr saw) refl refl }

  put_ran : (at to : ℕ) → installs walk.step ≡ false → words at ≡ to → ((place : ℕ) → place ≢ at → words place ≡ world.words place) → Helps form world offer (put_word at to world) → Ran
  put_ran at to none there others helps = record {
    after = put_word at to world;
    helps = helps;
    is = kept_is (with_word at to world.words) (no_install none) (put_is at to world.words words there others);
    tells = no_win (inl none) refl refl;
  }

  -- the world with this entry
  abbrev with_entry : ℕ → (ℕ → ℕ) → World
  with_entry j f = ran_by form world offer j f true (Some own)

  entry_is : (j : ℕ) → walk.next ≡ j → installs walk.step ≡ true → seen.won ≡ true → ((place : ℕ) → with_word own.target (marked_word own.to) world.words place ≡ words place)
      → with_entry j (with_word own.target (marked_word own.to) world.words) ≡ ran_world form world offer walk seen words
  entry_is j at install saw same =
      (λ i. with_entry j (λ place. same place i)) ∙ ap (λ k. with_entry k words) (sym at) ∙ ap (λ (e : Option Entry). ran_by form world offer walk.next words true e) (sym own_listed)
      ∙ ap (λ (b : Bool). ran_by form world offer walk.next words b (slice_get offer.list.entries walk.next)) (sym (and_from (installs walk.step) seen.won install saw))

  install_ran : installs walk.step ≡ true → seen.won ≡ true → world.words own.target ≡ own.from → words own.target ≡ marked_word own.to → ((place : ℕ) → place ≢ own.target → words place ≡ world.words place) → Ran
  install_ran install saw at there others =
      let same = put_is own.target (marked_word own.to) world.words words there others in
      elim (cases_eq walk.next 0) [
        | inl first ↦ record {
          after = first_entered form world offer own;
          helps = installs_first own (subst (λ j. IsEntry offer.list.entries j own) first own_listed) at;
          is = entry_is 0 first install saw same;
          tells = wins install saw own (form.cause_of world (By offer.list 0) own) own_listed at
              (ap (λ k. record { place = own.target; before = own.from; after = own.to; maker = By offer.list k; cause = form.cause_of world (By offer.list 0) own } ∷ world.journal) (sym first))
              (ap (λ k. with_change form.object (listed_if (form.adds offer.list k) offer.list) world.changes) (sym first));
        }
        | inr rest ↦
            let within = knows.within in
            let short = mine.site.short in
            let second : walk.next ≡ 1 = omega (arith, within, short, rest) in
            record {
              after = entered form world offer 1 own;
              helps = installs_second own (subst (λ j. IsEntry offer.list.entries j own) second own_listed) (subst (λ j. AreBehind world offer j) second behind) at;
              is = entry_is 1 second install saw same;
              tells = wins install saw own (form.cause_of world (By offer.list 1) own) own_listed at
                  (ap (λ k. record { place = own.target; before = own.from; after = own.to; maker = By offer.list k; cause = form.cause_of world (By offer.list 1) own } ∷ world.journal) (sym second))
                  (ap (λ k. with_change form.object (listed_if (form.adds offer.list k) offer.list) world.changes) (sym second));
            }
      ]

  ran_at : (step : SlowStep) → walk.step ≡ step → RequestMade (step_request offer.list.block walk.next own step) world.words words seen
      → KnowsEntry step own (view_in (site_of offer) world.words (has_taken world.journal offer.list) walk.next own) → Ran
  ran_at LoadState is made' known = stays_ran (ap installs is) (load_leaves _ world.words words seen made')
  ran_at LoadTarget is made' known = stays_ran (ap installs is) (load_leaves _ world.words words seen made')
  ran_at LoadDecision is made' known = stays_ran (ap installs is) (load_leaves _ world.words words seen made')
  ran_at Install is made' known =
      elim (exchange_did _ _ _ world.words words seen made') [
        | lost differs leaves saw ↦ lost_ran saw leaves
        | won at there others saw ↦ install_ran (ap installs is) saw at there others
      ]
  ran_at Succeed is made' known =
      elim (exchange_did _ _ _ world.words words seen made') [
        | lost differs leaves saw ↦ lost_ran saw leaves
        | won at there others saw ↦ put_ran _ _ (ap installs is) there others (succeeds walk.next own own_listed behind at ((mine.parts.lives walk.next own own_listed).pending at known.1))
      ]
  ran_at Fail is made' known =
      elim (exchange_did _ _ _ world.words words seen made') [
        | lost differs leaves saw ↦ lost_ran saw leaves
        | won at there others saw ↦ put_ran _ _ (ap installs is) there others (fails walk.next own own_listed behind at known.0 (known.1 at).1)
      ]
  ran_at Clear is made' known =
      elim (exchange_did _ _ _ world.words words seen made') [
        | lost differs leaves saw ↦ lost_ran saw leaves
        | won at there others saw ↦ put_ran _ _ (ap installs is) there others (clears_bit walk.next own own_listed behind known.1 at)
      ]

  ran : Ran
  ran =
      ran_at walk.step refl
      (subst (λ r. RequestMade r world.words words seen) (request_is (site_of offer) mine.site world.words words (has_taken world.journal offer.list) (has_taken world.journal offer.list) walk seen knows own own_listed) made)
      (knows.at_entry own own_listed)

  abbrev after_ran : World
  after_ran = ran_world form world offer walk seen words

  pub run_tells : Tells form world after_ran offer.list walk seen
  run_tells = (let r = ran in subst (λ (w : World). Tells form world w offer.list walk seen) r.is r.tells)

  pub run_helps : Helps form world offer after_ran
  run_helps = (let r = ran in subst (Helps form world offer) r.is r.helps)

  pub run_knows : RunHelps (site_of offer) words (has_taken after_ran.journal offer.list) (slow_fed walk seen) (slow_execution walk seen)
  run_knows = own_helps form world offers holds.blocks block offer stands walk seen words (has_taken after_ran.journal offer.list) knows made (taken_by form world after_ran offer.list walk seen run_tells)
