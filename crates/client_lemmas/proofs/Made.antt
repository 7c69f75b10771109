-- Changes that are made by the first entries of their lists: they stay so, and one more may be made.
use Rattle.std.proofs.Common.{◌≡◌, ◌≢◌, ℕ, ◌<◌, true, false, [], ◌∷◌, sym, ap, ◌∙◌, subst}
use Rattle.std.specs.Prelude.{AllPairs}
use Rattle.std.proofs.lemmas.Bool.{true≢false}
use Rattle.normal_traits.specs.World.{Listed, Won, Change, World, Among, Took}
use Rattle.normal_traits.specs.Steps.{IsFresh}
use Rattle.client_lemmas.specs.Made.{AreMade}
use Rattle.client_lemmas.proofs.Growing.{each_more, pairs_more, pairs_none}

-- where nothing was changed yet
pub none_made : (world : World) → world.changes ≡ [] → AreMade world
none_made world none =
    record {
      took = λ change a. absurd (subst (Among change) none a);
      blocks = λ change a. absurd (subst (Among change) none a);
      lists_differ = subst (AllPairs (λ (a b : Change). a.list.identity ≢ b.list.identity)) (sym none) (pairs_none (λ (a b : Change). a.list.identity ≢ b.list.identity));
      blocks_differ = subst (AllPairs (λ (a b : Change). 0 < a.list.block → a.list.block ≢ b.list.block)) (sym none) (pairs_none (λ (a b : Change). 0 < a.list.block → a.list.block ≢ b.list.block));
    }

module _ (world after : World) (used : (block : ℕ) → world.used block ≡ true → after.used block ≡ true) (journal : (won : Won) → Among won world.journal → Among won after.journal) where
  -- an entry that took effect stays so
  pub took_stays : (list : Listed) (j : ℕ) → Took world list j → Took after list j
  took_stays list j t = record { entry = t.entry; cause = t.cause; listed = t.listed; won = journal _ t.won }

  -- no change was made
  pub made_stay : after.changes ≡ world.changes → AreMade world → AreMade after
  made_stay same made =
      record {
        took = λ change a. took_stays change.list 0 (made.took change (subst (Among change) same a));
        blocks = λ change a. used change.list.block (made.blocks change (subst (Among change) same a));
        lists_differ = subst (AllPairs (λ (a b : Change). a.list.identity ≢ b.list.identity)) (sym same) made.lists_differ;
        blocks_differ = subst (AllPairs (λ (a b : Change). 0 < a.list.block → a.list.block ≢ b.list.block)) (sym same) made.blocks_differ;
      }

  -- one more change, by a list that had not taken effect, with a block that was not used
  pub made_more : AreMade world → (change : Change) → after.changes ≡ change ∷ world.changes → IsFresh world change.list → Took after change.list 0
      → after.used change.list.block ≡ true → (0 < change.list.block → world.used change.list.block ≡ false) → AreMade after
  made_more made change same fresh took own unused =
      record {
        took = each_more (λ (c : Change). Took after c.list 0) change world.changes after.changes same took (λ c a. took_stays c.list 0 (made.took c a));
        blocks = each_more (λ (c : Change). after.used c.list.block ≡ true) change world.changes after.changes same own (λ c a. used c.list.block (made.blocks c a));
        lists_differ = pairs_more (λ (a b : Change). a.list.identity ≢ b.list.identity) change world.changes after.changes same (λ b a e. fresh b.list 0 (sym e) (made.took b a)) made.lists_differ;
        blocks_differ = pairs_more (λ (a b : Change). 0 < a.list.block → a.list.block ≢ b.list.block) change world.changes after.changes same
            (λ b a some e. true≢false (sym (made.blocks b a) ∙ ap world.used (sym e) ∙ unused some)) made.blocks_differ;
      }
