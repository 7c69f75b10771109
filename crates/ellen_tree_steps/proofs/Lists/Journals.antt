-- The journal, the flags and the causes after a step that exchanged nothing, or beside the lists.
use Rattle.std.proofs.Common.{◌≡◌, ◌≢◌, ℕ, zero, suc, refl, sym, ap, subst, ◌∙◌, inl, inr}
use Rattle.std.specs.Prelude.{AllPairs}
use Rattle.normal_traits.specs.World.{Listed, Maker, Won, Cause, World, Among}
use Rattle.normal_traits.specs.World.Maker.{By, Beside}
use Rattle.ellen_tree_form.specs.Shape.{Shape, Flagged, IsFlagger, IsBy, IsSpent, IsOver, flag_won, cause_here}
use Rattle.ellen_tree_form.proofs.Steps.Later.{Later}
use Rattle.ellen_tree_form.proofs.Steps.Spares.{Spares}
use Rattle.ellen_tree_form.proofs.Helps.FollowedStays.{flagged_later}
use Rattle.ellen_tree_steps.specs.Effects.{IsBeside}
use Rattle.ellen_tree_steps.proofs.Lists.Made.{spent_later}
use Rattle.client_lemmas.proofs.Growing.{each_more, pairs_more}

-- what the shape says of flags
pub record Flags (world : World) : Type 0 where
  pub items : (won : Won) → Among won world.journal → IsBy world won won.maker
  pub flaggers : (list : Listed) (flagged : Flagged world list) → IsFlagger world list flagged.node flagged.from
  pub same_identity : (a b : Listed) → Flagged world a → Flagged world b → a.identity ≡ b.identity → a ≡ b
  pub same_block : (a b : Listed) → Flagged world a → Flagged world b → a.block ≡ b.block → a ≡ b

-- and of causes
pub record Causes (world : World) : Type 0 where
  pub spent : (won : Won) → Among won world.journal → IsSpent world won.cause
  pub differ : AllPairs (λ (a b : Won). a.cause ≢ b.cause) world.journal

-- whose item it is doesn't depend on the world
pub by_still : (world after : World) (won : Won) (maker : Maker) → IsBy world won maker → IsBy after won maker
by_still world after won (By list zero) is = is
by_still world after won (By list (suc j)) is = absurd is
by_still world after won Beside is = tt

-- what sets a flag isn't beside the lists
index_of : Maker → ℕ
index_of (By list j) = zero
index_of Beside = suc zero

by_differs : (list : Listed) (j : ℕ) → By list j ≢ Beside
unfolding index_of
by_differs list j e = let e' : zero ≡ suc zero = ap index_of e in absurd cc

module _ (world after : World) (shape : Shape world) where
  -- each list that set a flag, where all did before
  flags_by : ((node from : ℕ) (list : Listed) → Among (flag_won node from list) after.journal → Among (flag_won node from list) world.journal) → ((won : Won) → Among won after.journal → IsBy after won won.maker)
      → ((list : Listed) (flagged : Flagged world list) → IsFlagger after list flagged.node flagged.from) → Flags after
  flags_by before items each = record {
    items = items;
    flaggers = λ list f. each list (record { node = f.node; from = f.from; entries = f.entries; won = before f.node f.from list f.won });
    same_identity = λ a b fa fb e. shape.same_identity a b (record { node = fa.node; from = fa.from; entries = fa.entries; won = before fa.node fa.from a fa.won }) (record { node = fb.node; from = fb.from; entries = fb.entries; won = before fb.node fb.from b fb.won }) e;
    same_block = λ a b fa fb e. shape.same_block a b (record { node = fa.node; from = fa.from; entries = fa.entries; won = before fa.node fa.from a fa.won }) (record { node = fb.node; from = fb.from; entries = fb.entries; won = before fb.node fb.from b fb.won }) e;
  }

  -- ---- nothing was exchanged

  module _ (l : Later world after) (s : Spares world after) (journal : after.journal ≡ world.journal) where
    pub quiet_flags : ((list : Listed) (flagged : Flagged world list) → IsFlagger after list flagged.node flagged.from) → Flags after
    quiet_flags each =
        flags_by (λ node from list among. subst (Among (flag_won node from list)) journal among) (λ won among. by_still world after won won.maker (shape.items won (subst (Among won) journal among))) each

    pub quiet_causes : Causes after
    quiet_causes = record {
      spent = λ won among. spent_later world after shape l s won.cause (shape.spent won (subst (Among won) journal among));
      differ = subst (AllPairs (λ (a b : Won). a.cause ≢ b.cause)) (sym journal) shape.causes_differ;
    }

  -- ---- an exchange beside the lists

  module _ (l : Later world after) (s : Spares world after) (list : Listed) (kind place to : ℕ) (x : IsBeside world after list kind place to) where
    pub beside_flags : ((other : Listed) (flagged : Flagged world other) → IsFlagger after other flagged.node flagged.from) → Flags after
    beside_flags each =
        flags_by before (each_more (λ (w : Won). IsBy after w w.maker) x.item world.journal after.journal x.journal (subst (IsBy after x.item) (sym x.maker) tt) (λ won old. by_still world after won won.maker (shape.items won old))) each
      where
        before : (node from : ℕ) (other : Listed) → Among (flag_won node from other) after.journal → Among (flag_won node from other) world.journal
        before node from other among = elim (subst (Among (flag_won node from other)) x.journal among) [
          | inl same ↦ absurd (by_differs other 0 (ap (λ (w : Won). w.maker) same ∙ x.maker))
          | inr old ↦ old
        ]

    -- its cause is new, where it wasn't over
    pub beside_causes : Flagged world list → (IsOver world list kind → ⊥) → IsOver after list kind → Causes after
    beside_causes flagged yet over = record {
      spent = each_more (λ (w : Won). IsSpent after w.cause) x.item world.journal after.journal x.journal
          (subst (IsSpent after) (sym x.cause) (record { list = list; flagged = flagged_later world after shape l s list flagged; block = refl; over = over })) (λ won old. spent_later world after shape l s won.cause (shape.spent won old));
      differ = pairs_more (λ (a b : Won). a.cause ≢ b.cause) x.item world.journal after.journal x.journal apart shape.causes_differ;
    }
      where
        apart : (old : Won) → Among old world.journal → x.item.cause ≢ old.cause
        apart old among e =
            let spent = shape.spent old among in
            let cause : old.cause ≡ cause_here list.block kind = sym e ∙ x.cause in
            let same : spent.list ≡ list = shape.same_block spent.list list spent.flagged flagged (spent.block ∙ ap (λ (c : Cause). c.block) cause) in
            yet (subst (λ (y : Listed). IsOver world y kind) same (subst (IsOver world spent.list) (ap (λ (c : Cause). c.kind) cause) spent.over))
