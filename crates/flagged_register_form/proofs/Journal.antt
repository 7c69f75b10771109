-- Which list set a flag, by the journal.
use Rattle.std.proofs.Common.{◌≡◌, ℕ, zero, List, [], ◌∷◌, Option, refl, sym, ap, subst, ◌∙◌, inl, inr}
use Rattle.std.specs.Prelude.{◌==◌, slice_get, Some}
use Rattle.std.proofs.lemmas.Bool.{eq-eqb, eqb-true, cond_both}
use Rattle.normal_traits.specs.declared.lists.Entry.{Entry}
use Rattle.normal_traits.specs.World.{Listed, Maker, Won, World, Among, Took}
use Rattle.normal_traits.specs.World.Maker.{By}
use Rattle.flagged_register_form.specs.Register.{flag_entry}
use Rattle.flagged_register_form.specs.Meanings.{Flagged, Shape, IsBy, flag_won, cause_here, flagger, flagger_or}

-- ---- a list that set the flag

pub took_of : (world : World) (list : Listed) → Flagged world list → Took world list 0
took_of world list flagged = record {
  entry = flag_entry flagged.from list.block;
  cause = cause_here list.block 0;
  listed = ap (λ (entries : List Entry). slice_get entries 0) flagged.entries;
  won = flagged.won;
}

flagged_by : (world : World) (list : Listed) (j : ℕ) (item : Won) → Among item world.journal → IsBy item (By list j) → Flagged world list
flagged_by world list j item among by = record { from = item.before; entries = by.1; won = subst (λ (w : Won). Among w world.journal) by.0 among }

pub flagged_item : (world : World) (list : Listed) (j : ℕ) (item : Won) → Shape world → Among item world.journal → item.maker ≡ By list j → Flagged world list
flagged_item world list j item shape among e = flagged_by world list j item among (subst (IsBy item) e (shape.items item among))

pub flagged_of : (world : World) (list : Listed) (j : ℕ) → Shape world → Took world list j → Flagged world list
flagged_of world list j shape took = flagged_item world list j _ shape took.won refl

-- ---- the search through the journal

-- what it finds set a flag with this block
found_flagged : (world : World) (block : ℕ) (list : Listed) (journal : List Won) → Shape world → ((item : Won) → Among item journal → Among item world.journal) → flagger block journal ≡ Some list
    → Flagged world list × (list.block ≡ block)
found_flagged world block list [] shape all = λ e. absurd cc
found_flagged world block list (won ∷ older) shape all = by_maker won.maker refl (found_flagged world block list older shape (λ item a. all item (inr a)))
  where
    IsRight : Option Listed → Type 0
    IsRight found = found ≡ Some list → Flagged world list × (list.block ≡ block)

    by_maker : (maker : Maker) → won.maker ≡ maker → IsRight (flagger block older) → IsRight (flagger_or block maker (flagger block older))
    by_maker (By other zero) is rest =
        cond_both (other.block == block) (Some other) (flagger block older) IsRight
        (λ same e. let one : other ≡ list = cc in (subst (Flagged world) one (flagged_item world other 0 won shape (all won (inl refl)) is), sym (ap (λ (x : Listed). x.block) one) ∙ eqb-true other.block block same)) (λ differs. rest)
    by_maker _ is rest = rest

-- it finds one where a list with this block set the flag
some_found : (list : Listed) (item : Won) (journal : List Won) → item.maker ≡ By list 0 → Among item journal → (found : Listed) × (flagger list.block journal ≡ Some found)
some_found list item [] made among = absurd among
some_found list item (won ∷ older) made (inl same) = by_maker won.maker (sym made ∙ ap (λ (w : Won). w.maker) same)
  where
    by_maker : (maker : Maker) → By list 0 ≡ maker → (found : Listed) × (flagger_or list.block maker (flagger list.block older) ≡ Some found)
    by_maker (By other zero) is = let one : other ≡ list = cc in (other, rw (eq-eqb other.block list.block (ap (λ (x : Listed). x.block) one)) refl)
    by_maker _ is = absurd cc
some_found list item (won ∷ older) made (inr among) = by_maker won.maker (some_found list item older made among)
  where
    by_maker : (maker : Maker) → (found : Listed) × (flagger list.block older ≡ Some found) → (found : Listed) × (flagger_or list.block maker (flagger list.block older) ≡ Some found)
    by_maker (By other zero) rest = cond_both (other.block == list.block) (Some other) (flagger list.block older) (λ o. (found : Listed) × (o ≡ Some found)) (λ same. (other, refl)) (λ differs. rest)
    by_maker _ rest = rest

-- so it finds the list of a block that set the flag
pub flagger_is : (world : World) (list : Listed) → Shape world → Flagged world list → flagger list.block world.journal ≡ Some list
flagger_is world list shape flagged =
    let found = some_found list (flag_won list flagged.from) world.journal refl flagged.won in
    let is = found_flagged world list.block found.0 world.journal shape (λ item a. a) found.1 in
    found.1 ∙ ap Some (shape.same_block found.0 list is.0 flagged is.1)

-- and what is found set it
pub flagger_flagged : (world : World) (block : ℕ) (list : Listed) → Shape world → flagger block world.journal ≡ Some list → Flagged world list
flagger_flagged world block list shape e = (found_flagged world block list world.journal shape (λ item a. a) e).0
