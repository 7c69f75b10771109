-- Which list set a flag, by the journal.
use Rattle.std.proofs.Common.{◌≡◌, ◌≢◌, ℕ, zero, suc, Bool, true, false, List, [], ◌∷◌, Option, refl, sym, ap, subst, ◌∙◌, inl, inr, ◌⊎◌, arith}
use Rattle.std.specs.Prelude.{◌==◌, if◌then◌else◌, slice_get, Some, None}
use Rattle.std.proofs.lemmas.Bool.{eq-eqb, eqb-true}
use Rattle.normal_traits.specs.declared.lists.Entry.{Entry}
use Rattle.normal_traits.specs.World.{Listed, Maker, Won, World, Among, Took}
use Rattle.normal_traits.specs.World.Maker.{By, Beside}
use Rattle.ellen_tree_form.specs.Shape.{Flagged, Shape, IsBy, flag_won, flags_at, cause_here, flagger, flagger_or}

-- ---- a list that set the flag

pub took_of : (world : World) (list : Listed) → Flagged world list → Took world list 0
took_of world list flagged = record {
  entry = flags_at flagged.node flagged.from list;
  cause = cause_here list.block 0;
  listed = ap (λ (entries : List Entry). slice_get entries 0) flagged.entries;
  won = flagged.won;
}

flagged_by : (world : World) (list : Listed) (j : ℕ) (item : Won) → Among item world.journal → IsBy world item (By list j) → Flagged world list
flagged_by world list zero item among by = record { node = by.0; from = by.1; entries = by.3; won = subst (λ (w : Won). Among w world.journal) by.2 among }
flagged_by world list (suc j) item among by = absurd by

pub flagged_item : (world : World) (list : Listed) (j : ℕ) (item : Won) → Shape world → Among item world.journal → item.maker ≡ By list j → Flagged world list
flagged_item world list j item shape among e = flagged_by world list j item among (subst (IsBy world item) e (shape.items item among))

pub flagged_of : (world : World) (list : Listed) (j : ℕ) → Shape world → Took world list j → Flagged world list
flagged_of world list j shape took = flagged_item world list j _ shape took.won refl

-- what the search through the journal finds
record IsFound (block : ℕ) (journal : List Won) (found : Option Listed) : Type 0 where
  list : Listed
  some : found ≡ Some list
  same : list.block ≡ block
  item : Won
  among : Among item journal
  made : item.maker ≡ By list 0

abbrev NoneFound : ℕ → List Won → Option Listed → Type 0
NoneFound block journal found = (found ≡ None) × ((item : Won) (list : Listed) → Among item journal → item.maker ≡ By list 0 → list.block ≢ block)

found_older : (block : ℕ) (won : Won) (older : List Won) (found : Option Listed) → IsFound block older found → IsFound block (won ∷ older) found
found_older block won older found f = record { list = f.list; some = f.some; same = f.same; item = f.item; among = inr f.among; made = f.made }

none_older : (block : ℕ) (won : Won) (older : List Won) (found : Option Listed) → NoneFound block older found → ((list : Listed) → won.maker ≡ By list 0 → list.block ≢ block) → NoneFound block (won ∷ older) found
none_older block won older found none here = (none.0, λ item list among made. by_place list among made)
  where
    by_place : {item : Won} (list : Listed) → Among item (won ∷ older) → item.maker ≡ By list 0 → list.block ≢ block
    by_place {item} list (inl same) made = here list (ap (λ (w : Won). w.maker) (sym same) ∙ made)
    by_place {item} list (inr among) made = none.1 item list among made

-- the list of a maker
abbrev list_or : Listed → Maker → Listed
list_or other (By list j) = list
list_or other Beside = other

abbrev index_or : Maker → ℕ
index_or (By list j) = j
index_or Beside = 1

found_in : (block : ℕ) (journal : List Won) → NoneFound block journal (flagger block journal) ⊎ IsFound block journal (flagger block journal)
found_in block [] = inl (refl, λ item list among made. absurd among)
found_in block (won ∷ older) = by_maker won.maker refl (found_in block older)
  where
    by_maker : (maker : Maker) → won.maker ≡ maker → NoneFound block older (flagger block older) ⊎ IsFound block older (flagger block older)
        → NoneFound block (won ∷ older) (flagger_or block maker (flagger block older)) ⊎ IsFound block (won ∷ older) (flagger_or block maker (flagger block older))
    by_maker (By list zero) e rest = by_test (list.block == block) refl rest
      where
        by_test : (b : Bool) → (list.block == block) ≡ b → NoneFound block older (flagger block older) ⊎ IsFound block older (flagger block older)
            → NoneFound block (won ∷ older) (if b then Some list else flagger block older) ⊎ IsFound block (won ∷ older) (if b then Some list else flagger block older)
        by_test true same rest' = inr (record { list = list; some = refl; same = eqb-true list.block block same; item = won; among = inl refl; made = e })
        by_test false same (inr f) = inr (found_older block won older _ f)
        by_test false same (inl none) =
            inl (none_older block won older _ none (λ other made equal.
            let one : other.block ≡ list.block = ap (λ (m : Maker). (list_or other m).block) (sym made ∙ e) in
            let yes' : (list.block == block) ≡ true = eq-eqb list.block block (sym one ∙ equal) in
            absurd cc))
    by_maker (By list (suc j)) e (inr f) = inr (found_older block won older _ f)
    by_maker (By list (suc j)) e (inl none) = inl (none_older block won older _ none (λ other made equal. absurd (omega (arith, ap index_or (sym made ∙ e)))))
    by_maker Beside e (inr f) = inr (found_older block won older _ f)
    by_maker Beside e (inl none) = inl (none_older block won older _ none (λ other made equal. absurd (omega (arith, ap index_or (sym made ∙ e)))))

-- the list of a block that set the flag is found
pub flagger_is : (world : World) (list : Listed) → Shape world → Flagged world list → flagger list.block world.journal ≡ Some list
flagger_is world list shape flagged = by_cases (found_in list.block world.journal)
  where
    by_cases : NoneFound list.block world.journal (flagger list.block world.journal) ⊎ IsFound list.block world.journal (flagger list.block world.journal) → flagger list.block world.journal ≡ Some list
    by_cases (inl none) = absurd (none.1 (flag_won flagged.node flagged.from list) list flagged.won refl refl)
    by_cases (inr f) = f.some ∙ ap Some (shape.same_block f.list list (flagged_item world f.list 0 f.item shape f.among f.made) flagged f.same)

-- and what is found set it
pub flagger_flagged : (world : World) (block : ℕ) (list : Listed) → Shape world → flagger block world.journal ≡ Some list → Flagged world list
flagger_flagged world block list shape e = by_cases (found_in block world.journal)
  where
    or_list : Option Listed → Listed
    or_list None = list
    or_list (Some x) = x

    by_cases : NoneFound block world.journal (flagger block world.journal) ⊎ IsFound block world.journal (flagger block world.journal) → Flagged world list
    by_cases (inl none) = absurd cc
    by_cases (inr f) = subst (Flagged world) (ap or_list (sym f.some ∙ e)) (flagged_item world f.list 0 f.item shape f.among f.made)
