-- The members of a word beside its seats: whether a seat was named is read off in one look.
use Rattle.std.proofs.Common.{◌≡◌, ℕ, zero, suc, ◌-◌, ◌<◌, true, false, Bool, List, [], ◌∷◌, ◌++◌, length, get_or, take, drop, refl, ap, sym, ◌∙◌, subst, arith, inl, inr, nat_lt}
use Rattle.std.specs.Prelude.{slice_set, nat_le, ◌&&◌, ◌||◌, not, ◌==◌, if◌then◌else◌, slice_index}
use Rattle.std.specs.List.{list_any}
use Rattle.std.proofs.lemmas.Bool.{and_parts, cases_Bool, cases_eq, eq-eqb, leb-true, ltb-true, ne_eqb}
use Rattle.std.proofs.lemmas.List.{get_or-set_other, get_or-set_same}
use Rattle.std.proofs.lemmas.List.Folds.{list_any-append}
use Rattle.word_fields.proofs.SeatsOfQueueWords.{length-places_of, read_last, read_more, read_start}
use Rattle.word_fields.specs.Seats.{AreMembers, names_another, places_of, queue_seats, seats_named}

abbrev pub no_members : List Bool
no_members = false ∷ false ∷ false ∷ false ∷ false ∷ false ∷ false ∷ false ∷ []

-- at first no seat is one
pub none_yet : AreMembers no_members []
none_yet zero few = refl
none_yet (suc zero) few = refl
none_yet (suc (suc zero)) few = refl
none_yet (suc (suc (suc zero))) few = refl
none_yet (suc (suc (suc (suc zero)))) few = refl
none_yet (suc (suc (suc (suc (suc zero))))) few = refl
none_yet (suc (suc (suc (suc (suc (suc zero)))))) few = refl
none_yet (suc (suc (suc (suc (suc (suc (suc zero))))))) few = refl
none_yet (suc (suc (suc (suc (suc (suc (suc (suc seat)))))))) few = absurd (omega arith)

-- a place that names a seat names one below 8
pub real : (seats : List ℕ) (place : ℕ) → names_another seats place ≡ true → place - 1 < 8
real seats place named =
    let range = (and_parts (nat_lt 0 place && nat_le place 8) (not (list_any (λ s. s == place - 1) seats)) named).0 in
    let low = ltb-true 0 place (and_parts (nat_lt 0 place) (nat_le place 8) range).0 in
    let high = leb-true place 8 (and_parts (nat_lt 0 place) (nat_le place 8) range).1 in
    omega (arith, low, high)

module _ (members : List Bool) (seats : List ℕ) (are : AreMembers members seats) where
  -- a place names another seat where its seat is no member
  pub another_is : (place : ℕ) → nat_lt 0 place && nat_le place 8 && not (get_or members (place - 1) false) ≡ names_another seats place
  another_is place =
      let range = nat_lt 0 place && nat_le place 8 in
      elim (cases_Bool range) [
        | inl within ↦ (
            let low = ltb-true 0 place (and_parts (nat_lt 0 place) (nat_le place 8) within).0 in
            let high = leb-true place 8 (and_parts (nat_lt 0 place) (nat_le place 8) within).1 in
            ap (λ b. range && not b) (are (place - 1) (omega (arith, low, high))))
        | inr out ↦ ap (λ r. r && not (get_or members (place - 1) false)) out ∙ ap (λ r. r && not (list_any (λ s. s == place - 1) seats)) (sym out)
      ]

  -- with one more seat
  pub one_more : (s : ℕ) → s < length members → AreMembers (slice_set members s true) (seats ++ s ∷ [])
  one_more s within seat few =
      let is_it = λ (t : ℕ). t == seat in
      let any = list_any-append is_it seats (s ∷ []) in
      elim (cases_eq s seat) [
        | inl same ↦ subst (λ t. get_or (slice_set members s true) t false ≡ list_any is_it (seats ++ s ∷ [])) same
            (get_or-set_same members s true false within ∙ sym (any ∙ ap (λ b. list_any is_it seats || (b || false)) (eq-eqb s seat same) ∙ with_true (list_any is_it seats)))
        | inr other ↦ get_or-set_other members s seat true false (λ e. other (sym e)) ∙ are seat few
            ∙ sym (any ∙ ap (λ b. list_any is_it seats || (b || false)) (ne_eqb s seat other) ∙ with_false (list_any is_it seats))
      ]
    where
      with_true : (b : Bool) → (b || true) ≡ true
      with_true true = refl
      with_true false = refl

      with_false : (b : Bool) → (b || false) ≡ b
      with_false true = refl
      with_false false = refl

-- seats that were named stay the first
named_first : (s : ℕ) (before places : List ℕ) → take 1 (seats_named (s ∷ before) places) ≡ s ∷ []
unfolding seats_named
named_first s before [] = refl
named_first s before (place ∷ places) =
    elim (cases_Bool (names_another (s ∷ before) place)) [
      | inl named ↦ ap (λ b. take 1 (if b then seats_named (s ∷ (before ++ (place - 1) ∷ [])) places else s ∷ before)) named ∙ named_first s (before ++ (place - 1) ∷ []) places
      | inr none ↦ ap (λ b. take 1 (if b then seats_named (s ∷ (before ++ (place - 1) ∷ [])) places else s ∷ before)) none
    ]

module _ (w place : ℕ) (at : place ≡ slice_index (places_of w) 0) where
  inside : 0 < length (places_of w)
  inside = omega (arith, length-places_of w)

  -- the head is the seat that the first place names
  pub head_named : names_another [] place ≡ true → (place - 1) ∷ [] ≡ take 1 (queue_seats w)
  head_named named =
      ap (λ p. (p - 1) ∷ []) at
      ∙ sym (ap (take 1) (sym (read_start w) ∙ read_more w 0 [] inside (subst (λ p. names_another [] p ≡ true) at named)) ∙ named_first (slice_index (places_of w) 0 - 1) [] (drop 1 (places_of w)))

  -- and there is none where that names none
  pub head_missing : names_another [] place ≡ false → [] ≡ take 1 (queue_seats w)
  head_missing none = sym (ap (take 1) (sym (read_start w) ∙ read_last w 0 [] inside (subst (λ p. names_another [] p ≡ false) at none)))
