-- The first file with a name is the one at the first place where the name stands.
use Rattle.std.proofs.Common.{◌≡◌, ◌≤◌, ℕ, ◌+◌, Bool, true, false, cond, Option, Some, None, List, [], ◌∷◌, ◌++◌, length, map, drop, refl, sym, ap, ◌∙◌, subst, append_assoc, length-append}
use Rattle.std.specs.List.{slice_get, position_from}
use Rattle.std.specs.Option.{IsSome, option_map_or, unwrap_or}
use Rattle.std.specs.Str.{bytes_eq}
use Rattle.std.proofs.lemmas.Option.{none-some, same_Some, slice_get_past}
use Rattle.whole_files.specs.Outside.{first_named}

slice_get_seam : {X : Type 0} (done : List X) (x : X) (xs : List X) → slice_get (done ++ x ∷ xs) (length done) ≡ Some x
slice_get_seam [] x xs = refl
slice_get_seam (d ∷ done) x xs = slice_get_seam done x xs

module _ {X : Type 0} (name_of bytes_of : X → List ℕ) (name : List ℕ) where
  -- the bytes under the name
  abbrev pub named : List X → Option (List ℕ)
  named files = first_named name (map (λ file. (name_of file, bytes_of file)) files)

  abbrev pub has_name : X → Bool
  has_name file = bytes_eq (name_of file) name

  -- the file at a place has the bytes under the name
  pub record StandsAt (all files : List X) (k : ℕ) : Type 0 where
    pub file : X
    pub there : slice_get all k ≡ Some file
    pub first : named files ≡ Some (bytes_of file)

  -- where the name stands first, its bytes are those of the file there
  pub named_at : (done files : List X) (k : ℕ) → position_from has_name (length done) files ≡ Some k → StandsAt (done ++ files) files k
  named_at done [] k e = absurd (none-some k e)
  named_at done (x ∷ xs) k e =
      let P : Bool → Option ℕ → Option (List ℕ) → Type 0 = λ b o n. o ≡ Some k → (file : X) × (slice_get (done ++ x ∷ xs) k ≡ Some file) × (n ≡ Some (bytes_of file)) in
      let found : (b : Bool) → P b (cond b (Some (length done)) (position_from has_name (length done + 1) xs)) (cond b (Some (bytes_of x)) (named xs)) =
      λ b. elim b as (λ b. P b (cond b (Some (length done)) (position_from has_name (length done + 1) xs)) (cond b (Some (bytes_of x)) (named xs))) [
        | true ↦ λ h. (x, subst (λ j. slice_get (done ++ x ∷ xs) j ≡ Some x) (same_Some (length done) k h) (slice_get_seam done x xs), refl)
        | false ↦ λ h.
            let here : position_from has_name (length (done ++ x ∷ [])) xs ≡ Some k = rw (length-append done (x ∷ [])) h in
            let at = named_at (done ++ x ∷ []) xs k here in
            (at.file, subst (λ all. slice_get all k ≡ Some at.file) (append_assoc done (x ∷ []) xs) at.there, at.first)
      ] in
      let it = found (has_name x) e in
      record { file = it.0; there = it.1; first = it.2 }

  -- where it stands nowhere there are none
  pub named_nowhere : (files : List X) (i : ℕ) → position_from has_name i files ≡ None → named files ≡ None
  named_nowhere [] i e = refl
  named_nowhere (x ∷ xs) i e =
      let found : (b : Bool) → cond b (Some i) (position_from has_name (i + 1) xs) ≡ None → cond b (Some (bytes_of x)) (named xs) ≡ None =
      λ b. elim b as (λ b. cond b (Some i) (position_from has_name (i + 1) xs) ≡ None → cond b (Some (bytes_of x)) (named xs) ≡ None) [
        | true ↦ λ h. absurd (none-some i (sym h))
        | false ↦ λ h. named_nowhere xs (i + 1) h
      ] in
      found (has_name x) e

  -- what is left of the file at the first place with the name
  pub rest_at : (files : List X) (k : ℕ) → position_from has_name 0 files ≡ Some k → option_map_or (λ file. drop 0 (bytes_of file)) (slice_get files k) [] ≡ unwrap_or (named files) []
  rest_at files k e =
      let at = named_at [] files k e in
      ap (λ o. option_map_or (λ file. drop 0 (bytes_of file)) o []) at.there ∙ sym (ap (λ o. unwrap_or o []) at.first)

  pub is_named_at : (files : List X) (k : ℕ) → position_from has_name 0 files ≡ Some k → IsSome (named files)
  is_named_at files k e = let at = named_at [] files k e in subst (λ o. IsSome o) (sym at.first) refl

  -- with no file chosen nothing is left
  pub rest_nowhere : (files : List X) (k : ℕ) → length files ≤ k → position_from has_name 0 files ≡ None → option_map_or (λ file. drop 0 (bytes_of file)) (slice_get files k) [] ≡ unwrap_or (named files) []
  rest_nowhere files k past e =
      ap (λ o. option_map_or (λ file. drop 0 (bytes_of file)) o []) (slice_get_past files k past)
      ∙ sym (ap (λ o. unwrap_or o []) (named_nowhere files 0 e))
