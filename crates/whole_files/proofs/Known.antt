-- What one call after another does to known bytes.
use Rattle.std.proofs.Common.{◌≡◌, ℕ, ◌≤◌, Option, Some, None, List, [], ◌++◌, length, take, refl, sym, ap, ◌∙◌, append_assoc, append-nil, subst, IfSome, IsSomeAnd}
use Rattle.std.proofs.Math.Seq.{take-append_seam}
use Rattle.std.proofs.lemmas.List.{nil_from_length, take_all}
use Rattle.std.specs.Io.KnownBytes.{Appends, Consumes, Keeps, IsAtEnd}

pub Appends-then : (a b c : Option (List ℕ)) (xs ys : List ℕ) → Appends a b xs → Appends b c ys → Appends a c (xs ++ ys)
Appends-then None b c xs ys p q = p
Appends-then (Some a) None c xs ys p q = absurd p
Appends-then (Some a) (Some b) None xs ys p q = q
Appends-then (Some a) (Some b) (Some c) xs ys p q = q ∙ ap (λ v. v ++ ys) p ∙ append_assoc a xs ys

pub Appends-then_keeps : (a b c : Option (List ℕ)) (xs : List ℕ) → Appends a b xs → Keeps b c → Appends a c xs
Appends-then_keeps None b c xs p q = p
Appends-then_keeps (Some a) None c xs p q = absurd p
Appends-then_keeps (Some a) (Some b) None xs p q = q
Appends-then_keeps (Some a) (Some b) (Some c) xs p q = q ∙ p

pub Appends-nothing : (a : Option (List ℕ)) → Appends a a []
Appends-nothing None = tt
Appends-nothing (Some a) = sym (append-nil a)

pub Consumes-then : (a b c : Option (List ℕ)) (xs ys : List ℕ) → Consumes a b xs → Consumes b c ys → Consumes a c (xs ++ ys)
Consumes-then None b c xs ys p q = p
Consumes-then (Some a) None c xs ys p q = absurd p
Consumes-then (Some a) (Some b) None xs ys p q = q
Consumes-then (Some a) (Some b) (Some c) xs ys p q = p ∙ ap (λ v. xs ++ v) q ∙ sym (append_assoc xs ys c)

pub Consumes-nothing : (a : Option (List ℕ)) → Consumes a a []
Consumes-nothing None = tt
Consumes-nothing (Some a) = refl

-- as many known bytes as were wanted were read
pub Consumes-wanted : (old new : Option (List ℕ)) (bytes : List ℕ) (n : ℕ) → Consumes old new bytes → length bytes ≡ n → IfSome old (λ left. bytes ≡ take n left)
Consumes-wanted None new bytes n p e = tt
Consumes-wanted (Some left) None bytes n p e = absurd p
Consumes-wanted (Some left) (Some rest) bytes n p e = sym (ap (take n) p ∙ ap (λ k. take k (bytes ++ rest)) (sym e) ∙ take-append_seam bytes rest)

-- all known bytes were read, fewer than were wanted
pub Consumes-to_end : (old mid new : Option (List ℕ)) (bytes more : List ℕ) (n : ℕ) → Consumes old mid bytes → Consumes mid new more → IsAtEnd new → length more ≡ 0 → length bytes ≤ n → IfSome old (λ left. bytes ≡ take n left)
Consumes-to_end None mid new bytes more n p q end none le = tt
Consumes-to_end (Some left) None new bytes more n p q end none le = absurd p
Consumes-to_end (Some left) (Some mid) None bytes more n p q end none le = absurd q
Consumes-to_end (Some left) (Some mid) (Some new) bytes more n p q end none le =
    let all : left ≡ bytes = p ∙ ap (λ v. bytes ++ v) (q ∙ ap (λ v. v ++ new) (nil_from_length more none) ∙ end) ∙ append-nil bytes in
    sym (ap (take n) all ∙ take_all n bytes le)

-- what holds of what is left of a file holds of the bytes that are held, where all of them are left
pub held-left : (P : List ℕ → Type 0) (held left : Option (List ℕ)) → IsSomeAnd held (λ bytes. left ≡ Some bytes) → IfSome left P → IsSomeAnd held P
held-left P None left all h = all
held-left P (Some bytes) left all h = subst (λ o. IfSome o P) all h
