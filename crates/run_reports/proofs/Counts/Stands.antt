-- Changes that stand over older ones.
use Rattle.std.proofs.Common.{◌≡◌, ◌∙◌, refl, sym, subst, ap, ℕ, suc, ◌-◌, ◌<◌, ◌≤◌, ◌⊎◌, List, [], ◌∷◌, ◌++◌, drop, length, length-append, inl, inr, arith}
use Rattle.std.proofs.lemmas.List.{append_assoc}
use Rattle.normal_traits.specs.World.{Change, Among, first_changes}
use Rattle.run_exchanges.proofs.Tells.Values.{among_split}
use Rattle.run_reports.specs.Endings.{StandsOver}

-- what is behind some is among them
pub among_front : {X : Type 0} (x : X) (front rest : List X) → Among x (front ++ x ∷ rest)
among_front x [] rest = inl refl
among_front x (y ∷ front) rest = inr (among_front x front rest)

pub none_made : {A X : Type 0} (front rest : List X) (x : X) → [] ≡ front ++ x ∷ rest → A
none_made [] rest x is = absurd (cc)
none_made (y ∷ front) rest x is = absurd (cc)

-- the first changes are the same with others in front
pub first_after : (count : ℕ) (newer changes : List Change) → count ≤ length changes → first_changes count (newer ++ changes) ≡ first_changes count changes
first_after count [] changes few = refl
first_after count (change ∷ newer) changes few =
    let more : length (change ∷ newer ++ changes) - count ≡ suc (length (newer ++ changes) - count) = omega (arith, length-append newer changes, few) in
    ap (λ n. drop n (change ∷ newer ++ changes)) more ∙ first_after count newer changes few

-- ---- changes that stand over others

-- what stands over others is among all
pub stands_among : (changes : List Change) (change : Change) (older : List Change) → StandsOver changes change older → Among change changes
stands_among changes change older stands = subst (Among change) (sym stands.1) (among_front change stands.0 older)

-- and what is among all stands over others
pub among_stands : (changes : List Change) (change : Change) → Among change changes → (older : List Change) × StandsOver changes change older
among_stands changes change among = let at = among_split change changes among in (at.1, (at.0, at.2))

-- it stands there with more in front
pub stands_more : (changes more before : List Change) (change : Change) (older : List Change) → changes ≡ more ++ before → StandsOver before change older → StandsOver changes change older
stands_more changes more before change older is stands =
    (more ++ stands.0, is ∙ ap (λ l. more ++ l) stands.1 ∙ sym (append_assoc more stands.0 (change ∷ older)))

-- it is the first, or stands in the rest
pub stands_in : (x : Change) (xs : List Change) (change : Change) (older : List Change) → StandsOver (x ∷ xs) change older → ((change ≡ x) × (older ≡ xs)) ⊎ StandsOver xs change older
stands_in x xs change older stands =
    at_front stands.0 stands.1
  where
    at_front : (newer : List Change) → x ∷ xs ≡ newer ++ change ∷ older → ((change ≡ x) × (older ≡ xs)) ⊎ StandsOver xs change older
    at_front [] is = let first : change ≡ x = cc in let rest : older ≡ xs = cc in inl (first, rest)
    at_front (y ∷ ys) is = let rest : xs ≡ ys ++ change ∷ older = cc in inr (ys, rest)

-- there are fewer changes before it than there are
pub stands_below : (changes : List Change) (change : Change) (older : List Change) → StandsOver changes change older → length older < length changes
stands_below changes change older stands =
    let long : length changes ≡ length (stands.0 ++ change ∷ older) = ap length stands.1 in
    omega (arith, long, length-append stands.0 (change ∷ older))
