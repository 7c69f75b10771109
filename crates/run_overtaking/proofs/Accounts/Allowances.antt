-- What the other seats are allowed while a call waits is within the bound: the places of the seats ahead are 0, 1, 2 .., each
-- once, and each of them is taken off once.
use Rattle.std.proofs.Common.{◌≡◌, ◌≢◌, ◌∙◌, refl, sym, ap, subst, ℕ, zero, suc, ◌+◌, ◌*◌, ◌-◌, ◌/◌, ◌<◌, ◌≤◌, ◌==◌, if◌then◌else◌, Bool, true, false, List, [], ◌∷◌, inl, inr, get_or, arith}
use Rattle.std.specs.Prelude.{nat_lt, AllPairs}
use Rattle.std.proofs.lemmas.Bool.{cases_Bool, cases_lt, cond-true, cond-false, eq-eqb, ne_eqb, lt-ltb, le-ltb, or_left, or_right, true≢false}
use Rattle.std.proofs.lemmas.List.Folds.{list_any_none}
use Rattle.help_queue.specs.Gathers.{among_seats}
use Rattle.run_overtaking.specs.Waiting.{position}
use Rattle.run_overtaking.specs.Counts.{allowance}
use Rattle.run_overtaking.specs.Accounts.{sum_below, overtakers, most_overtaken}
use Rattle.run_overtaking.proofs.Accounts.Places.{here, behind, in_rest, position_below, out_past}
use Rattle.run_overtaking.proofs.Accounts.SeatSums.{sum_add, sum_but, sum_grows, sum_zero}

lt_suc : (a b : ℕ) → nat_lt (suc a) (suc b) ≡ nat_lt a b
lt_suc a b = elim (cases_lt a b) [ inl less ↦ lt-ltb (suc a) (suc b) (omega (arith, less)) ∙ sym (lt-ltb a b less) | inr past ↦ le-ltb (suc a) (suc b) (omega (arith, past)) ∙ sym (le-ltb a b past) ]

-- k + (k + 1) + .., p summands: the sum of the places ahead
abbrev rising : ℕ → ℕ → ℕ
rising k zero = 0
rising k (suc p) = k + rising (suc k) p

twice_rising : (k p : ℕ) → 2 * rising k p + p ≡ p * (2 * k + p)
twice_rising k zero = omega arith
twice_rising k (suc p) = (let rest = twice_rising (suc k) p in omega (arith, rest))

-- ---- the places of the seats ahead are 0, 1, 2 ..

-- the place of a seat that stands ahead of x, counted from k, and 0 for any other
abbrev ahead_place : ℕ → ℕ → List ℕ → ℕ → ℕ
ahead_place k x seats u = if nat_lt (position u seats) (position x seats) then k + position u seats else 0

none_ahead : (k x : ℕ) (seats : List ℕ) (u : ℕ) → position x seats ≤ position u seats → ahead_place k x seats u ≡ 0
none_ahead k x seats u past = cond-false (nat_lt (position u seats) (position x seats)) (k + position u seats) 0 (le-ltb (position u seats) (position x seats) past)

some_ahead : (k x : ℕ) (seats : List ℕ) (u : ℕ) → position u seats < position x seats → ahead_place k x seats u ≡ k + position u seats
some_ahead k x seats u less = cond-true (nat_lt (position u seats) (position x seats)) (k + position u seats) 0 (lt-ltb (position u seats) (position x seats) less)

module _ (k x s : ℕ) (seats : List ℕ) (other : (s == x) ≡ false) where
  -- another head: its place is k, and all others are counted from one more
  place_behind : (u : ℕ) → u ≢ s → ahead_place k x (s ∷ seats) u ≡ ahead_place (suc k) x seats u
  place_behind u apart =
      let px = behind x s seats other in
      let pu = behind u s seats (ne_eqb s u (λ e. apart (sym e))) in
      elim (cases_lt (position u seats) (position x seats)) [
        | inl less ↦ (
            let a = some_ahead k x (s ∷ seats) u (omega (arith, px, pu, less)) in
            let b = some_ahead (suc k) x seats u less in
            omega (arith, a, b, pu))
        | inr past ↦ none_ahead k x (s ∷ seats) u (omega (arith, px, pu, past)) ∙ sym (none_ahead (suc k) x seats u past)
      ]

  place_head : among_seats s seats ≡ false → among_seats x seats ≡ true → ahead_place k x (s ∷ seats) s ≡ ahead_place (suc k) x seats s + k
  place_head out in' =
      let px = behind x s seats other in
      let ps = here s s seats (eq-eqb s s refl) in
      let past = out_past s seats out in
      let below = position_below x seats in' in
      let a = some_ahead k x (s ∷ seats) s (omega (arith, px, ps)) in
      let b = none_ahead (suc k) x seats s (omega (arith, past, below)) in
      omega (arith, a, b, ps)

pub tail_differ : (s : ℕ) (seats : List ℕ) → AllPairs (λ a b. a ≢ b) (s ∷ seats) → AllPairs (λ a b. a ≢ b) seats
tail_differ s seats differ i j d less within = differ (suc i) (suc j) d (omega (arith, less)) (omega (arith, within))

pub head_differs : (s : ℕ) (seats : List ℕ) → AllPairs (λ a b. a ≢ b) (s ∷ seats) → among_seats s seats ≡ false
head_differs s seats differ = list_any_none (λ t. t == s) seats (λ k d within. ne_eqb (get_or seats k d) s (λ e. differ 0 (suc k) d (omega arith) (omega (arith, within)) (sym e)))

-- so their sum is that of 0, 1 .. up to the place of x
ahead_sum : (n k x : ℕ) (seats : List ℕ) → AllPairs (λ a b. a ≢ b) seats → ((t : ℕ) → among_seats t seats ≡ true → t < n) → among_seats x seats ≡ true → sum_below n (ahead_place k x seats) ≡ rising k (position x seats)
ahead_sum n k x [] differ below in' = absurd (true≢false (sym in'))
ahead_sum n k x (s ∷ seats) differ below in' =
    elim (cases_Bool (s == x)) [
      | inl same ↦ (
          let first = here x s seats same in
          sum_zero n (ahead_place k x (s ∷ seats)) (λ u. none_ahead k x (s ∷ seats) u (omega (arith, first))) ∙ ap (rising k) (sym first))
      | inr other ↦ (
          let rest = in_rest x s seats in' other in
          let sum = ahead_sum n (suc k) x seats (tail_differ s seats differ) (λ t h. below t (or_right (s == t) (among_seats t seats) h)) rest in
          let grown = sum_grows n s k (ahead_place (suc k) x seats) (ahead_place k x (s ∷ seats)) (below s (or_left (s == s) (among_seats s seats) (eq-eqb s s refl))) (place_behind k x s seats other) (place_head k x s seats other (head_differs s seats differ) rest) in
          let up : rising k (position x (s ∷ seats)) ≡ k + rising (suc k) (position x seats) = ap (rising k) (behind x s seats other) in
          omega (arith, sum, grown, up))
    ]

-- ---- the bound

by_products : (p d s r : ℕ) → s + r + suc p ≤ (suc p + d) * suc p → 2 * r + p ≡ p * p → 2 * s ≤ (p + d) * (p + d + 3)
by_products p d s r sum twice = omega (arith, sum, twice)

-- what a seat is allowed, with its place where it stands ahead, is one more than the place of x
own_none : (x : ℕ) (seats : List ℕ) → (if x == x then 0 else allowance x x seats) + ahead_place 0 x seats x ≡ 0
own_none x seats =
    let none = cond-true (x == x) 0 (allowance x x seats) (eq-eqb x x refl) in
    let not_ahead = none_ahead 0 x seats x (omega arith) in
    omega (arith, none, not_ahead)

each_most : (x : ℕ) (seats : List ℕ) (u : ℕ) → (if u == x then 0 else allowance x u seats) + ahead_place 0 x seats u ≤ suc (position x seats)
each_most x seats u =
    let px = position x seats in
    let pu = position u seats in
    let part = if nat_lt pu px then pu else 0 in
    let less : (if u == x then 0 else allowance x u seats) ≤ suc px - part = at_most (u == x) (suc px - part) in
    elim (cases_lt pu px) [
      | inl ahead ↦ (
          let a = some_ahead 0 x seats u ahead in
          let b : part ≡ pu = cond-true (nat_lt pu px) pu 0 (lt-ltb pu px ahead) in
          omega (arith, less, a, b, ahead))
      | inr past ↦ (
          let a = none_ahead 0 x seats u past in
          omega (arith, less, a))
    ]
  where
    at_most : (b : Bool) (m : ℕ) → (if b then 0 else m) ≤ m
    at_most true m = omega arith
    at_most false m = omega arith

-- a call that enters behind p seats: what all others are allowed
pub allowed_few : (n x : ℕ) (seats : List ℕ) → AllPairs (λ a b. a ≢ b) seats → ((t : ℕ) → among_seats t seats ≡ true → t < n) → among_seats x seats ≡ true → position x seats < n
    → 2 * overtakers n x (λ u. allowance x u seats) ≤ (n - 1) * (n + 2)
allowed_few n x seats differ below in' less =
    let p = position x seats in
    let f : ℕ → ℕ = λ u. if u == x then 0 else allowance x u seats in
    let g : ℕ → ℕ = ahead_place 0 x seats in
    let d = n - suc p in
    let both = sum_add n f g in
    let ahead = ahead_sum n 0 x seats differ below in' in
    let most = sum_but n (suc p) x (λ u. f u + g u) (below x in') (own_none x seats) (λ u _. each_most x seats u) in
    let twice = twice_rising 0 p in
    let size : n ≡ suc p + d = omega (arith, less) in
    let most' : sum_below n f + rising 0 p + suc p ≤ (suc p + d) * suc p = subst (λ m. sum_below n f + rising 0 p + suc p ≤ m * suc p) size (omega (arith, most, both, ahead)) in
    let end = by_products p d (sum_below n f) (rising 0 p) most' (omega (arith, twice)) in
    let one : n - 1 ≡ p + d = omega (arith, size) in
    let two : n + 2 ≡ p + d + 3 = omega (arith, size) in
    subst (λ a. 2 * sum_below n f ≤ a * (n + 2)) (sym one) (subst (λ b. 2 * sum_below n f ≤ (p + d) * b) (sym two) end)

pub half : (a b : ℕ) → 2 * a ≤ b → a ≤ b / 2
half a b h = omega (arith, h)

halved : (a b : ℕ) → a ≤ 2 * b → a / 2 ≤ b
halved a b h = omega (arith, h)

-- the bound is at most P (P - 1)
pub bound_is_sharper : (seats : ℕ) → 1 ≤ seats → most_overtaken seats ≤ seats * (seats - 1)
bound_is_sharper seats some =
    let n = seats - 1 in
    let size : seats ≡ suc n = omega (arith, some) in
    subst (λ m. (m - 1) * (m + 2) / 2 ≤ m * (m - 1)) (sym size) (by_one_less n)
  where
    by_one_less : (n : ℕ) → (suc n - 1) * (suc n + 2) / 2 ≤ suc n * (suc n - 1)
    by_one_less zero = omega arith
    by_one_less (suc m) =
        let one : suc (suc m) - 1 ≡ suc m = omega arith in
        subst (λ k. k * (suc (suc m) + 2) / 2 ≤ suc (suc m) * k) (sym one) (halved ((suc m) * (suc (suc m) + 2)) (suc (suc m) * suc m) (omega arith))
