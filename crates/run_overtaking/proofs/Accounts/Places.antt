-- Places among the seats of a queue word, and the arithmetic of the account.
use Rattle.std.proofs.Common.{◌≡◌, ◌∙◌, sym, ap, ℕ, suc, ◌<◌, ◌≤◌, ◌==◌, Bool, true, false, List, append-nil, subst, [], ◌∷◌, ◌++◌, drop, length, inl, inr, arith}
use Rattle.std.specs.List.{list_any}
use Rattle.std.proofs.lemmas.Bool.{cases_Bool, or_cases, or_left, or_right, eq-eqb, eqb-true, cond-true, cond-false, true≢false}
use Rattle.std.proofs.lemmas.Bool.Decides.{Decides-eqb}
use Rattle.std.proofs.lemmas.Map.Made.{IsDistinct-from_AllPairs}
use Rattle.std.proofs.lemmas.Map.Steps.{length-le_from_distinct_below}
use Rattle.word_fields.specs.Seats.{AreSeats}
use Rattle.help_queue.specs.Gathers.{among_seats, is_first}
use Rattle.help_queue_laws.proofs.Known.QueueWords.{not_both}
use Rattle.run_overtaking.specs.Accounts.{Account}
use Rattle.run_overtaking.specs.Waiting.{position}

pub here : (x s : ℕ) (seats : List ℕ) → (s == x) ≡ true → position x (s ∷ seats) ≡ 0
here x s seats same = cond-true (s == x) 0 (suc (position x seats)) same

pub behind : (x s : ℕ) (seats : List ℕ) → (s == x) ≡ false → position x (s ∷ seats) ≡ suc (position x seats)
behind x s seats other = cond-false (s == x) 0 (suc (position x seats)) other

pub in_rest : (x s : ℕ) (seats : List ℕ) → among_seats x (s ∷ seats) ≡ true → (s == x) ≡ false → among_seats x seats ≡ true
in_rest x s seats h other = elim (or_cases (s == x) (among_seats x seats) h) [ inl same ↦ absurd (not_both same other) | inr rest ↦ rest ]

rest_out : (t s : ℕ) (seats : List ℕ) → among_seats t (s ∷ seats) ≡ false → among_seats t seats ≡ false
rest_out t s seats out = elim (cases_Bool (among_seats t seats)) [ inl in' ↦ absurd (not_both (or_right (s == t) (among_seats t seats) in') out) | inr none ↦ none ]

pub position_below : (x : ℕ) (seats : List ℕ) → among_seats x seats ≡ true → position x seats < length seats
position_below x [] h = absurd (true≢false (sym h))
position_below x (s ∷ seats) h =
    elim (cases_Bool (s == x)) [
      | inl same ↦ (let e = here x s seats same in omega (arith, e))
      | inr other ↦ (let e = behind x s seats other in let less = position_below x seats (in_rest x s seats h other) in omega (arith, e, less))
    ]

-- seats that enter behind leave the position
pub entered_behind : (x : ℕ) (seats more : List ℕ) → among_seats x seats ≡ true → position x (seats ++ more) ≡ position x seats
entered_behind x [] more h = absurd (true≢false (sym h))
entered_behind x (s ∷ seats) more h =
    elim (cases_Bool (s == x)) [
      | inl same ↦ here x s (seats ++ more) same ∙ sym (here x s seats same)
      | inr other ↦ behind x s (seats ++ more) other ∙ ap suc (entered_behind x seats more (in_rest x s seats h other)) ∙ sym (behind x s seats other)
    ]

-- where another seat leaves at the head, the seat comes one nearer
pub head_leaves : (x : ℕ) (seats more : List ℕ) → among_seats x seats ≡ true → is_first x seats ≡ false → position x seats ≡ suc (position x (drop 1 seats ++ more))
head_leaves x [] more h other = absurd (true≢false (sym h))
head_leaves x (s ∷ seats) more h other = behind x s seats other ∙ ap suc (sym (entered_behind x seats more (in_rest x s seats h other)))

-- a seat that is first stays so where seats enter behind
pub first_stays : (t : ℕ) (seats more : List ℕ) → is_first t seats ≡ true → is_first t (seats ++ more) ≡ true
first_stays t [] more h = absurd (true≢false (sym h))
first_stays t (s ∷ seats) more h = h

any_flips : (q : ℕ) (seats : List ℕ) → list_any (λ s. q == s) seats ≡ true → among_seats q seats ≡ true
any_flips q [] h = h
any_flips q (s ∷ seats) h =
    elim (or_cases (q == s) (list_any (λ t. q == t) seats) h) [
      | inl same ↦ or_left (s == q) (among_seats q seats) (eq-eqb s q (sym (eqb-true q s same)))
      | inr rest ↦ or_right (s == q) (among_seats q seats) (any_flips q seats rest)
    ]

-- seats below a number are at most so many
pub few_seats : (n : ℕ) (seats : List ℕ) → AreSeats seats → ((q : ℕ) → among_seats q seats ≡ true → q < n) → length seats ≤ n
few_seats n seats are below = length-le_from_distinct_below seats n (IsDistinct-from_AllPairs Decides-eqb seats are.differ) (λ q has. below q (any_flips q seats has))

-- ---- the account: a head leaves; the seat goes on

pub leaves : (seats returned place place' : ℕ) (held held' : Bool) → place ≡ suc place' → Account seats returned place held → Account seats returned place' held'
leaves seats returned place place' held held' nearer a = record { loose = (let l = a.loose in omega (arith, l, nearer)); strict = λ _. (let l = a.loose in omega (arith, l, nearer)) }

pub stays : (seats returned place place' : ℕ) (held held' : Bool) → place ≡ place' → (held ≡ true → held' ≡ true) → Account seats returned place held → Account seats returned place' held'
stays seats returned place place' held held' same on a =
    record {
      loose = (let l = a.loose in omega (arith, l, same));
      strict = λ e. elim (cases_Bool held) [ inl back ↦ absurd (not_both (on back) e) | inr free ↦ (let s = a.strict free in omega (arith, s, same)) ];
    }

-- the first of some is among them
pub first_among : (t : ℕ) (seats : List ℕ) → is_first t seats ≡ true → among_seats t seats ≡ true
first_among t [] h = absurd (true≢false (sym h))
first_among t (s ∷ seats) h = or_left (s == t) (among_seats t seats) h

-- ---- seats that are not there, and the first

-- a seat that is none of these stands behind them
pub out_behind : (t : ℕ) (seats more : List ℕ) → among_seats t seats ≡ false → length seats ≤ position t (seats ++ more)
out_behind t [] more out = omega arith
out_behind t (s ∷ seats) more out =
    elim (cases_Bool (s == t)) [
      | inl same ↦ absurd (not_both (or_left (s == t) (among_seats t seats) same) out)
      | inr other ↦ (
          let e = behind t s (seats ++ more) other in
          let rest = out_behind t seats more (rest_out t s seats out) in
          omega (arith, e, rest))
    ]

pub out_past : (t : ℕ) (seats : List ℕ) → among_seats t seats ≡ false → length seats ≤ position t seats
out_past t seats out = subst (λ l. length seats ≤ position t l) (append-nil seats) (out_behind t seats [] out)

-- a seat whose place is within them is among them
pub place_in : (t : ℕ) (seats : List ℕ) → position t seats < length seats → among_seats t seats ≡ true
place_in t seats less = elim (cases_Bool (among_seats t seats)) [ inl in' ↦ in' | inr out ↦ (let past = out_past t seats out in absurd (omega (arith, less, past))) ]

pub tail_out : (t : ℕ) (seats : List ℕ) → among_seats t seats ≡ false → among_seats t (drop 1 seats) ≡ false
tail_out t [] out = out
tail_out t (s ∷ seats) out = rest_out t s seats out

pub first_place : (t : ℕ) (seats : List ℕ) → is_first t seats ≡ true → position t seats ≡ 0
first_place t [] h = absurd (true≢false (sym h))
first_place t (s ∷ seats) h = here t s seats h
