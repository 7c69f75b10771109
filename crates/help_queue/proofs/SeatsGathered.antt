-- Gathers over a queue word: where they go, and that the seats of the words that they write are seats.
use Rattle.std.proofs.Common.{◌≡◌, ◌≢◌, ℕ, zero, suc, ◌+◌, ◌-◌, ◌%◌, ◌<◌, ◌≤◌, ◌^◌, true, false, List, [], ◌∷◌, ◌++◌, length, drop, get_or, refl, ap, sym, ◌∙◌, subst, arith, inl, inr, append_assoc, append-nil, length-append}
use Rattle.std.specs.Prelude.{All, AllPairs, nat_lt, ◌==◌, ◌||◌, if◌then◌else◌}
use Rattle.std.specs.List.{list_any, IsDistinct}
use Rattle.std.proofs.lemmas.Bool.{cond_both, cond-true, cond-false, eqb-true, eq-eqb, ltb-true, not-false, ne_eqb, or_from, true≢false, cases_eq}
use Rattle.std.proofs.lemmas.List.Elements.{All-push, All-weaker, recursion_from_All, All-tail, All-nil}
use Rattle.std.proofs.lemmas.List.Folds.{list_any-append, list_any_at, list_any_none, Any-from_list_any}
use Rattle.std.proofs.lemmas.List.Quantifiers.{all_pairs_push}
use Rattle.std.proofs.lemmas.Map.Steps.{length-le_from_distinct_below}
use Rattle.word_fields.specs.Seats.{AreSeats, queue_seats}
use Rattle.word_fields.specs.ProvedSeats.{queue_seats_are}
use Rattle.word_fields.specs.Queues.{queue_version}
use Rattle.word_fields.proofs.SeatsOfQueueWords.{queue_seats-word, queue_version-word}
use Rattle.word_fields.specs.Records.{record_phase}
use Rattle.help_queue.specs.Gathers.{Gathering, IsGathering, among_seats, holds, is_open, first_out, gather_begun, gather_over, gather_fed, word_with, entered_word}

-- ---- the next seat of a gather

pub first_none : (word at : ℕ) → first_out word at 0 ≡ at
unfolding first_out
first_none word at = refl

pub first_here : (word at count : ℕ) → holds word at ≡ false → 0 < count → first_out word at count ≡ at
unfolding first_out
first_here word at zero out some = absurd (omega arith)
first_here word at (suc count) out some = cond-false (holds word at) (first_out word (at + 1) count) at out

pub first_later : (word at count : ℕ) → holds word at ≡ true → first_out word at (suc count) ≡ first_out word (at + 1) count
unfolding first_out
first_later word at count held = cond-true (holds word at) (first_out word (at + 1) count) at held

-- what the seat after a passage is
pub record IsFirstOut (word at count seat : ℕ) : Type 0 where
  pub from : at ≤ seat
  pub within : seat ≤ at + count
  pub out : seat < at + count → holds word seat ≡ false
  pub passed : (t : ℕ) → at ≤ t → t < seat → holds word t ≡ true

pub first_out_is : (word at count : ℕ) → IsFirstOut word at count (first_out word at count)
unfolding first_out
first_out_is word at zero = record { from = omega arith; within = omega arith; out = λ h. absurd (omega arith); passed = λ t a b. absurd (omega arith) }
first_out_is word at (suc count) =
    cond_both (holds word at) (first_out word (at + 1) count) at (IsFirstOut word at (suc count))
    (λ held. let rest = first_out_is word (at + 1) count in
    record {
      from = omega (arith, rest.from);
      within = omega (arith, rest.within);
      out = λ h. rest.out (omega (arith, h));
      passed = λ t a b. elim (cases_eq at t) [ inl same ↦ subst (λ k. holds word k ≡ true) same held | inr other ↦ rest.passed t (omega (arith, a, other)) b ];
    })
    (λ out. record { from = omega arith; within = omega arith; out = λ h. out; passed = λ t a b. absurd (omega arith) })

-- ---- seats that stand in a word

-- no seat is one of those after it
distinct : (seats : List ℕ) → AllPairs (λ s t. s ≢ t) seats → IsDistinct (λ s t. s == t) seats
unfolding IsDistinct
distinct [] differ = tt
distinct (s ∷ seats) differ = (
  recursion_from_All (λ t. (s == t) ≡ false) seats (λ k d h. ne_eqb s _ (differ 0 (suc k) d (omega arith) (omega arith))),
  distinct seats (λ i j d h k. differ (suc i) (suc j) d (omega arith) (omega arith)),
)

below_from : (seats : List ℕ) → All (λ s. s < 8) seats → (q : ℕ) → list_any (λ s. q == s) seats ≡ true → q < 8
below_from seats real q any =
    let found = Any-from_list_any (λ s. q == s) seats any in
    let same : q ≡ found.1 = eqb-true q found.1 found.4 in
    let below : get_or seats found.0 found.1 < 8 = real found.0 found.1 found.2 in
    subst (λ s. s < 8) (found.3 ∙ sym same) below

-- seats below 8 that all differ are at most 8
pub are_seats : (seats : List ℕ) → All (λ s. s < 8) seats → AllPairs (λ s t. s ≢ t) seats → AreSeats seats
are_seats seats real differ = record { real = real; differ = differ; fit = length-le_from_distinct_below seats 8 (distinct seats differ) (below_from seats real) }

-- a seat that isn't among others differs from each
apart : (seats : List ℕ) (s : ℕ) → among_seats s seats ≡ false → (k d : ℕ) → k < length seats → get_or seats k d ≢ s
apart seats s out k d within same = true≢false (sym (list_any_at (λ t. t == s) seats k d within (eq-eqb _ _ same)) ∙ out)

pub are_more : (seats : List ℕ) (s : ℕ) → AreSeats seats → s < 8 → among_seats s seats ≡ false → AreSeats (seats ++ s ∷ [])
are_more seats s are real out =
    are_seats (seats ++ s ∷ []) (All-push (λ t. t < 8) seats s are.real real) (all_pairs_push (λ t u. t ≢ u) seats s are.differ (apart seats s out))

pub are_tail : (s : ℕ) (seats : List ℕ) → AreSeats (s ∷ seats) → AreSeats seats
are_tail s seats are = record {
  real = All-tail (λ t. t < 8) s seats are.real;
  differ = λ i j d h k. are.differ (suc i) (suc j) d (omega arith) (omega arith);
  fit = omega (arith, are.fit);
}

pub are_behind : (seats found : List ℕ) → AreSeats (seats ++ found) → AreSeats (drop 1 seats ++ found)
are_behind [] found are = are
are_behind (s ∷ seats) found are = are_tail s (seats ++ found) are

-- ---- what holds of a gather stays so

none_among : (s : ℕ) (seats : List ℕ) → All (λ t. t < s) seats → among_seats s seats ≡ false
none_among s seats below = list_any_none (λ t. t == s) seats (λ k d h. ne_eqb _ _ (λ e. let less = below k d h in absurd (omega (arith, less, e))))

pub begun_is : (among word : ℕ) → among ≤ 8 → IsGathering (gather_begun among word)
begun_is among word few =
    let first = first_out_is word 0 among in
    record {
      few = few;
      within = omega (arith, first.within);
      out = λ h. first.out (omega (arith, h));
      below = All-nil (λ s. s < first_out word 0 among);
      apart = subst AreSeats (sym (append-nil (queue_seats word))) (queue_seats_are word);
    }

pub fed_is : (g : Gathering) (record_word : ℕ) → IsGathering g → g.next < g.among → IsGathering (gather_fed g record_word)
fed_is g record_word is more =
    let first = first_out_is g.word (g.next + 1) (g.among - (g.next + 1)) in
    let next = first_out g.word (g.next + 1) (g.among - (g.next + 1)) in
    let later : g.next < next = omega (arith, first.from) in
    let kept : All (λ s. s < next) g.found = All-weaker (λ s. s < g.next) (λ s. s < next) (λ s h. omega (arith, h, later)) g.found is.below in
    let free : among_seats g.next (queue_seats g.word ++ g.found) ≡ false =
    list_any-append (λ s. s == g.next) (queue_seats g.word) g.found ∙ or_from _ _ (is.out more) (none_among g.next g.found is.below) in
    let all = append_assoc (queue_seats g.word) g.found (g.next ∷ []) in
    let real : g.next < 8 = omega (arith, is.few, more) in
    let opened = is_open (record_phase record_word) in
    record {
      few = is.few;
      within = omega (arith, first.within, more);
      out = λ h. first.out (omega (arith, h, more));
      below = cond_both opened (g.found ++ g.next ∷ []) g.found (λ l. All (λ s. s < next) l) (λ _. All-push (λ s. s < next) g.found g.next kept later) (λ _. kept);
      apart = cond_both opened (g.found ++ g.next ∷ []) g.found (λ l. AreSeats (queue_seats g.word ++ l))
          (λ _. subst AreSeats all (are_more (queue_seats g.word ++ g.found) g.next is.apart real free)) (λ _. is.apart);
    }

-- the words that a gather writes hold these seats
pub written_seats : (g : Gathering) (kept : List ℕ) → AreSeats (kept ++ g.found) → queue_seats (word_with kept g) ≡ kept ++ g.found
written_seats g kept are = queue_seats-word (kept ++ g.found) _ are

pub written_version : (g : Gathering) (kept : List ℕ) → AreSeats (kept ++ g.found) → queue_version (word_with kept g) ≡ (queue_version g.word + 1) % 2 ^ 32
written_version g kept are = queue_version-word (kept ++ g.found) _ are (omega arith)

-- an entered word holds a seat that its word doesn't hold exactly where it was found
pub entered_holds : (g : Gathering) (seat : ℕ) → AreSeats (queue_seats g.word ++ g.found) → holds g.word seat ≡ false → holds (entered_word g) seat ≡ among_seats seat g.found
entered_holds g seat are out =
    ap (among_seats seat) (written_seats g (queue_seats g.word) are) ∙ list_any-append (λ s. s == seat) (queue_seats g.word) g.found ∙ ap (λ b. b || among_seats seat g.found) out

-- there is room for one more found seat
pub found_fits : (g : Gathering) → IsGathering g → g.next < g.among → length g.found < 8
found_fits g is more =
    let free : among_seats g.next (queue_seats g.word ++ g.found) ≡ false =
    list_any-append (λ s. s == g.next) (queue_seats g.word) g.found ∙ or_from _ _ (is.out more) (none_among g.next g.found is.below) in
    let are = are_more (queue_seats g.word ++ g.found) g.next is.apart (omega (arith, is.few, more)) free in
    omega (arith, are.fit, length-append (queue_seats g.word ++ g.found) (g.next ∷ []), length-append (queue_seats g.word) g.found)

-- a gather that isn't over loads another record
pub not_over : (g : Gathering) → gather_over g ≡ false → g.next < g.among
not_over g h = ltb-true g.next g.among (not-false (nat_lt g.next g.among) h)

-- one more seat is passed, since the word holds it
pub passed_more : (word at seat seats : ℕ) → (first_out word at (seats - at) ≡ first_out word seat (seats - seat)) × ((t : ℕ) → at ≤ t → t < seat → holds word t ≡ true)
    → seat < seats → holds word seat ≡ true
    → (first_out word at (seats - at) ≡ first_out word (seat + 1) (seats - (seat + 1))) × ((t : ℕ) → at ≤ t → t < seat + 1 → holds word t ≡ true)
passed_more word at seat seats so_far inside held =
    let left : seats - seat ≡ suc (seats - (seat + 1)) = omega arith in (
      so_far.0 ∙ ap (first_out word seat) left ∙ first_later word seat (seats - (seat + 1)) held,
      λ t a b. elim (cases_eq seat t) [ inl same ↦ subst (λ k. holds word k ≡ true) same held | inr other ↦ so_far.1 t a (omega (arith, b, other)) ],
    )

-- a gather that begins, and one that goes on, by the fields that the code writes
pub gather_made : (among word next : ℕ) (found : List ℕ) → among ≤ 8 → next ≡ first_out word 0 (among - 0) → found ≡ [] → IsGathering (record { among = among; word = word; next = next; found = found })
gather_made among word next found few first none =
    let whole : among - 0 ≡ among = omega arith in
    subst (λ l. IsGathering (record { among = among; word = word; next = next; found = l })) (sym none)
    (subst (λ n. IsGathering (record { among = among; word = word; next = n; found = [] })) (sym (first ∙ ap (first_out word 0) whole)) (begun_is among word few))

pub gather_goes_on : (among word next next' before : ℕ) (found found' : List ℕ) → IsGathering (record { among = among; word = word; next = next; found = found }) → next < among
    → next' ≡ first_out word (next + 1) (among - (next + 1)) → found' ≡ (if is_open (record_phase before) then found ++ next ∷ [] else found)
    → IsGathering (record { among = among; word = word; next = next'; found = found' })
gather_goes_on among word next next' before found found' is more first put =
    let g : Gathering = record { among = among; word = word; next = next; found = found } in
    subst (λ n. IsGathering (record { among = among; word = word; next = n; found = found' })) (sym first)
    (subst (λ l. IsGathering (record { among = among; word = word; next = first_out word (next + 1) (among - (next + 1)); found = l })) (sym put) (fed_is g before is more))

pub loads_more : (g view : Gathering) → g ≡ view → gather_over view ≡ false → g.next < g.among
loads_more g view is h = not_over g (ap gather_over is ∙ h)

pub ruleset walk = (first_none, first_here)

pub ruleset written = (queue_seats-word, queue_version-word)
