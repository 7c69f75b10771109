-- The answered and the pending calls, each in rising order of begin, merged one call at a time.
use Rattle.std.proofs.Common.{◌≡◌, ℕ, zero, suc, ◌+◌, ◌-◌, ◌*◌, ◌<◌, ◌≤◌, ◌≢◌, Option, List, [], ◌∷◌, ◌++◌, map, length, get_or, drop, All, length-append, get_or-drop, length-drop, Vec, Global, vec_capacity, append_assoc, append-nil, refl, sym, ap, ◌∙◌, subst, arith}
use Rattle.std.proofs.lemmas.List.{drop_more, drop_all, get_or_default, length-map, get_or-map, get_or_append_left, get_or-append-add}
use Rattle.std.proofs.lemmas.List.Elements.{recursion_from_All, All-append, All-map}
use Rattle.lin_report.specs.declared.calls.Receipt.{Receipt}
use Rattle.lin_report.specs.declared.calls.PendingCall.{PendingCall}
use Rattle.lin_report.specs.Calls.{Call, Report, answered_call, pending_call, calls_of}
use Rattle.lin_report.specs.Text.{by_begin, lines, call_line}
use Rattle.lin_report.specs.Room.{Appends, HasRoom}
use Rattle.lin_report.specs.Merging.{AnsweredIsNext, PendingIsNext}
use Rattle.lin_report.specs.Writing.{CanWrite, IsPrintable, TICK_LIMIT}
use Rattle.lin_report.proofs.Lengths.{answered_length, pending_length}
use Rattle.lin_report.proofs.Sorting.{by_begin-first, by_begin-later}

-- the calls from these places on
abbrev pub rest : List Receipt → List PendingCall → ℕ → ℕ → List Call
rest receipts pending i j = map answered_call (drop i receipts) ++ map pending_call (drop j pending)

-- the calls before these places have their lines, and there is room for those of the rest and the summary
pub record Progress (old new : Vec ℕ Global) (receipts : List Receipt) (pending : List PendingCall) (i j : ℕ) : Type 0 where
  pub answered : i ≤ length receipts
  pub waiting : j ≤ length pending
  pub text : new.items ++ lines (by_begin (rest receipts pending i j)) ≡ old.items ++ lines (by_begin (rest receipts pending 0 0))
  pub room : HasRoom new (64 * ((length receipts - i) + (length pending - j)) + 128)
  pub capacity : vec_capacity new ≡ vec_capacity old

count_by_rank : {X : Type 0} (rank : X → ℕ) (limit : ℕ) (xs : List X) → ((k : ℕ) (d : X) → k < length xs → k ≤ rank (get_or xs k d)) → ((k : ℕ) (d : X) → k < length xs → rank (get_or xs k d) < limit) → length xs ≤ limit
count_by_rank rank limit [] least below = omega arith
count_by_rank rank limit (x ∷ xs) least below = omega (arith, least (length xs) x (omega arith), below (length xs) x (omega arith))

-- the n-th of the report's calls is the n-th answered one, and behind those stand the pending ones
module _ (report : Report) where
  pub call_at_answered : (i : ℕ) (d : Receipt) (e : Call) → i < length report.receipts → get_or (calls_of report) i e ≡ answered_call (get_or report.receipts i d)
  call_at_answered i d e within =
      get_or_append_left (map answered_call report.receipts) _ e i (omega (arith, length-map report.receipts answered_call))
      ∙ get_or-map answered_call report.receipts i d e within

  pub call_at_pending : (j : ℕ) (d : PendingCall) (e : Call) → j < length report.pending → get_or (calls_of report) (length report.receipts + j) e ≡ pending_call (get_or report.pending j d)
  call_at_pending j d e within =
      ap (λ n. get_or (calls_of report) (n + j) e) (sym (length-map report.receipts answered_call))
      ∙ get_or-append-add (map answered_call report.receipts) (map pending_call report.pending) j e
      ∙ get_or-map pending_call report.pending j d e within

  pub count_of_calls : length (calls_of report) ≡ length report.receipts + length report.pending
  count_of_calls = length-append (map answered_call report.receipts) _ ∙ omega (arith, length-map report.receipts answered_call, length-map report.pending pending_call)

  module _ (count : Option ℕ) (can : CanWrite report count) where
    pub answered_printable : (i : ℕ) (d : Receipt) → i < length report.receipts → IsPrintable (answered_call (get_or report.receipts i d))
    answered_printable i d within =
        subst IsPrintable (call_at_answered i d (answered_call d) within) (can.printable i (answered_call d) (omega (arith, count_of_calls)))

    pub pending_printable : (j : ℕ) (d : PendingCall) → j < length report.pending → IsPrintable (pending_call (get_or report.pending j d))
    pending_printable j d within =
        subst IsPrintable (call_at_pending j d (pending_call d) within) (can.printable (length report.receipts + j) (pending_call d) (omega (arith, count_of_calls)))

    answered_rise : (i j : ℕ) (d : Receipt) → i < j → j < length report.receipts → (get_or report.receipts i d).begin < (get_or report.receipts j d).begin
    answered_rise i j d before within =
        let e = answered_call d in
        let differ = can.apart i j e before (omega (arith, count_of_calls)) in
        let first = ap (λ (c : Call). c.begin) (call_at_answered i d e (omega arith)) in
        let later = ap (λ (c : Call). c.begin) (call_at_answered j d e within) in
        let other : (get_or report.receipts i d).begin ≢ (get_or report.receipts j d).begin = λ same. differ (first ∙ same ∙ sym later) in
        omega (arith, can.receipts_in_order i j d (omega arith) within)

    answered_at_least : (k : ℕ) (d : Receipt) → k < length report.receipts → k ≤ (get_or report.receipts k d).begin
    answered_at_least zero d within = omega arith
    answered_at_least (suc k) d within = omega (arith, answered_at_least k d (omega arith), answered_rise k (suc k) d (omega arith) within)

    -- ticks that rise and are below a limit are at most that many
    pub answered_count : length report.receipts ≤ TICK_LIMIT
    answered_count = count_by_rank (λ (r : Receipt). r.begin) TICK_LIMIT report.receipts answered_at_least (λ k d within. (answered_printable k d within).begin)

    pending_rise : (i j : ℕ) (d : PendingCall) → i < j → j < length report.pending → (get_or report.pending i d).begin < (get_or report.pending j d).begin
    pending_rise i j d before within =
        let e = pending_call d in
        let differ = can.apart (length report.receipts + i) (length report.receipts + j) e (omega arith) (omega (arith, count_of_calls)) in
        let first = ap (λ (c : Call). c.begin) (call_at_pending i d e (omega arith)) in
        let later = ap (λ (c : Call). c.begin) (call_at_pending j d e within) in
        let other : (get_or report.pending i d).begin ≢ (get_or report.pending j d).begin = λ same. differ (first ∙ same ∙ sym later) in
        omega (arith, can.pending_in_order i j d (omega arith) within)

    pending_at_least : (k : ℕ) (e : PendingCall) → k < length report.pending → k ≤ (get_or report.pending k e).begin
    pending_at_least zero e within = omega arith
    pending_at_least (suc k) e within = omega (arith, pending_at_least k e (omega arith), pending_rise k (suc k) e (omega arith) within)

    pub pending_count : length report.pending ≤ TICK_LIMIT
    pending_count = count_by_rank (λ (p : PendingCall). p.begin) TICK_LIMIT report.pending pending_at_least (λ k e within. (pending_printable k e within).begin)

    kinds_apart : (i j : ℕ) (d : Receipt) (e : PendingCall) → i < length report.receipts → j < length report.pending → (get_or report.receipts i d).begin ≢ (get_or report.pending j e).begin
    kinds_apart i j d e answered waiting same =
        let f = answered_call d in
        let first = ap (λ (c : Call). c.begin) (call_at_answered i d f answered) in
        let later = ap (λ (c : Call). c.begin) (call_at_pending j e f waiting) in
        can.apart i (length report.receipts + j) f (omega arith) (omega (arith, count_of_calls)) (first ∙ same ∙ sym later)

    below_answered : (tick i : ℕ) → ((k : ℕ) (d : Receipt) → i ≤ k → k < length report.receipts → tick < (get_or report.receipts k d).begin) → All (λ (c : Call). tick < c.begin) (map answered_call (drop i report.receipts))
    below_answered tick i below = All-map (λ (c : Call). tick < c.begin) answered_call (drop i report.receipts)
        (λ k d within. rw get_or-drop (below (i + k) d (omega arith) (omega (arith, length-drop i report.receipts))))

    below_pending : (tick j : ℕ) → ((k : ℕ) (d : PendingCall) → j ≤ k → k < length report.pending → tick < (get_or report.pending k d).begin) → All (λ (c : Call). tick < c.begin) (map pending_call (drop j report.pending))
    below_pending tick j below = All-map (λ (c : Call). tick < c.begin) pending_call (drop j report.pending)
        (λ k d within. rw get_or-drop (below (j + k) d (omega arith) (omega (arith, length-drop j report.pending))))

    -- the next call, where it is an answered one
    next_answered : (i j : ℕ) (d : Receipt) → AnsweredIsNext report.receipts report.pending i j →
        by_begin (rest report.receipts report.pending i j) ≡ answered_call (get_or report.receipts i d) ∷ by_begin (rest report.receipts report.pending (i + 1) j)
    next_answered i j d next =
        let tick = (get_or report.receipts i d).begin in
        let Later : Call → Type 0 = λ c. tick < c.begin in
        let answered = below_answered tick (i + 1) (λ k f from below.
        subst (λ (r : Receipt). r.begin < (get_or report.receipts k f).begin) (get_or_default report.receipts i f d next.left) (answered_rise i k f (omega arith) below)) in
        let waiting = below_pending tick j (λ k f from below. omega (arith, next.first d f (omega arith), can.pending_in_order j k f from below)) in
        ap (λ (rs : List Receipt). by_begin (map answered_call rs ++ map pending_call (drop j report.pending))) (drop_more report.receipts i d next.left)
        ∙ by_begin-first (answered_call (get_or report.receipts i d)) (rest report.receipts report.pending (i + 1) j)
        (recursion_from_All Later _ (All-append Later _ _ answered waiting))

    -- the next call, where it is a pending one
    next_pending : (i j : ℕ) (e : PendingCall) → PendingIsNext report.receipts report.pending i j →
        by_begin (rest report.receipts report.pending i j) ≡ pending_call (get_or report.pending j e) ∷ by_begin (rest report.receipts report.pending i (j + 1))
    next_pending i j e next =
        let tick = (get_or report.pending j e).begin in
        let Later : Call → Type 0 = λ c. tick < c.begin in
        let answered = below_answered tick i (λ k f from below.
        let differ = kinds_apart i j f e (omega arith) next.left in
        omega (arith, next.first f e (omega arith), can.receipts_in_order i k f from below)) in
        let waiting = below_pending tick (j + 1) (λ k f from below.
        subst (λ (p : PendingCall). p.begin < (get_or report.pending k f).begin) (get_or_default report.pending j f e next.left) (pending_rise j k f (omega arith) below)) in
        ap (λ (ps : List PendingCall). by_begin (map answered_call (drop i report.receipts) ++ map pending_call ps)) (drop_more report.pending j e next.left)
        ∙ by_begin-later (map answered_call (drop i report.receipts)) (pending_call (get_or report.pending j e)) (map pending_call (drop (j + 1) report.pending))
        (recursion_from_All Later _ answered) (recursion_from_All Later _ waiting)

    lines-cons : (c : Call) (calls : List Call) → lines (c ∷ calls) ≡ call_line c ++ lines calls
    unfolding lines
    lines-cons c calls = refl

    -- the line of the next call leaves the lines of the rest
    progress_by : {old new newer : Vec ℕ Global} (c : Call) (i j m n : ℕ) → Progress old new report.receipts report.pending i j → Appends new newer (call_line c) → length (call_line c) ≤ 64 →
        by_begin (rest report.receipts report.pending i j) ≡ c ∷ by_begin (rest report.receipts report.pending m n) →
        m ≤ length report.receipts → n ≤ length report.pending → i + j < m + n → Progress old newer report.receipts report.pending m n
    progress_by {old} {new} {newer} c i j m n so_far appended short next answered waiting more = record {
      answered = answered;
      waiting = waiting;
      text =
          ap (λ (items : List ℕ). items ++ lines (by_begin (rest report.receipts report.pending m n))) appended.items
          ∙ append_assoc new.items (call_line c) _
          ∙ ap (λ (bytes : List ℕ). new.items ++ bytes) (sym (ap lines next ∙ lines-cons c _))
          ∙ so_far.text;
      room = omega arith;
      capacity = appended.capacity ∙ so_far.capacity;
    }

    pub answered_fits : (i j : ℕ) (d : Receipt) {old new : Vec ℕ Global} → Progress old new report.receipts report.pending i j → i < length report.receipts → HasRoom new (length (call_line (answered_call (get_or report.receipts i d))))
    answered_fits i j d so_far within = omega (arith, answered_length (get_or report.receipts i d) (answered_printable i d within))

    pub pending_fits : (i j : ℕ) (e : PendingCall) {old new : Vec ℕ Global} → Progress old new report.receipts report.pending i j → j < length report.pending → HasRoom new (length (call_line (pending_call (get_or report.pending j e))))
    pending_fits i j e so_far within = omega (arith, pending_length (get_or report.pending j e) (pending_printable j e within))

    pub progress_answered : (i j : ℕ) (d : Receipt) {old new newer : Vec ℕ Global} → Progress old new report.receipts report.pending i j → AnsweredIsNext report.receipts report.pending i j →
        Appends new newer (call_line (answered_call (get_or report.receipts i d))) → Progress old newer report.receipts report.pending (i + 1) j
    progress_answered i j d so_far next appended =
        let within = next.left in
        let short = answered_length (get_or report.receipts i d) (answered_printable i d within) in
        progress_by (answered_call (get_or report.receipts i d)) i j (i + 1) j so_far appended short (next_answered i j d next) (omega arith) so_far.waiting (omega arith)

    pub progress_pending : (i j : ℕ) (e : PendingCall) {old new newer : Vec ℕ Global} → Progress old new report.receipts report.pending i j → PendingIsNext report.receipts report.pending i j →
        Appends new newer (call_line (pending_call (get_or report.pending j e))) → Progress old newer report.receipts report.pending i (j + 1)
    progress_pending i j e so_far next appended =
        let within = next.left in
        let short = pending_length (get_or report.pending j e) (pending_printable j e within) in
        progress_by (pending_call (get_or report.pending j e)) i j i (j + 1) so_far appended short (next_pending i j e next) so_far.answered (omega arith) (omega arith)

-- where no call is left, each has its line
pub all_lines : {old new : Vec ℕ Global} (report : Report) (i j : ℕ) → Progress old new report.receipts report.pending i j → length report.receipts ≤ i → length report.pending ≤ j → Appends old new (lines (by_begin (calls_of report)))
unfolding lines by_begin
all_lines {old} {new} report i j so_far answered waiting =
    let none_left : rest report.receipts report.pending i j ≡ [] =
    ap (λ (rs : List Receipt). map answered_call rs ++ map pending_call (drop j report.pending)) (drop_all i report.receipts answered)
    ∙ ap (map pending_call) (drop_all j report.pending waiting) in
    let whole : new.items ≡ old.items ++ lines (by_begin (calls_of report)) =
    sym (append-nil new.items) ∙ ap (λ (calls : List Call). new.items ++ lines (by_begin calls)) (sym none_left) ∙ so_far.text in
    record { items = whole; len = omega (arith, old.ok.0, new.ok.0, ap length whole, length-append old.items (lines (by_begin (calls_of report)))); capacity = so_far.capacity }
