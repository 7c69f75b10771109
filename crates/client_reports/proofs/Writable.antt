-- Every run over command files can be written, where the tick counter is kept and each reply fits its
-- command.
use Rattle.std.proofs.Common.{◌≡◌, ℕ, suc, ◌+◌, ◌-◌, ◌*◌, ◌<◌, ◌≤◌, ◌==◌, nat_lt, cond, List, [], ◌∷◌, ◌++◌, length, length-append, map, get_or, slice_index, count_by, All, refl, sym, ap, ◌∙◌, subst, arith, inl, inr}
use Rattle.std.specs.Prelude.{sum_by, IfSome}
use Rattle.std.specs.Option.{option_to_list}
use Rattle.std.proofs.lemmas.Bool.{cases_lt, cases_eq, lt-ltb, le-ltb}
use Rattle.std.proofs.lemmas.List.{length-map, get_or-map, get_or_past, get_or_append_left, get_or-append-add}
use Rattle.std.proofs.lemmas.List.Elements.{All-append, All-map}
use Rattle.std.proofs.lemmas.List.Sums.{sum_by-append, sum_by-cons, sum_by-le}
use Rattle.std.proofs.lemmas.Option.{slice_get_within, get_or_from_slice_get}
use Rattle.lin_report.specs.declared.calls.Op.{Op}
use Rattle.lin_report.specs.declared.calls.Receipt.{Receipt}
use Rattle.lin_report.specs.declared.calls.PendingCall.{PendingCall}
use Rattle.lin_report.specs.Calls.{Call, Report, answered_call, calls_of}
use Rattle.lin_report.specs.Calls as calls
use Rattle.lin_report.specs.Commands.{IsReplyTo}
use Rattle.lin_report.specs.Object.{IsCommandOf, Object}
use Rattle.lin_report.specs.Report.{IsCommand, file_of, ticks_of}
use Rattle.lin_report.specs.Writing.{IsPrintable, IsPrintableAnswer, TICK_LIMIT}
use Rattle.lin_report.specs.Tellable.{IsTellable}
use Rattle.normal_traits.specs.NormalForm.{NormalForm}
use Rattle.fast_slow_engine.specs.declared.setup.Setup.{Setup}
use Rattle.fast_slow_engine.specs.Mechs.{Mech}
use Rattle.fast_slow_engine.specs.PhaseTable.{mech_pending, ticks_left}
use Rattle.fast_slow_engine.specs.Runs.{RunState, moves_over, pending_of, run_of}
use Rattle.run_laws.specs.Seats.{EachMech}
use Rattle.run_laws.specs.Files.{FilesFit}
use Rattle.fast_slow_engine.specs.Reports.{report_of_run}
use Rattle.run_laws.specs.Ticks.{KeepsTicks, HasTicksOnce}
use Rattle.run_laws.proofs.StepKinds.{pending_none, pending_open}
use Rattle.run_laws.proofs.TicksCounted.{IsFew, ticks_had, counts_ticks}
use Rattle.run_laws.proofs.MachinesKept.{seats_stay}
use Rattle.run_laws.proofs.CommandsMade.{files_run}
use Rattle.run_laws.proofs.ReceiptsAreReports.{runs_report, ticks_once}
use Rattle.client_reports.specs.Writable.{CanBeWritten, RunsCanBeWritten}
use Rattle.client_reports.proofs.SameOrder.{counted_at}

-- 1 where the tick is t, and else 0
abbrev hits : ℕ → ℕ → ℕ
hits t tick = cond (tick == t) 1 0

sum_by-map : {X Y : Type 0} (f : Y → ℕ) (g : X → Y) (xs : List X) → sum_by f (map g xs) ≡ sum_by (λ x. f (g x)) xs
sum_by-map f g [] = refl
sum_by-map f g (x ∷ xs) = sum_by-cons f (g x) (map g xs) ∙ ap (λ n. f (g x) + n) (sum_by-map f g xs) ∙ sym (sum_by-cons (λ y. f (g y)) x xs)

-- 1 where the tick is below the number, and else 0
abbrev drawn_once : ℕ → ℕ → ℕ
drawn_once t most = cond (nat_lt t most) 1 0

is_past : (t most : ℕ) → most ≤ t → drawn_once t most ≡ 0
is_past t most past = ap (λ b. cond b 1 0) (le-ltb t most past)

is_below : (t most : ℕ) → t < most → drawn_once t most ≡ 1
is_below t most below = ap (λ b. cond b 1 0) (lt-ltb t most below)

-- each tick of a list is below the number, where no other is drawn
drawn_below : (ticks : List ℕ) (most : ℕ) → ((t : ℕ) → count_by (λ tick. tick == t) ticks ≡ cond (nat_lt t most) 1 0) → All (λ tick. tick < most) ticks
drawn_below ticks most once k d within =
    let t = get_or ticks k d in
    elim (cases_lt t most) [
      | inl below ↦ below
      | inr past ↦
          absurd (omega (arith, counted_at (λ tick. tick) ticks k d within, once t, is_past t most past))
    ]

at_most : (t most : ℕ) → drawn_once t most ≤ 1
at_most t most =
    elim (cases_lt t most) [ inl below ↦ omega (arith, is_below t most below) | inr past ↦ omega (arith, is_past t most past) ]

-- ---- a call of a report over files

module _ (object : Object) (tells : IsTellable object) (setup : Setup) (files : List (List Op)) (fit : FilesFit object setup files) where
  -- the file of a seat that makes a call
  record IsOf (call : Call) : Type 0 where
    seat : call.seat < length files
    number : call.number - 1 < length (file_of files call.seat)
    command : get_or (file_of files call.seat) (call.number - 1) call.op ≡ call.op

  is_of : (call : Call) → IsCommand files call → IsOf call
  is_of call is =
      let within = slice_get_within (file_of files call.seat) (call.number - 1) call.op is.command in
      record {
        seat = elim (cases_lt call.seat (length files)) [
          | inl below ↦ below
          | inr past ↦
              let none : file_of files call.seat ≡ [] = get_or_past files call.seat [] past in
              absurd (omega (arith, within, ap length none))
        ];
        number = within;
        command = get_or_from_slice_get (file_of files call.seat) (call.number - 1) call.op call.op is.command;
      }

  printable : (call : Call) → IsCommand files call → call.begin < TICK_LIMIT → IfSome call.answer (IsPrintableAnswer call.op) → IsPrintable call
  printable call is begin answer =
      let of = is_of call is in
      let short : length (file_of files call.seat) ≤ 65535 = (fit.runnable call.seat [] of.seat).few in
      let command : IsCommandOf object call.op = subst (IsCommandOf object) of.command ((fit.runnable call.seat [] of.seat).commands (call.number - 1) call.op of.number) in
      record {
        seat = omega (arith, of.seat, fit.count, setup.few_seats);
        counted = is.counted;
        number = omega (arith, of.number, short, is.counted);
        command = tells.named call.op command.command;
        value = command.value;
        begin = begin;
        answer = answer;
      }

-- ---- how many calls there are

module _ {S W : Type 0} where
  -- the ticks of a machine with its pending call
  mech_few : (mech : Mech S W) → IsFew mech → ticks_had mech + length (option_to_list (mech_pending mech)) ≤ 2 * mech.number
  mech_few mech few =
      elim (cases_eq (ticks_left mech.phase) 1) [
        | inl one ↦
            let is : length (option_to_list (mech_pending mech)) ≡ 1 = ap (λ o. length (option_to_list o)) (pending_open mech.phase mech one) in
            omega (arith, is, one, few.left)
        | inr other ↦
            let is : length (option_to_list (mech_pending mech)) ≡ 0 = ap (λ o. length (option_to_list o)) (pending_none mech.phase mech other) in
            omega (arith, is)
      ]

  -- all machines together draw no more ticks than their files have commands for
  mechs_few : (mechs : List (Mech S W)) (files : List (List Op)) → length mechs ≤ length files → EachMech (λ seat mech. IsFew mech) mechs → EachMech (λ seat mech. mech.number ≤ length (file_of files seat)) mechs
      → sum_by ticks_had mechs + length (pending_of mechs) ≤ 2 * sum_by length files
  mechs_few [] files short few within = omega arith
  mechs_few (mech ∷ mechs) [] short few within = absurd (omega (arith, short))
  mechs_few (mech ∷ mechs) (file ∷ files) short few within =
      let rest = mechs_few mechs files (omega (arith, short)) (λ seat m at. few (suc seat) m at) (λ seat m at. within (suc seat) m at) in
      let own = mech_few mech (few 0 mech refl) in
      let number : mech.number ≤ length file = within 0 mech refl in
      omega (arith, rest, own, number, sum_by-cons ticks_had mech mechs, sum_by-cons length file files, length-append (option_to_list (mech_pending mech)) (pending_of mechs))

-- ---- lists

module _ {X : Type 0} (P : X → Type 0) where
  all_left : (xs ys : List X) → All P (xs ++ ys) → All P xs
  all_left xs ys all k d within = subst P (get_or_append_left xs ys d k within) (all k d (omega (arith, within, length-append xs ys)))

  all_right : (xs ys : List X) → All P (xs ++ ys) → All P ys
  all_right xs ys all k d within = subst P (get_or-append-add xs ys k d) (all (length xs + k) d (omega (arith, within, length-append xs ys)))

  all_under : {Y : Type 0} (f : Y → X) (ys : List Y) → All P (map f ys) → All (λ y. P (f y)) ys
  all_under f ys all k d within = subst P (get_or-map f ys k d (f d) within) (all k (f d) (omega (arith, within, length-map ys f)))

-- ---- the run

module _ {S W : Type 0} (form : NormalForm S W) (setup : Setup) (files : List (List Op)) (order : List ℕ) (fit : FilesFit form.object setup files) where
  -- the run of the files in this order
  abbrev pub ran : RunState S W
  ran = run_of form setup (moves_over form setup files order)

  most : sum_by length files ≤ 524280
  most = omega (arith, sum_by-le length 65535 files (λ k d within. (fit.runnable k d within).few), fit.count, setup.few_seats)

  module _ (keeps : KeepsTicks form setup (moves_over form setup files order)) where
    abbrev begins : List ℕ
    begins = map (λ (r : Receipt). r.begin) ran.receipts

    abbrev ends : List ℕ
    ends = map (λ (r : Receipt). r.end) ran.receipts

    abbrev opened : List ℕ
    opened = map (λ (p : PendingCall). p.begin) (pending_of ran.mechs)

    once : HasTicksOnce ran
    once = ticks_once form setup (moves_over form setup files order) (files_run form setup files order fit).follow keeps

    -- the ticks that were drawn, two for each command at most
    drawn : sum_by ticks_had ran.mechs ≡ length (ticks_of (report_of_run ran))
    drawn = sym (once.count ∙ (counts_ticks form setup (moves_over form setup files order) (files_run form setup files order fit).follow keeps).word)

    few_ticks : length (ticks_of (report_of_run ran)) + length (pending_of ran.mechs) ≤ 2 * sum_by length files
    few_ticks =
        let run = files_run form setup files order fit in
        let counts = counts_ticks form setup (moves_over form setup files order) run.follow keeps in
        let seats = (seats_stay form setup (moves_over form setup files order) run.follow).count in
        omega (arith, drawn, mechs_few ran.mechs files (omega (arith, seats, fit.count)) counts.few (λ seat mech at. (run.runs seat mech at).within))

    many_ticks : length (ticks_of (report_of_run ran)) ≡ 2 * length ran.receipts + length (pending_of ran.mechs)
    many_ticks =
        omega (
          arith,
          length-append (begins ++ ends) opened,
          length-append begins ends,
          length-map ran.receipts (λ (r : Receipt). r.begin),
          length-map ran.receipts (λ (r : Receipt). r.end),
          length-map (pending_of ran.mechs) (λ (p : PendingCall). p.begin),
        )

    few : length ran.receipts + length (pending_of ran.mechs) ≤ sum_by length files
    few = omega (arith, few_ticks, many_ticks)

    below : All (λ tick. tick < TICK_LIMIT) (ticks_of (report_of_run ran))
    below k d within = omega (arith, drawn_below (ticks_of (report_of_run ran)) _ once.once k d within, once.count, few_ticks, most)

    apart : (t : ℕ) → count_by (λ (c : Call). c.begin == t) (calls_of (report_of_run ran)) ≤ 1
    apart t =
        let limit : count_by (λ tick. tick == t) (ticks_of (report_of_run ran)) ≤ 1 = omega (arith, at_most t (slice_index ran.words 0), once.once t) in
        omega (
          arith,
          limit,
          sum_by-append (hits t) (begins ++ ends) opened,
          sum_by-append (hits t) begins ends,
          sum_by-map (hits t) (λ (r : Receipt). r.begin) ran.receipts,
          sum_by-map (hits t) (λ (p : PendingCall). p.begin) (pending_of ran.mechs),
          sum_by-append (λ (c : Call). hits t c.begin) (map answered_call ran.receipts) (map calls.pending_call (pending_of ran.mechs)),
          sum_by-map (λ (c : Call). hits t c.begin) answered_call ran.receipts,
          sum_by-map (λ (c : Call). hits t c.begin) calls.pending_call (pending_of ran.mechs),
        )

    module _ (replies : All (λ (r : Receipt). IsReplyTo r.op r.reply) ran.receipts) where
      -- the begin and the answer of a call can be printed
      abbrev InRange : Call → Type 0
      InRange call = (call.begin < TICK_LIMIT) × IfSome call.answer (IsPrintableAnswer call.op)

      in_range : All InRange (calls_of (report_of_run ran))
      in_range =
          let P : ℕ → Type 0 = λ tick. tick < TICK_LIMIT in
          let front = all_left P (begins ++ ends) opened below in
          let first = all_under P (λ (r : Receipt). r.begin) ran.receipts (all_left P begins ends front) in
          let second = all_under P (λ (r : Receipt). r.end) ran.receipts (all_right P begins ends front) in
          let third = all_under P (λ (p : PendingCall). p.begin) (pending_of ran.mechs) (all_right P (begins ++ ends) opened below) in
          All-append InRange (map answered_call ran.receipts) (map calls.pending_call (pending_of ran.mechs))
          (All-map InRange answered_call ran.receipts (λ k d within. (first k d within, record { reply = replies k d within; end = second k d within })))
          (All-map InRange calls.pending_call (pending_of ran.mechs) (λ k d within. (third k d within, tt)))

      pub can_be_written : CanBeWritten ran (sum_by length files)
      can_be_written =
          let report = runs_report form setup files order fit keeps in
          record {
            printable = λ k d within.
                let call = get_or (calls_of (report_of_run ran)) k d in
                let range = in_range k d within in
                printable form.object form.tellable setup files fit call (report.commands k d within) range.0 range.1;
            apart = apart;
            few = few;
          }

-- ---- every run

module _ {S W : Type 0} (form : NormalForm S W) where
  -- no move but those that draw ticks writes the tick counter, in any order of the seats
  abbrev pub OrdersKeepTicks : Type 0
  OrdersKeepTicks = (setup : Setup) (files : List (List Op)) (order : List ℕ) → FilesFit form.object setup files → KeepsTicks form setup (moves_over form setup files order)

  -- each reply is one that its command may be given
  abbrev pub RepliesFit : Type 0
  RepliesFit =
      (setup : Setup) (files : List (List Op)) (order : List ℕ) → FilesFit form.object setup files
      → All (λ (r : Receipt). IsReplyTo r.op r.reply) (run_of form setup (moves_over form setup files order)).receipts

  pub runs_can_be_written : OrdersKeepTicks → RepliesFit → RunsCanBeWritten form
  runs_can_be_written keeps replies setup files order fit = can_be_written form setup files order fit (keeps setup files order fit) (replies setup files order fit)
