-- What is held after one change more, and that it really changed.
use Rattle.std.proofs.Common.{◌≡◌, ℕ, suc, ◌+◌, ◌<◌, ◌≤◌, true, false, eqb, List, [], ◌∷◌, ◌++◌, length, get_or, length-append, refl, sym, ap, ◌∙◌, inl, inr, ◌⊎◌, Some, arith}
use Rattle.std.specs.Prelude.{slice_get, if◌then◌else◌}
use Rattle.std.proofs.lemmas.Bool.{cond-true, cond-false, cases_lt, eq-eqb}
use Rattle.std.proofs.lemmas.List.{get_or_append_left}
use Rattle.std.proofs.Math.Seq.{get_or-append_seam}
use Rattle.lin_report.specs.declared.calls.Op.{Op}
use Rattle.lin_report.specs.declared.calls.Reply.{Reply}
use Rattle.lin_report.specs.declared.calls.Reply.TheVariants.{Done, Value}
use Rattle.lin_report.specs.declared.calls.TheConstants.{PUT, TAKE, PEEK}
use Rattle.lin_report.specs.Object.{queue_object, queue_apply, take_first, value_or_empty}
use Rattle.normal_traits.specs.World.{Change, held_after, Observes}
use Rattle.ms_queue_form.specs.Search.{is_put}
use Rattle.ms_queue_form.specs.Chain.{puts_one, puts, takes, put_value}
use Rattle.ms_queue_form.specs.Shape.{HoldsBehind}
use Rattle.ms_queue_form.proofs.Changes.{extends_more, puts-put, takes-put, puts-take, takes-take, value-put, value-take}

-- ---- one operation

pub puts_is : (op : Op) → op.code ≡ PUT → is_put op ≡ true
puts_is op e = eq-eqb op.code PUT e

pub takes_is : (op : Op) → op.code ≡ TAKE → is_put op ≡ false
takes_is op e = ap (λ code. eqb code PUT) e

-- what take and peek leave and reply
abbrev else_applied : Op → List ℕ → List ℕ × Reply
else_applied op values = if eqb op.code TAKE then take_first values else (values, value_or_empty (slice_get values 0))

pub apply-put : (op : Op) (values : List ℕ) → is_put op ≡ true → queue_apply op values ≡ (values ++ op.value ∷ [], Done)
apply-put op values put = cond-true (is_put op) (values ++ op.value ∷ [], Done) (else_applied op values) put

pub apply-take : (op : Op) (values : List ℕ) → op.code ≡ TAKE → queue_apply op values ≡ take_first values
apply-take op values take =
    cond-false (is_put op) (values ++ op.value ∷ [], Done) (else_applied op values) (takes_is op take)
    ∙ cond-true (eqb op.code TAKE) (take_first values) (values, value_or_empty (slice_get values 0)) (eq-eqb op.code TAKE take)

pub apply-peek : (op : Op) (values : List ℕ) → op.code ≡ PEEK → queue_apply op values ≡ (values, value_or_empty (slice_get values 0))
apply-peek op values peek =
    cond-false (is_put op) (values ++ op.value ∷ [], Done) (else_applied op values) (ap (λ code. eqb code PUT) peek)
    ∙ cond-false (eqb op.code TAKE) (take_first values) (values, value_or_empty (slice_get values 0)) (ap (λ code. eqb code TAKE) peek)

take_shorter : (values : List ℕ) → 0 < length values → length (take_first values).0 + 1 ≡ length values
take_shorter [] some = absurd (omega arith)
take_shorter (value ∷ values) some = omega arith

take_rest : (values : List ℕ) (i : ℕ) → 0 < length values → get_or (take_first values).0 i 0 ≡ get_or values (suc i) 0
take_rest [] i some = absurd (omega arith)
take_rest (value ∷ values) i some = refl

take_reply : (values : List ℕ) → 0 < length values → (take_first values).1 ≡ Value (get_or values 0 0)
take_reply [] some = absurd (omega arith)
take_reply (value ∷ values) some = refl

-- the first value, where there is one
first_is : (values : List ℕ) → 0 < length values → slice_get values 0 ≡ Some (get_or values 0 0)
first_is [] some = absurd (omega arith)
first_is (value ∷ values) some = refl

-- the first value of a queue that holds some is that of the node behind the head
pub first_held : (changes : List Change) → HoldsBehind changes → takes changes < puts changes → slice_get (held_after queue_object changes) 0 ≡ Some (put_value changes (takes changes + 1))
first_held changes holds some =
    let nonempty : 0 < length (held_after queue_object changes) = omega (arith, holds.count, some) in
    let place : takes changes + 0 + 1 ≡ takes changes + 1 = omega arith in
    first_is (held_after queue_object changes) nonempty ∙ ap Some (holds.at 0 nonempty ∙ ap (put_value changes) place)

pub take_empty : (values : List ℕ) → length values ≡ 0 → values ≡ []
take_empty [] none = refl
take_empty (value ∷ values) none = absurd (omega (arith, none))

module _ (change : Change) (changes : List Change) (holds : HoldsBehind changes) where
  held : List ℕ
  held = held_after queue_object changes

  -- ---- a put

  module _ (put : puts_one change ≡ true) where
    after_put : held_after queue_object (change ∷ changes) ≡ held_after queue_object changes ++ change.list.call.op.value ∷ []
    after_put = ap (λ (r : List ℕ × Reply). r.0) (apply-put change.list.call.op (held_after queue_object changes) put)

    put_at : (i : ℕ) → (i < length (held_after queue_object changes)) ⊎ (length (held_after queue_object changes) ≤ i) → i < length (held_after queue_object changes) + 1
        → get_or (held_after queue_object changes ++ change.list.call.op.value ∷ []) i 0 ≡ put_value (change ∷ changes) (takes changes + i + 1)
    put_at i (inl old) below =
        get_or_append_left (held_after queue_object changes) (change.list.call.op.value ∷ []) 0 i old ∙ holds.at i old
        ∙ sym ((extends_more change changes).values (takes changes + i + 1) (omega (arith, holds.count)))
    put_at i (inr new) below =
        let at : i ≡ length (held_after queue_object changes) = omega arith in
        let place : takes changes + i + 1 ≡ puts changes + 1 = omega (arith, holds.count, at) in
        ap (λ n. get_or (held_after queue_object changes ++ change.list.call.op.value ∷ []) n 0) at
        ∙ get_or-append_seam (held_after queue_object changes) change.list.call.op.value [] 0
        ∙ sym (value-put change changes put) ∙ ap (put_value (change ∷ changes)) (sym place)

    pub holds_put : HoldsBehind (change ∷ changes)
    holds_put =
        record {
          count = omega (arith, ap length after_put, length-append (held_after queue_object changes) (change.list.call.op.value ∷ []), puts-put change changes put, takes-put change changes put, holds.count);
          at = λ i below.
              let within : i < length (held_after queue_object changes) + 1 = omega (arith, ap length after_put, length-append (held_after queue_object changes) (change.list.call.op.value ∷ []), below) in
              ap (λ (values : List ℕ). get_or values i 0) after_put ∙ put_at i (cases_lt i (length (held_after queue_object changes))) within
              ∙ ap (λ n. put_value (change ∷ changes) (n + i + 1)) (sym (takes-put change changes put));
        }

    pub effective_put : ¬ Observes queue_object change.list.call.op (held_after queue_object changes)
    effective_put e = omega (arith, ap length (sym after_put ∙ e), length-append (held_after queue_object changes) (change.list.call.op.value ∷ []))

  -- ---- a take

  module _ (code : change.list.call.op.code ≡ TAKE) (some : takes changes < puts changes) where
    take : puts_one change ≡ false
    take = takes_is change.list.call.op code

    nonempty : 0 < length (held_after queue_object changes)
    nonempty = omega (arith, holds.count, some)

    after_take : held_after queue_object (change ∷ changes) ≡ (take_first (held_after queue_object changes)).0
    after_take = ap (λ (r : List ℕ × Reply). r.0) (apply-take change.list.call.op (held_after queue_object changes) code)

    shorter : length (held_after queue_object (change ∷ changes)) + 1 ≡ length (held_after queue_object changes)
    shorter = ap (λ (values : List ℕ). length values + 1) after_take ∙ take_shorter (held_after queue_object changes) nonempty

    pub holds_take : HoldsBehind (change ∷ changes)
    holds_take =
        record {
          count = omega (arith, shorter, puts-take change changes take, takes-take change changes take, holds.count);
          at = λ i below.
              let within : suc i < length (held_after queue_object changes) = omega (arith, shorter, below) in
              let place : takes changes + suc i + 1 ≡ takes (change ∷ changes) + i + 1 = omega (arith, takes-take change changes take) in
              ap (λ (values : List ℕ). get_or values i 0) after_take ∙ take_rest (held_after queue_object changes) i nonempty
              ∙ holds.at (suc i) within ∙ ap (put_value changes) place ∙ sym (value-take change changes take (takes (change ∷ changes) + i + 1));
        }

    pub effective_take : ¬ Observes queue_object change.list.call.op (held_after queue_object changes)
    effective_take e = omega (arith, ap length (sym after_take ∙ e), take_shorter (held_after queue_object changes) nonempty)

    pub reply_take : (queue_apply change.list.call.op (held_after queue_object changes)).1 ≡ Value (put_value changes (takes changes + 1))
    reply_take =
        ap (λ (r : List ℕ × Reply). r.1) (apply-take change.list.call.op (held_after queue_object changes) code)
        ∙ take_reply (held_after queue_object changes) nonempty
        ∙ ap Value (holds.at 0 nonempty ∙ ap (put_value changes) first_place)
      where
        first_place : takes changes + 0 + 1 ≡ takes changes + 1
        first_place = omega arith
