use Rattle.std.proofs.Common.{◌≡◌, ◌∙◌, ◌+◌, ◌-◌, ◌++◌, ◌∷◌, [], true, false, refl, sym, ap, arith, subst, length, length-append, length-set, drop}
use Rattle.word_fields.specs.Seats.{AreMembers, names_another, places_of, seats_named}
use Rattle.word_fields.proofs.MembersOfWords.{another_is, no_members, none_yet, one_more, real}
use Rattle.word_fields.proofs.SeatsOfQueueWords.{read_end, read_last, read_more, read_start, length-places_of}
use Rattle.word_fields.proofs.queues.read_seats.Goals as goal
use Rattle.word_fields.proofs.queues.read_seats.Goals.{else-loop-place-test, then-loop-place-test+then-not-is_another}

pub loop-place-init : goal.loop-place-init
loop-place-init c =
    let none = c.new-seats.ensures in
    (ap length none, refl, subst (AreMembers no_members) (sym none) none_yet, ap (λ seats. seats_named seats (places_of c.args.word)) none ∙ read_start c.args.word)

pub loop-place-preserved : goal.loop-place-preserved
loop-place-preserved c =
    let seats = c.loop-place.seats.items in
    let named = c.place_at-named.result in
    let place = c.loop-place.place in
    let other : names_another seats named ≡ true = sym (another_is c.loop-place.members seats c.loop-place.invariant.2 named) ∙ sym c.is_another.ensures ∙ c.if-not-is_another.false in
    let few = real seats named other in
    let long = c.loop-place.invariant.1 in
    let count = c.loop-place.invariant.0 in
    let more = length-append seats ((named - 1) ∷ []) in
    let pushed = ap length c.push.ensures.items in
    let within = length-places_of c.args.word in
    let reads = read_more c.args.word place seats (omega (arith, within, c.loop-place-test.true)) (subst (λ n. names_another seats n ≡ true) c.place_at-named.ensures other) in (
      omega (arith, pushed, more, count),
      length-set c.loop-place.members (named - 1) true ∙ long,
      subst (AreMembers _) (sym c.push.ensures.items) (one_more c.loop-place.members seats c.loop-place.invariant.2 (named - 1) (omega (arith, few, long))),
      ap (λ items. seats_named items (drop (place + 1) (places_of c.args.word))) (c.push.ensures.items ∙ ap (λ n. seats ++ (n - 1) ∷ []) c.place_at-named.ensures) ∙ sym reads ∙ c.loop-place.invariant.3,
    )

pub returns-clause-seats : goal.returns-clause-seats
returns-clause-seats c =
    let seats = c.loop-place.seats.items in
    let word = c.args.word in
    let place = c.loop-place.place in
    let within = length-places_of word in
    elim c.loop-place-test.branch [
      | else-loop-place-test w ↦ (
          let past : place ≡ 8 = omega (arith, w.loop-place-test.false, c.loop-place.auto.place-end) in
          sym (read_end word seats) ∙ ap (λ p. seats_named seats (drop p (places_of word))) (sym past) ∙ c.loop-place.invariant.3)
      | then-loop-place-test+then-not-is_another w ↦ (
          let none : names_another seats w.place_at-named.result ≡ false = sym (another_is c.loop-place.members seats c.loop-place.invariant.2 w.place_at-named.result) ∙ sym w.is_another.ensures ∙ w.if-not-is_another.true in
          sym (read_last word place seats (omega (arith, within, w.loop-place-test.true)) (subst (λ n. names_another seats n ≡ false) w.place_at-named.ensures none)) ∙ c.loop-place.invariant.3)
    ]

pub returns-clause-members : goal.returns-clause-members
returns-clause-members c = subst (AreMembers c.loop-place.members) (returns-clause-seats c) c.loop-place.invariant.2
