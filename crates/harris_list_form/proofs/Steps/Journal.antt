-- The won exchanges: what is known of them stays so, and one more is known.
use Rattle.std.proofs.Common.{◌≡◌, ◌≢◌, ℕ, zero, suc, ◌%◌, Bool, true, false, ◌∷◌, sym, ap, ◌∙◌, subst, inl, inr, ◌⊎◌, arith}
use Rattle.std.specs.Prelude.{AllPairs}
use Rattle.std.proofs.lemmas.Bool.{true≢false}
use Rattle.lin_report.specs.declared.calls.TheConstants.{ADD, DEL}
use Rattle.word_fields.specs.Versioned.{versioned_value}
use Rattle.normal_traits.specs.World.{Listed, Maker, Cause, Won, World, Among}
use Rattle.normal_traits.specs.World.Maker.{By, Beside}
use Rattle.harris_list_form.specs.Lists.{Lists, AreLists}
use Rattle.harris_list_form.specs.Nodes.{is_node, next_at}
use Rattle.harris_list_form.specs.Path.{parity}
use Rattle.harris_list_form.specs.Shape.{LINKED, MARKED, UNLINKED, WasLinked, WasMarked, WasUnlinked, MadeChange, KnownBy, IsJournal, AreSorted}
use Rattle.harris_list_form.proofs.Held.Places.{next_versioned}
use Rattle.harris_list_form.proofs.Held.Links.{node_word}
use Rattle.harris_list_form.proofs.Steps.Later.{Later}
use Rattle.client_lemmas.proofs.Growing.{each_more, pairs_more}

-- ---- for which node an exchange was won

-- the node of a cause, as it is now: a linked node is one, a marked one is marked, an unlinked one is off
-- the path
abbrev pub IsCause : World → (ℕ → Bool) → Cause → Type 0
IsCause world path cause =
    (block : ℕ) × (is_node world.changes block ≡ true)
    × ((cause ≡ record { block = block; kind = LINKED })
    ⊎ ((parity world.words (next_at block) ≡ 1) × (cause ≡ record { block = block; kind = MARKED }))
    ⊎ ((path block ≡ false) × (cause ≡ record { block = block; kind = UNLINKED })))

unlinked_cause : (world : World) (path : ℕ → Bool) (won : Won) → WasUnlinked world path won → IsCause world path won.cause
unlinked_cause world path won was = (was.block, was.node, inr (inr (was.off, was.cause)))

pub known_cause : (world : World) (path : ℕ → Bool) (won : Won) (maker : Maker) → KnownBy world path won maker → IsCause world path won.cause
known_cause world path won (By list zero) known = by_kind known.brought
  where
    by_kind : ((list.call.op.code ≡ ADD) × WasLinked world won list) ⊎ ((list.call.op.code ≡ DEL) × WasMarked world won) → IsCause world path won.cause
    by_kind (inl linked) = (list.block, linked.1.node, inl linked.1.cause)
    by_kind (inr marked) = (marked.1.block, marked.1.node, inr (inl (marked.1.marked, marked.1.cause)))
known_cause world path won (By list (suc j)) known = unlinked_cause world path won known
known_cause world path won Beside known = unlinked_cause world path won known

-- a cause that is of no such node is new
pub new_cause : (world : World) (path : ℕ → Bool) (block kind : ℕ) (cause : Cause)
    → (kind ≡ LINKED → is_node world.changes block ≡ false) → (kind ≡ MARKED → parity world.words (next_at block) ≡ 0) → (kind ≡ UNLINKED → path block ≡ true)
    → IsCause world path cause → record { block = block; kind = kind } ≢ cause
new_cause world path block kind cause linked marked unlinked (node, is, inl e) same =
    let both = same ∙ e in
    let at : block ≡ node = ap (λ (c : Cause). c.block) both in
    true≢false (sym is ∙ ap (is_node world.changes) (sym at) ∙ linked (ap (λ (c : Cause). c.kind) both))
new_cause world path block kind cause linked marked unlinked (node, is, inr (inl (odd, e))) same =
    let both = same ∙ e in
    let at : block ≡ node = ap (λ (c : Cause). c.block) both in
    omega (arith, odd, ap (λ b. parity world.words (next_at b)) at, marked (ap (λ (c : Cause). c.kind) both))
new_cause world path block kind cause linked marked unlinked (node, is, inr (inr (off, e))) same =
    let both = same ∙ e in
    let at : block ≡ node = ap (λ (c : Cause). c.block) both in
    true≢false (sym (unlinked (ap (λ (c : Cause). c.kind) both)) ∙ ap path at ∙ off)

-- ---- what is known stays so

module _ (lists : Lists) (are : AreLists lists) (world after : World) (sorted : AreSorted lists world) (kept : Later lists are world after) (path path' : ℕ → Bool)
    (off : (block : ℕ) → is_node world.changes block ≡ true → path block ≡ false → path' block ≡ false) where
  value_stays : (block : ℕ) → is_node world.changes block ≡ true → parity world.words (next_at block) ≡ 1 → versioned_value (after.words (next_at block)) ≡ versioned_value (world.words (next_at block))
  value_stays block node odd = kept.moves (next_at block) (node_word lists are world sorted block node) (next_versioned lists are block) odd

  unlinked_stays : (won : Won) → WasUnlinked world path won → WasUnlinked after path' won
  unlinked_stays won was = record { block = was.block; node = kept.extends.nodes was.block was.node; off = off was.block was.node was.off; cause = was.cause }

  made_stays : (won : Won) (list : Listed) → MadeChange world won list → MadeChange after won list
  made_stays won list made = record { change = kept.extends.among _ made.change; brought = by_kind made.brought }
    where
      by_kind : ((list.call.op.code ≡ ADD) × WasLinked world won list) ⊎ ((list.call.op.code ≡ DEL) × WasMarked world won) → ((list.call.op.code ≡ ADD) × WasLinked after won list) ⊎ ((list.call.op.code ≡ DEL) × WasMarked after won)
      by_kind (inl linked) = inl (linked.0, record { node = kept.extends.nodes list.block linked.1.node; cause = linked.1.cause })
      by_kind (inr marked) =
          let was = marked.1 in
          let same = value_stays was.block was.node was.marked in
          inr (
            marked.0,
            record {
              block = was.block;
              node = kept.extends.nodes was.block was.node;
              marked = ap (λ v. v % 2) same ∙ was.marked;
              place = was.place;
              stays = same ∙ was.stays;
              cause = was.cause;
            },
          )

  known_stays : (won : Won) (maker : Maker) → KnownBy world path won maker → KnownBy after path' won maker
  known_stays won (By list zero) known = made_stays won list known
  known_stays won (By list (suc j)) known = unlinked_stays won known
  known_stays won Beside known = unlinked_stays won known

  -- nothing was won
  pub journal_stays : IsJournal world path → after.journal ≡ world.journal → IsJournal after path'
  journal_stays journal same =
      record {
        known = λ won a. known_stays won won.maker (journal.known won (subst (Among won) same a));
        causes_differ = subst (AllPairs (λ (a b : Won). a.cause ≢ b.cause)) (sym same) journal.causes_differ;
      }

  -- one more was won, for a cause that is new
  pub journal_grows : IsJournal world path → (item : Won) → after.journal ≡ item ∷ world.journal → KnownBy after path' item item.maker → ((cause : Cause) → IsCause world path cause → item.cause ≢ cause) → IsJournal after path'
  journal_grows journal item same known new =
      record {
        known = each_more (λ (won : Won). KnownBy after path' won won.maker) item world.journal after.journal same known (λ won old. known_stays won won.maker (journal.known won old));
        causes_differ = pairs_more (λ (a b : Won). a.cause ≢ b.cause) item world.journal after.journal same (λ b a. new b.cause (known_cause world path b b.maker (journal.known b a))) journal.causes_differ;
      }
