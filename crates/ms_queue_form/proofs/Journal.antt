-- The won exchanges: what is known of them stays so, and one more is known.
use Rattle.std.proofs.Common.{◌≡◌, ◌≢◌, ℕ, ◌+◌, ◌<◌, ◌≤◌, Bool, true, false, cond, eqb, ◌∷◌, sym, ap, ◌∙◌, subst, arith}
use Rattle.std.specs.Prelude.{AllPairs}
use Rattle.lin_report.specs.declared.calls.Reply.{Reply}
use Rattle.lin_report.specs.declared.calls.Reply.TheVariants.{Done, Value}
use Rattle.word_fields.specs.Versioned.{versioned_version}
use Rattle.node_arena.specs.declared.places.TheConstants.{TAIL}
use Rattle.normal_traits.specs.World.{Listed, Maker, Cause, Won, World, Among}
use Rattle.normal_traits.specs.World.Maker.{By, Beside}
use Rattle.ms_queue_form.specs.Search.{is_put}
use Rattle.ms_queue_form.specs.Chain.{puts, takes, node_block}
use Rattle.ms_queue_form.specs.Shape.{kind_of, IsChain, HasEnds, reached, reply_at, MadeWell, BroughtIn, IsJournal}
use Rattle.ms_queue_form.proofs.Changes.{same_node_at, same_next_of}
use Rattle.ms_queue_form.proofs.Later.{Later}
use Rattle.client_lemmas.proofs.Growing.{each_more, pairs_more}

-- ---- how far each kind has come

of_kind : (a b : Bool) (x y z n : ℕ) → x ≤ n → y ≤ n → z ≤ n → cond a x (cond b y z) ≤ n
of_kind true b x y z n first second third = first
of_kind false true x y z n first second third = second
of_kind false false x y z n first second third = third

pub reached_within : (world : World) → HasEnds world → (kind : ℕ) → reached world kind ≤ puts world.changes
reached_within world ends kind =
    of_kind (eqb kind 0) (eqb kind 1) (puts world.changes) (takes world.changes) (versioned_version (world.words TAIL)) (puts world.changes)
    (omega arith) (omega (arith, ends.behind, ends.within)) ends.within

kinds_grow : (a b : Bool) (x y z x' y' z' : ℕ) → x ≤ x' → y ≤ y' → z ≤ z' → cond a x (cond b y z) ≤ cond a x' (cond b y' z')
kinds_grow true b x y z x' y' z' first second third = first
kinds_grow false true x y z x' y' z' first second third = second
kinds_grow false false x y z x' y' z' first second third = third

module _ (world after : World) (kept : Later world after) (tail : versioned_version (world.words TAIL) ≤ versioned_version (after.words TAIL)) where
  pub reached_grows : (kind : ℕ) → reached world kind ≤ reached after kind
  reached_grows kind =
      kinds_grow (eqb kind 0) (eqb kind 1) (puts world.changes) (takes world.changes) (versioned_version (world.words TAIL)) (puts after.changes) (takes after.changes) (versioned_version (after.words TAIL))
      kept.extends.puts_grow kept.extends.takes_grow tail

  -- ---- what is known of a won exchange

  reply_stays : (list : Listed) (k : ℕ) → k ≤ puts world.changes → reply_at world.changes list k ≡ reply_at after.changes list k
  reply_stays list k low = ap (λ (value : ℕ). cond (is_put list.call.op) Done (Value value)) (sym (kept.extends.values k low))

  made_stays : (won : Won) (before : ℕ) → before + 1 ≤ puts world.changes → (maker : Maker) → MadeWell world won before maker → MadeWell after won before maker
  made_stays won before low (By list j) made = (
    made.0,
    record {
      change = subst (λ (reply : Reply). Among (record { list = list; reply = reply }) after.changes) (reply_stays list (before + 1) low) (kept.extends.among _ made.1.change);
      place = λ put. made.1.place put ∙ sym (same_next_of world.changes after.changes kept.extends before (omega arith));
    },
  )
  made_stays won before low Beside made = tt

  pub known_stays : HasEnds world → (won : Won) → BroughtIn world won → BroughtIn after won
  known_stays ends won known =
      let low : known.before + 1 ≤ puts world.changes = omega (arith, known.within, reached_within world ends (kind_of won.maker)) in
      record {
        before = known.before;
        within = omega (arith, known.within, reached_grows (kind_of won.maker));
        node = known.node ∙ sym (same_node_at world.changes after.changes kept.extends (known.before + 1) low);
        cause = known.cause ∙ ap (λ (block : ℕ). record { block = block; kind = kind_of won.maker }) (sym (kept.extends.blocks (known.before + 1) low));
        made = made_stays won known.before low won.maker known.made;
      }

  -- nothing was won
  pub journal_stays : HasEnds world → IsJournal world → after.journal ≡ world.journal → IsJournal after
  journal_stays ends journal same =
      record {
        known = λ won a. known_stays ends won (journal.known won (subst (Among won) same a));
        causes_differ = subst (AllPairs (λ (a b : Won). a.cause ≢ b.cause)) (sym same) journal.causes_differ;
      }

  -- one more was won, for the first node that its kind had not reached
  pub journal_grows : HasEnds world → IsJournal world → IsChain after → (item : Won) → after.journal ≡ item ∷ world.journal → (known : BroughtIn after item)
      → known.before ≡ reached world (kind_of item.maker) → known.before + 1 ≤ puts after.changes → IsJournal after
  journal_grows ends journal chain item same known next within =
      record {
        known = each_more (BroughtIn after) item world.journal after.journal same known (λ won old. known_stays ends won (journal.known won old));
        causes_differ = pairs_more (λ (a b : Won). a.cause ≢ b.cause) item world.journal after.journal same differs journal.causes_differ;
      }
    where
      differs : (b : Won) → Among b world.journal → item.cause ≢ b.cause
      differs b old e =
          let was = journal.known b old in
          let low : was.before + 1 ≤ puts world.changes = omega (arith, was.within, reached_within world ends (kind_of b.maker)) in
          let both = sym known.cause ∙ e ∙ was.cause in
          let kind : kind_of item.maker ≡ kind_of b.maker = ap (λ (cause : Cause). cause.kind) both in
          let earlier : was.before < known.before = omega (arith, was.within, next, ap (reached world) kind) in
          let block : node_block after.changes (known.before + 1) ≡ node_block world.changes (was.before + 1) = ap (λ (cause : Cause). cause.block) both in
          chain.apart (was.before + 1) (known.before + 1) (omega arith) within (kept.extends.blocks (was.before + 1) low ∙ sym block)
