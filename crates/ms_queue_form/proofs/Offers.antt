-- Why a search of the queue gives up, and what is true of the list that it names.
use Rattle.std.proofs.Common.{◌≡◌, ℕ, ◌^◌, ◌<◌, Bool, true, false, cond, eqb, [], ◌∷◌, refl, sym, ap, ◌∙◌, subst, inl, inr, arith}
use Rattle.std.specs.Prelude.{IsTrue}
use Rattle.std.proofs.lemmas.Bool.{true≢false, false≢true, eqb-true, cond-true, cond-false}
use Rattle.std.proofs.lemmas.List.Elements.{All-nil, All-cons}
use Rattle.lin_report.specs.declared.calls.Op.{Op}
use Rattle.lin_report.specs.declared.calls.Reply.TheVariants.{Empty}
use Rattle.lin_report.specs.declared.calls.Outcome.TheVariants.{Plain}
use Rattle.lin_report.specs.declared.calls.TheConstants.{PUT, TAKE}
use Rattle.lin_report.specs.Commands.{may_exhaust}
use Rattle.lin_report.specs.Object.{IsCommandOf, queue_object}
use Rattle.step_memory.specs.declared.steps.Seen.{Seen}
use Rattle.word_fields.specs.Versioned.{versioned_value, versioned_bit, versioned_version, is_modified, value_below, changed_word}
use Rattle.node_arena.specs.declared.places.TheConstants.{HEAD, TAIL, NODE_VALUE, NODE_NEXT}
use Rattle.node_arena.specs.MemoryMap.{node_place, reference_to}
use Rattle.node_arena.proofs.PlacesApart.{node_place-reference_to}
use Rattle.normal_traits.specs.declared.form.Found.{Found}
use Rattle.normal_traits.specs.declared.form.Found.TheVariants.{Going, Ready, Answer, Contended}
use Rattle.normal_traits.specs.World.{World}
use Rattle.normal_traits.specs.Laws.{MayContend, IsGoodStore, IsGoodOffer}
use Rattle.ms_queue_form.specs.declared.states.QueueSearch.{QueueSearch}
use Rattle.ms_queue_form.specs.declared.states.QueueSearch.TheVariants.{PutTail, PutNext, PutHelp, PutReady, TakeHead, TakeTail, TakeNext, TakeHelp, TakeReady}
use Rattle.ms_queue_form.specs.Search.{is_put, fed, IsReady, offered, put_offer, take_offer, next_place, moved_word}
use Rattle.ms_queue_form.specs.Chain.{node_block, is_listable}
use Rattle.ms_queue_form.specs.Shape.{IsQueue}
use Rattle.ms_queue_form.specs.Knowledge.{Learnt, Serves}
use Rattle.ms_queue_form.specs.Form.{queue_form}
use Rattle.ms_queue_form.proofs.Places.{value_not_versioned, next_listable}
use Rattle.ms_queue_form.proofs.LearntStays.{next_place_is, next_place_word, next_place_versioned}
use Rattle.ms_queue_form.proofs.History.{puts_is}
use Rattle.client_lemmas.proofs.Places.{apart_fields}
use Rattle.client_lemmas.proofs.Offers.{may_exhaust_at, one_entry, two_apart}
use Rattle.client_lemmas.proofs.Outcomes.{gives_up, gave_up}

-- ---- giving up

abbrev gives : QueueSearch × Found → Bool
gives result = gives_up result.1

pub contends : (searched : QueueSearch) (seen : Seen) → (fed searched seen).1 ≡ Contended → MayContend queue_form searched seen
contends (PutNext tail) seen e = by_null (eqb (versioned_value seen.before) 0) (is_modified seen.before) refl (gave_up _ e)
  where
    by_null : (null set : Bool) → is_modified seen.before ≡ set → gives (cond null (cond set (PutNext tail, Contended) (PutReady tail seen.before, Ready)) (PutHelp tail seen.before, Going)) ≡ true → MayContend queue_form (PutNext tail) seen
    by_null true true set up = inl (seen.before, refl, eqb-true (versioned_bit seen.before) 1 set)
    by_null true false set up = absurd (false≢true up)
    by_null false set is up = absurd (false≢true up)
contends (PutHelp tail next) seen e = by_won seen.won refl (gave_up _ e)
  where
    by_won : (won : Bool) → seen.won ≡ won → gives (cond won (PutTail, Going) (PutHelp tail next, Contended)) ≡ true → MayContend queue_form (PutHelp tail next) seen
    by_won true is up = absurd (false≢true up)
    by_won false is up = inr (inl (TAIL, tail, moved_word tail next, refl, is))
contends TakeHead seen e = by_bit (is_modified seen.before) refl (gave_up _ e)
  where
    by_bit : (set : Bool) → is_modified seen.before ≡ set → gives (cond set (TakeHead, Contended) (TakeTail seen.before, Going)) ≡ true → MayContend queue_form TakeHead seen
    by_bit true is up = inl (seen.before, refl, eqb-true (versioned_bit seen.before) 1 is)
    by_bit false is up = absurd (false≢true up)
contends (TakeNext head tail) seen e = by_null (eqb (versioned_value seen.before) 0) (eqb (versioned_value tail) (versioned_value head)) (gave_up _ e)
  where
    by_null : (null same : Bool) → gives (cond null (TakeNext head tail, Answer (Plain Empty)) (cond same (TakeHelp tail seen.before, Going) (TakeReady head seen.before, Ready))) ≡ true → MayContend queue_form (TakeNext head tail) seen
    by_null true same up = absurd (false≢true up)
    by_null false true up = absurd (false≢true up)
    by_null false false up = absurd (false≢true up)
contends (TakeHelp tail next) seen e = by_won seen.won refl (gave_up _ e)
  where
    by_won : (won : Bool) → seen.won ≡ won → gives (cond won (TakeHead, Going) (TakeHelp tail next, Contended)) ≡ true → MayContend queue_form (TakeHelp tail next) seen
    by_won true is up = absurd (false≢true up)
    by_won false is up = inr (inl (TAIL, tail, moved_word tail next, refl, is))
contends _ seen e = absurd (false≢true (gave_up _ e))

-- ---- the list

pub lists : (searched : QueueSearch) (op : Op) → IsReady searched → Serves searched op → IsTrue (may_exhaust op)
lists (PutReady tail next) op ready serves = may_exhaust_at op PUT serves refl
lists (TakeReady head next) op ready serves = may_exhaust_at op TAKE serves refl
lists _ op ready serves = absurd ready

pub take_offers : (world : World) (head next block : ℕ) → IsQueue world → Learnt (TakeReady head next) world 0 → IsGoodOffer queue_form world block (take_offer head next)
take_offers world head next block queue l =
    one_entry queue_form world block (record { target = HEAD; from = head; to = moved_word head next }) []
    (record { word = refl; versioned = refl; listable = refl; clear = l.0.clear; seen = l.0.seen; changed = (versioned_value next, value_below next, refl) })
    (All-nil (IsGoodStore queue_form block)) (λ i j d order low. absurd (omega arith)) (omega arith)

pub put_offers : (world : World) (tail next value block : ℕ) → IsQueue world → Learnt (PutReady tail next) world 0 → value < 2 ^ 32 → block < 2 ^ 17 → IsGoodOffer queue_form world block (put_offer tail next value block)
put_offers world tail next value block queue l fits small =
    let at = next_place_is world tail l.0 in
    one_entry queue_form world block (record { target = next_place tail; from = next; to = changed_word next (reference_to block 1) })
    ((node_place (reference_to block 1) NODE_VALUE, value) ∷ (node_place (reference_to block 1) NODE_NEXT, 0) ∷ [])
    (record {
      word = next_place_word world tail queue l.0;
      versioned = next_place_versioned world tail l.0;
      listable = ap is_listable at ∙ next_listable (node_block world.changes (versioned_version tail));
      clear = l.3;
      seen = l.1;
      changed = (reference_to block 1, omega (arith, small), refl);
    })
    (All-cons (IsGoodStore queue_form block) (node_place (reference_to block 1) NODE_VALUE, value) ((node_place (reference_to block 1) NODE_NEXT, 0) ∷ [])
    (record {
      field = 13;
      behind = omega arith;
      within = omega arith;
      place = node_place-reference_to block 1 NODE_VALUE (omega arith) (omega arith);
      word = omega (arith, fits);
      versioned = λ is. absurd (true≢false (sym is ∙ value_not_versioned block));
    })
    (All-cons (IsGoodStore queue_form block) (node_place (reference_to block 1) NODE_NEXT, 0) []
    (record {
      field = 14;
      behind = omega arith;
      within = omega arith;
      place = node_place-reference_to block 1 NODE_NEXT (omega arith) (omega arith);
      word = omega arith;
      versioned = λ is. omega arith;
    })
    (All-nil (IsGoodStore queue_form block))))
    (two_apart (node_place (reference_to block 1) NODE_VALUE, value) (node_place (reference_to block 1) NODE_NEXT, 0) (apart_fields block block NODE_VALUE NODE_NEXT (omega arith) (omega arith) (λ e. omega (arith, e)))) (omega arith)

pub offers : (world : World) (searched : QueueSearch) (op : Op) (since block : ℕ) → IsCommandOf queue_object op → IsQueue world → Serves searched op → Learnt searched world since → IsReady searched → block < 2 ^ 17 → IsGoodOffer queue_form world block (offered searched op block)
offers world (PutReady tail next) op since block command queue serves l ready small =
    subst (IsGoodOffer queue_form world block) (sym (ap (put_offer tail next op.value) (cond-true (is_put op) block 0 (puts_is op serves))))
    (put_offers world tail next op.value block queue l (omega (arith, command.value)) small)
offers world (TakeReady head next) op since block command queue serves l ready small = take_offers world head next block queue l
offers world _ op since block command queue serves l ready small = absurd ready

-- only a put's list uses the block
pub same_entries : (searched : QueueSearch) (op : Op) (block other : ℕ) → is_put op ≡ false → (offered searched op block).entries ≡ (offered searched op other).entries
same_entries (PutReady tail next) op block other take =
    ap (λ b. (put_offer tail next op.value b).entries) (cond-false (is_put op) block 0 take ∙ sym (cond-false (is_put op) other 0 take))
same_entries _ op block other take = refl
