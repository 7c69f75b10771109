-- Steps that leave the words of the queue: they keep all that holds of the queue, and what the machine is left to show is what
-- it knows itself.
use Rattle.std.proofs.Common.{◌≡◌, ◌≢◌, ℕ, ◌<◌, ◌≤◌, false, List, length, refl, ap, sym, ◌∙◌, subst, arith, inl, inr, ◌⊎◌}
use Rattle.std.specs.Prelude.{slice_index}
use Rattle.step_memory.specs.declared.steps.Request.{Request}
use Rattle.step_memory.specs.declared.steps.Request.TheVariants.{Load}
use Rattle.step_memory.specs.declared.steps.Seen.{Seen}
use Rattle.step_memory.specs.Step.{requested_place, words_after, seen_of}
use Rattle.step_memory.proofs.Words.{load_keeps, word_elsewhere}
use Rattle.word_fields.specs.Records.{record_phase, record_number, record_of}
use Rattle.node_arena.specs.MemoryMap.{op_place, record_place, value_place}
use Rattle.op_record.specs.Progress.{IsEarlier}
use Rattle.help_queue.specs.Gathers.{holds, leads, is_open}
use Rattle.help_queue_laws.specs.declared.phases.QueuePhase as queue
use Rattle.help_queue_laws.specs.Ghosts.{Ghosts, announces}
use Rattle.help_queue_laws.proofs.Known.Scenes.{Scene, scene_of, IsOut, IsInOrDone, IsSound, Later}
use Rattle.help_queue_laws.proofs.Known.Knowledge.{IsMine, IsFree, IsHelped}
use Rattle.help_queue_laws.proofs.Acts.QuietActs.{Quiet, quiet_later, quiet_sound}
use Rattle.help_queue_laws.proofs.Known.Frames.{Agrees}
use Rattle.help_queue_laws.proofs.Steps.Results.{scene_after, besides, announced_stays, seat_same}
use Rattle.fast_slow_engine.specs.Mechs.{Mech}
use Rattle.run_queue.specs.Fits.{PhaseFits}
use Rattle.run_queue.specs.Premises.{IsQueuePlace, LeavesQueue}
use Rattle.run_queue.proofs.Views.CallViews.{KnowsQueue}

-- what is to be shown of a step of a machine: the scene stays sound, others keep what they know, and the machine
-- knows its part and fits its record
pub record Goes {S W : Type 0} (seats i : ℕ) (words : List ℕ) (ghosts : Ghosts) (at : queue.QueuePhase) (request : Request) (new : Seen → Mech S W) : Type 0 where
  pub sound : IsSound (scene_after i words ghosts at request)
  pub later : Later seats i (scene_of words ghosts) (scene_after i words ghosts at request)
  pub knows : KnowsQueue (scene_after i words ghosts at request) seats i (new (seen_of request words))
  pub fits : PhaseFits seats (new (seen_of request words)).phase

-- ---- requests that leave the queue's words

pub leaves_elsewhere : (request : Request) (words : List ℕ) → ((place : ℕ) → IsQueuePlace place → place ≢ requested_place request) → LeavesQueue request words
leaves_elsewhere request words apart place is = word_elsewhere request words place (apart place is)

pub leaves_same : (request : Request) (words : List ℕ) → words_after request words ≡ words → LeavesQueue request words
leaves_same request words same place is = ap (λ l. slice_index l place) same

pub leaves_load : (at : ℕ) (words : List ℕ) → LeavesQueue (Load at) words
leaves_load at words = leaves_same (Load at) words (load_keeps at words)

-- requests at a place behind the first words, and at the two counters
pub leaves_behind : (request : Request) (words : List ℕ) → 32 ≤ requested_place request → LeavesQueue request words
leaves_behind request words behind =
    leaves_elsewhere request words (λ place is same. elim is [
      | inl queue ↦ absurd (omega (arith, queue, same, behind))
      | inr (inl low) ↦ (let below = low.1 in absurd (omega (arith, below, same, behind)))
      | inr (inr high) ↦ (let below = high.1 in absurd (omega (arith, below, same, behind)))
    ])

pub leaves_counter : (request : Request) (words : List ℕ) → (requested_place request ≡ 0) ⊎ (requested_place request ≡ 2) → LeavesQueue request words
leaves_counter request words counter =
    let small : requested_place request ≢ 1 = elim counter [ inl zero' ↦ (λ e. omega (arith, zero', e)) | inr two ↦ (λ e. omega (arith, two, e)) ] in
    let below : requested_place request < 4 = elim counter [ inl zero' ↦ omega (arith, zero') | inr two ↦ omega (arith, two) ] in
    leaves_elsewhere request words (λ place is same. elim is [
      | inl queue ↦ small (omega (arith, queue, same))
      | inr (inl low) ↦ (let above = low.0 in absurd (omega (arith, above, same, below)))
      | inr (inr high) ↦ (let above = high.0 in absurd (omega (arith, above, same, below)))
    ])

pub agrees_of : (request : Request) (words : List ℕ) → LeavesQueue request words → Agrees words (words_after request words)
agrees_of request words leaves = record {
  queue = leaves 1 (inl refl);
  records = λ t few. leaves (record_place t) (inr (inl (omega arith, omega (arith, few))));
  ops = λ t few. leaves (op_place t) (inr (inl (omega arith, omega (arith, few))));
  values = λ t few. leaves (value_place t) (inr (inr (omega arith, omega (arith, few))));
}

-- ---- what such a step leaves

module _ (seats i : ℕ) (words : List ℕ) (ghosts : Ghosts) (at : queue.QueuePhase) (long : 32 ≤ length words) (request : Request) where
  abbrev was : Scene
  was = scene_of words ghosts

  abbrev now : Scene
  now = scene_after i words ghosts at request

  pub beside_goes : {S W : Type 0} (new : Seen → Mech S W) → announces at ≡ false → LeavesQueue request words → IsSound was
      → ((b : Scene) → ((t : ℕ) → b.records t ≡ was.records t) → b.queue ≡ was.queue → KnowsQueue b seats i (new (seen_of request words)) × PhaseFits seats (new (seen_of request words)).phase)
      → Goes seats i words ghosts at request new
  beside_goes new none leaves sound knows =
      let same = agrees_of request words leaves in
      let quiet : Quiet i was now = record {
        beside = besides seats i words ghosts at long request (λ t _. seat_same t _ _ (same.ops t)) (λ t _. seat_same t _ _ (same.values t));
        queue = same.queue;
        records = λ t. seat_same t _ _ (same.records t);
        announced = announced_stays seats i words ghosts at long request none;
        words = inl (seat_same i _ _ (same.ops i), seat_same i _ _ (same.values i));
      } in
      let known = knows now quiet.records quiet.queue in
      record { sound = quiet_sound seats i was now quiet sound; later = quiet_later seats i was now quiet; knows = known.0; fits = known.1 }

-- ---- facts of the same records and the same queue word

module _ (a b : Scene) (records : (t : ℕ) → b.records t ≡ a.records t) (queue : b.queue ≡ a.queue) where
  pub free_same : (i n : ℕ) → IsFree a i n → IsFree b i n
  free_same i n free = record { closed = ap (λ w. is_open (record_phase w)) (records i) ∙ free.closed; number = subst (λ w. record_number w < n) (sym (records i)) free.number }

  pub mine_same : (i n : ℕ) → IsMine a i n → IsMine b i n
  mine_same i n mine = record {
    number = ap record_number (records i) ∙ mine.number;
    called = elim mine.called [ inl opened ↦ inl (ap (λ w. is_open (record_phase w)) (records i) ∙ opened) | inr done ↦ inr (ap record_phase (records i) ∙ done) ];
  }

  pub out_same : (i : ℕ) → IsOut a i → IsOut b i
  out_same i out = ap (λ q. holds q i) queue ∙ out

  pub in_or_done_same : (i : ℕ) → IsInOrDone a i → IsInOrDone b i
  in_or_done_same i h = elim h [ inl in' ↦ inl (ap (λ q. holds q i) queue ∙ in') | inr done ↦ inr (ap record_phase (records i) ∙ done) ]

  pub helped_same : (s word : ℕ) → IsHelped a s word → IsHelped b s word
  helped_same s word h =
      elim h [
        | inl now ↦ inl (now.0 ∙ sym (records s), ap (λ q. leads q s) queue ∙ now.1)
        | inr earlier ↦ inr (subst (λ w. IsEarlier (record_of word) (record_of w)) (sym (records s)) earlier)
      ]
