-- The steps of a call that look at the queue word, announce the call, and collect its answer.
use Rattle.std.proofs.Common.{◌≡◌, ℕ, ◌+◌, ◌<◌, ◌≤◌, ◌^◌, true, false, List, [], ◌∷◌, length, refl, ap, sym, ◌∙◌, subst, arith, inl, inr, None}
use Rattle.std.specs.Prelude.{nat_lt}
use Rattle.std.proofs.lemmas.Bool.{cases_Bool, cond_both, eqb-true, ltb-true, ltb-false}
use Rattle.step_memory.specs.declared.steps.Request.TheVariants.{Load, Store}
use Rattle.word_fields.specs.declared.records.RecordPhase.TheVariants.{Generate}
use Rattle.word_fields.specs.Announced.{op_number, op_word, value_number, value_word}
use Rattle.word_fields.specs.Records.{record_phase, record_number, record_word}
use Rattle.word_fields.specs.Seats.{queue_seats}
use Rattle.word_fields.proofs.AnnouncedWords.{number-op_word, number-value_word}
use Rattle.node_arena.specs.declared.places.TheConstants.{QUEUE}
use Rattle.node_arena.specs.MemoryMap.{op_place, record_place, value_place}
use Rattle.help_queue.specs.Gathers.{among_seats, holds, is_first, is_open}
use Rattle.help_queue_laws.specs.declared.phases.Helping.TheVariants.{Record}
use Rattle.help_queue_laws.specs.declared.phases.QueuePhase.{QueuePhase}
use Rattle.help_queue_laws.specs.declared.phases.QueuePhase.TheVariants.{Look, StoreValue, StoreOp, StoreRecord, Drive, Collect, Helps}
use Rattle.help_queue_laws.specs.Callers.{Caller, after_help, head_helped, fed_in}
use Rattle.help_queue.specs.Heads.{first_of}
use Rattle.help_queue_laws.specs.Ghosts.{Ghosts}
use Rattle.help_queue_laws.proofs.Known.Scenes.{Scene, scene_of, IsDone, IsOut, IsInOrDone, IsSound}
use Rattle.help_queue_laws.proofs.Known.Knowledge.{IsMine, IsFree, PhaseFacts}
use Rattle.help_queue_laws.proofs.Acts.QuietActs.{Quiet, ends_same, quiet_later, quiet_sound}
use Rattle.help_queue_laws.proofs.Acts.RecordActs.{Announcing, announcing_ends, announcing_sound, announcing_later, announcing_number, announcing_open}
use Rattle.help_queue_laws.proofs.Steps.HelpsWithoutChange.{over_in}
use Rattle.help_queue_laws.proofs.Known.QueueWords.{not_both}
use Rattle.help_queue_laws.proofs.Acts.LearntStays.{done_closed}
use Rattle.help_queue_laws.proofs.Steps.Results.{Moved, scene_after, load_moves, stored_word, queue_stays, record_stays, op_stays, value_stays, besides, seat_word, announced_stays, announced_now, announced_others, late_now, lost_now}

module _ (seats i made : ℕ) (inside : i < seats) (few : seats ≤ 8) (fewer : made < 65535) (words : List ℕ) (ghosts : Ghosts) (long : 32 ≤ length words) (sound : IsSound (scene_of words ghosts)) where
  abbrev was : Scene
  was = scene_of words ghosts

  -- the seat in a phase of its call
  abbrev pub caller_in : QueuePhase → Caller
  caller_in phase = record { seat = i; seats = seats; made = made; phase = phase }

  eight : i < 8
  eight = omega (arith, inside, few)

  -- ---- the head is helped

  none_out : (qs : List ℕ) → qs ≡ queue_seats was.queue → among_seats i qs ≡ false → IsOut was i
  none_out qs same none = ap (among_seats i) (sym same) ∙ none

  -- a seat before its announcement is the head of a word that holds it
  free_begins : (gh : Ghosts) (qs : List ℕ) → qs ≡ queue_seats was.queue → (among_seats i qs ≡ true → is_first i qs ≡ true) → IsFree was i (made + 1)
      → PhaseFacts (scene_of words gh) seats i (made + 1) (head_helped (first_of qs) seats false)
  free_begins gh [] same head free = (record { closed = free.closed; number = free.number }, none_out [] same refl)
  free_begins gh (s ∷ qs) same head free =
      cond_both (nat_lt s seats) (Helps s false (Record None)) (after_help false) (PhaseFacts (scene_of words gh) seats i (made + 1))
      (λ real. (
        ltb-true s seats real,
        tt,
        (
          record { closed = free.closed; number = free.number },
          elim (cases_Bool (among_seats i (s ∷ qs))) [
            | inl in' ↦ inr (eqb-true s i (head in'))
            | inr out ↦ inl (none_out (s ∷ qs) same out)
          ],
        ),
      ))
      (λ past. (
        record { closed = free.closed; number = free.number },
        elim (cases_Bool (among_seats i (s ∷ qs))) [
          | inl in' ↦ (let own = eqb-true s i (head in') in let large = ltb-false s seats past in absurd (omega (arith, own, large, inside)))
          | inr out ↦ none_out (s ∷ qs) same out
        ],
      ))

  mine_begins : (gh : Ghosts) (qs : List ℕ) → IsMine was i (made + 1) → IsInOrDone was i → PhaseFacts (scene_of words gh) seats i (made + 1) (head_helped (first_of qs) seats true)
  mine_begins gh [] mine still = (record { number = mine.number; called = mine.called }, still)
  mine_begins gh (s ∷ qs) mine still =
      cond_both (nat_lt s seats) (Helps s true (Record None)) (after_help true) (PhaseFacts (scene_of words gh) seats i (made + 1))
      (λ real. (ltb-true s seats real, tt, (record { number = mine.number; called = mine.called }, still)))
      (λ past. (record { number = mine.number; called = mine.called }, still))

  pub look_moves : IsFree was i (made + 1) → Moved seats i words ghosts Look (Load QUEUE) (λ seen. fed_in Look seen (caller_in Look))
  look_moves free =
      load_moves seats i words ghosts Look long QUEUE (λ seen. fed_in Look seen (caller_in Look)) refl sound
      (λ seen gh loaded reads lost. record {
        seat = refl;
        seats' = refl;
        knows = free_begins gh (queue_seats seen.before) (ap queue_seats loaded) (λ in'. ap (λ q. is_first i (queue_seats q)) loaded ∙ (over_in seats i (made + 1) 0 words ghosts gh sound free (ap (λ q. holds q i) (sym loaded) ∙ in')).1) free;
      })

  pub drive_moves : IsMine was i (made + 1) → IsInOrDone was i → Moved seats i words ghosts Drive (Load QUEUE) (λ seen. fed_in Drive seen (caller_in Drive))
  drive_moves mine still =
      load_moves seats i words ghosts Drive long QUEUE (λ seen. fed_in Drive seen (caller_in Drive)) refl sound
      (λ seen gh loaded reads lost. record {
        seat = refl;
        seats' = refl;
        knows = cond_both (holds seen.before i) (head_helped (first_of (queue_seats seen.before)) seats true) Collect (PhaseFacts (scene_of words gh) seats i (made + 1))
            (λ in'. mine_begins gh (queue_seats seen.before) mine still)
            (λ out. (record { number = mine.number; called = mine.called }, elim still [ inl in' ↦ absurd (not_both (ap (λ q. holds q i) loaded ∙ in') out) | inr done ↦ done ], ap (λ q. holds q i) (sym loaded) ∙ out));
      })

  -- ---- the call ends

  pub next_free : (gh : Ghosts) → IsMine was i (made + 1) → IsDone was i → IsFree (scene_of words gh) i (made + 1 + 1)
  next_free gh mine done = record { closed = done_closed (record_phase (was.records i)) done; number = let same = mine.number in omega (arith, same) }

  pub collect_moves : IsMine was i (made + 1) → IsDone was i → Moved seats i words ghosts Collect (Load (record_place i)) (λ seen. fed_in Collect seen (caller_in Collect))
  collect_moves mine done =
      load_moves seats i words ghosts Collect long (record_place i) (λ seen. fed_in Collect seen (caller_in Collect)) refl sound
      (λ seen gh loaded reads lost. record { seat = refl; seats' = refl; knows = next_free gh mine done })

  -- ---- the call is announced

  pub value_moves : (value : ℕ) → IsFree was i (made + 1) → IsOut was i → Moved seats i words ghosts StoreValue (Store (value_place i) (value_word (made + 1) value)) (λ seen. fed_in StoreValue seen (caller_in StoreValue))
  value_moves value free out =
      let request = Store (value_place i) (value_word (made + 1) value) in
      let b = scene_after i words ghosts StoreValue request in
      let records : (t : ℕ) → b.records t ≡ was.records t = λ t. record_stays seats i words ghosts StoreValue long request t (λ f. λ e. omega (arith, f, e)) in
      let queue : b.queue ≡ was.queue = queue_stays seats i words ghosts StoreValue long request (λ e. omega (arith, e)) in
      let quiet : Quiet i was b = record {
        beside = besides seats i words ghosts StoreValue long request (λ t _. op_stays seats i words ghosts StoreValue long request t (λ f. λ e. omega (arith, f, e)))
            (λ t other. value_stays seats i words ghosts StoreValue long request t (λ _. λ e. other (omega (arith, e))));
        queue = queue;
        records = records;
        announced = announced_stays seats i words ghosts StoreValue long request refl;
        words = inr (free.closed, out);
      } in
      record {
        sound = quiet_sound seats i was b quiet sound;
        ends = ends_same was b records;
        later = quiet_later seats i was b quiet;
        knows = record {
          seat = refl;
          seats' = refl;
          knows = (
            record { closed = ap (λ w. is_open (record_phase w)) (records i) ∙ free.closed; number = subst (λ w. record_number w < made + 1) (sym (records i)) free.number },
            ap (λ q. holds q i) queue ∙ out,
            ap value_number (seat_word i _ eight ∙ stored_word seats i words ghosts StoreValue long (value_place i) (value_word (made + 1) value) (omega (arith, eight))) ∙ number-value_word (made + 1) value (omega (arith, fewer)),
          );
        };
      }

  pub op_moves : (code key : ℕ) → code < 2 ^ 4 → IsFree was i (made + 1) → IsOut was i → value_number (was.values i) ≡ made + 1 → Moved seats i words ghosts StoreOp (Store (op_place i) (op_word code (made + 1) key)) (λ seen. fed_in StoreOp seen (caller_in StoreOp))
  op_moves code key low free out value =
      let request = Store (op_place i) (op_word code (made + 1) key) in
      let b = scene_after i words ghosts StoreOp request in
      let records : (t : ℕ) → b.records t ≡ was.records t = λ t. record_stays seats i words ghosts StoreOp long request t (λ f. λ e. omega (arith, eight, e)) in
      let values : (t : ℕ) → b.values t ≡ was.values t = λ t. value_stays seats i words ghosts StoreOp long request t (λ f. λ e. omega (arith, eight, e)) in
      let queue : b.queue ≡ was.queue = queue_stays seats i words ghosts StoreOp long request (λ e. omega (arith, e)) in
      let quiet : Quiet i was b = record {
        beside = besides seats i words ghosts StoreOp long request (λ t other. op_stays seats i words ghosts StoreOp long request t (λ _. λ e. other (omega (arith, e)))) (λ t _. values t);
        queue = queue;
        records = records;
        announced = announced_stays seats i words ghosts StoreOp long request refl;
        words = inr (free.closed, out);
      } in
      record {
        sound = quiet_sound seats i was b quiet sound;
        ends = ends_same was b records;
        later = quiet_later seats i was b quiet;
        knows = record {
          seat = refl;
          seats' = refl;
          knows = (
            record { closed = ap (λ w. is_open (record_phase w)) (records i) ∙ free.closed; number = subst (λ w. record_number w < made + 1) (sym (records i)) free.number },
            ap (λ q. holds q i) queue ∙ out,
            ap value_number (values i) ∙ value,
            ap op_number (seat_word i _ eight ∙ stored_word seats i words ghosts StoreOp long (op_place i) (op_word code (made + 1) key) (omega (arith, eight))) ∙ number-op_word code (made + 1) key low (omega (arith, fewer)),
          );
        };
      }

  pub record_moves : IsFree was i (made + 1) → IsOut was i → value_number (was.values i) ≡ made + 1 → op_number (was.ops i) ≡ made + 1
      → Moved seats i words ghosts StoreRecord (Store (record_place i) (record_word Generate (made + 1) 0 0)) (λ seen. fed_in StoreRecord seen (caller_in StoreRecord))
  record_moves free out value op =
      let request = Store (record_place i) (record_word Generate (made + 1) 0 0) in
      let b = scene_after i words ghosts StoreRecord request in
      let ops : (t : ℕ) → b.ops t ≡ was.ops t = λ t. op_stays seats i words ghosts StoreRecord long request t (λ f. λ e. omega (arith, f, e)) in
      let values : (t : ℕ) → b.values t ≡ was.values t = λ t. value_stays seats i words ghosts StoreRecord long request t (λ f. λ e. omega (arith, eight, e)) in
      let act : Announcing i (made + 1) was b = record {
        rewrites = record {
          beside = besides seats i words ghosts StoreRecord long request (λ t _. ops t) (λ t _. values t);
          queue = queue_stays seats i words ghosts StoreRecord long request (λ e. omega (arith, e));
          others = λ t other. record_stays seats i words ghosts StoreRecord long request t (λ _. λ e. other (omega (arith, e)));
          ops = ops;
          values = values;
        };
        record' = seat_word i _ eight ∙ stored_word seats i words ghosts StoreRecord long (record_place i) (record_word Generate (made + 1) 0 0) (omega (arith, eight));
        few = omega (arith, fewer);
        some = omega arith;
        free = free;
        out = out;
        op = op;
        value = value;
        announced = announced_now seats i words ghosts StoreRecord long request refl;
        others = announced_others seats i words ghosts StoreRecord long request;
        late = late_now seats i words ghosts StoreRecord long request refl;
      } in
      record {
        sound = announcing_sound i (made + 1) was b act sound;
        ends = announcing_ends i (made + 1) was b act;
        later = announcing_later i (made + 1) was b act seats;
        knows = record {
          seat = refl;
          seats' = refl;
          knows = record {
            seat = refl;
            seats' = refl;
            mine = record { number = announcing_number i (made + 1) was b act; called = inl (announcing_open i (made + 1) was b act) };
            stage = inl (lost_now seats i words ghosts StoreRecord long request);
          };
        };
      }
