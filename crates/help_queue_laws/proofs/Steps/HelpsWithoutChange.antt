-- The steps of helping that change no word.
use Rattle.std.proofs.Common.{◌≡◌, ℕ, ◌<◌, ◌≤◌, Bool, true, false, cond, List, refl, ap, sym, ◌∙◌, subst, inl, inr, Option, Some, None}
use Rattle.std.specs.Prelude.{◌==◌, ◌&&◌, not}
use Rattle.std.proofs.lemmas.Bool.{cases_Bool, cond_both, eq-eqb, eqb-true, and_from, and_parts, true≢false, not-false}
use Rattle.step_memory.specs.declared.steps.Seen.{Seen}
use Rattle.word_fields.specs.declared.records.RecordPhase.{RecordPhase}
use Rattle.word_fields.specs.declared.records.RecordPhase.TheVariants.{Idle, Generate, Executing, Wrapping, Completed}
use Rattle.word_fields.specs.Records.{record_phase, record_number}
use Rattle.op_record.specs.Outcomes.{is_completed}
use Rattle.help_queue.specs.declared.remove.Removing.TheVariants.{Running, Gone}
use Rattle.help_queue.specs.declared.remove.RemoveStage.{RemoveStage}
use Rattle.help_queue.specs.declared.remove.RemoveStage.TheVariants as remove
use Rattle.help_queue.specs.Gathers.{Gathering, holds, leads, is_open, gather_begun, gather_over, gather_fed}
use Rattle.help_queue.specs.Removes.{Removal, completes, remove_new, remove_fed_in, removing_in}
use Rattle.help_queue.proofs.SeatsGathered.{not_over}
use Rattle.help_queue_laws.specs.declared.phases.Helping.{Helping}
use Rattle.help_queue_laws.specs.declared.phases.Helping.TheVariants.{Record, Head, Complete, Removes}
use Rattle.help_queue_laws.specs.declared.phases.QueuePhase.TheVariants.{Helps}
use Rattle.help_queue_laws.specs.Callers.{after_help, is_gone}
use Rattle.help_queue.specs.Heads.{is_other, record_met}
use Rattle.help_queue_laws.specs.Ghosts.{Ghosts}
use Rattle.help_queue_laws.proofs.Known.Scenes.{Scene, scene_of, IsOpen, IsDone, IsIn, IsOut, IsHead, IsSound, IsSeen}
use Rattle.help_queue_laws.proofs.Known.Knowledge.{IsMine, IsFree, IsRemovingGather, RemoveFacts, HelpFacts, SelfFacts, BackFacts, PhaseFacts}
use Rattle.help_queue_laws.proofs.Known.GhostsAfterSteps.{Reads}
use Rattle.help_queue_laws.proofs.Steps.GatherSteps.{gather_begins, gather_loads}
use Rattle.help_queue_laws.proofs.Steps.EnterSteps.{seen_now}
use Rattle.help_queue_laws.proofs.Known.QueueWords.{not_both}

pub completed_phase : (phase : RecordPhase) → is_completed phase ≡ true → phase ≡ Completed
completed_phase Idle h = absurd (true≢false (sym h))
completed_phase Generate h = absurd (true≢false (sym h))
completed_phase Executing h = absurd (true≢false (sym h))
completed_phase Wrapping h = absurd (true≢false (sym h))
completed_phase Completed h = refl

module _ (seats i n s : ℕ) (words : List ℕ) (ghosts gh : Ghosts) where
  abbrev was : Scene
  was = scene_of words ghosts

  abbrev now : Scene
  now = scene_of words gh

  -- the same of the same words
  pub free_reads : IsFree was i n → IsFree now i n
  free_reads free = record { closed = free.closed; number = free.number }

  pub mine_reads : IsMine was i n → IsMine now i n
  mine_reads mine = record { number = mine.number; called = mine.called }

  -- helping goes on, or ends
  pub back_moves : (announced : Bool) (at at' : Helping) → (IsFree was i n → SelfFacts was i s at → SelfFacts now i s at') → BackFacts was i n s at announced → BackFacts now i n s at' announced
  back_moves false at at' moves h = (free_reads h.0, moves h.0 h.1)
  back_moves true at at' moves h = (mine_reads h.0, h.1)

  pub back_ends : (announced : Bool) (at : Helping) → (IsFree was i n → SelfFacts was i s at → IsOut was i) → BackFacts was i n s at announced → PhaseFacts now seats i n (after_help announced)
  back_ends false at out h = (free_reads h.0, out h.0 h.1)
  back_ends true at out h = (mine_reads h.0, h.1)

  -- a seat in the word, whose last call is over, is the head, and completed
  pub over_in : IsSound was → IsFree was i n → IsIn was i → IsDone was i × IsHead was i
  over_in sound free in' = elim (sound.published i in') [ inl opened ↦ absurd (not_both opened free.closed) | inr done ↦ (done, sound.heads i in' done) ]

  -- ---- the record of the seat is loaded

  other_out : (known : Option ℕ) (number : ℕ) → is_other known number ≡ true → SelfFacts was i s (Record known) → IsOut was i
  other_out None number other self = absurd (true≢false (sym other))
  other_out (Some k) number other out = out

  open_out : (known : Option ℕ) → IsFree was i n → SelfFacts was i s (Record known) → IsOpen was s → IsOut was i
  open_out None free self opened = elim self [ inl out ↦ out | inr same ↦ absurd (not_both (subst (λ k. IsOpen was k) same opened) free.closed) ]
  open_out (Some k) free out opened = out

  self_removes : (known : Option ℕ) (word : ℕ) → word ≡ was.records s → SelfFacts was i s (Record known) → SelfFacts now i s (Removes (remove_new s (record_number word) seats))
  self_removes None word loaded self = elim self [ inl out ↦ inl out | inr same ↦ inr (same, λ _. sym (ap record_number (loaded ∙ ap was.records same))) ]
  self_removes (Some k) word loaded out = inl out

  pub helps_record : (announced : Bool) (known : Option ℕ) (word : ℕ) → s < seats → word ≡ was.records s → BackFacts was i n s (Record known) announced
      → PhaseFacts now seats i n (cond (is_other known (record_number word)) (after_help announced) (Helps s announced (record_met Head Removes word s seats)))
  helps_record announced known word inside loaded back =
      cond_both (is_other known (record_number word)) (after_help announced) (Helps s announced (record_met Head Removes word s seats)) (PhaseFacts now seats i n)
      (λ other. back_ends announced (Record known) (λ free self. other_out known (record_number word) other self) back)
      (λ _. cond_both (is_open (record_phase word)) (Head word) (Removes (remove_new s (record_number word) seats)) (λ at. PhaseFacts now seats i n (Helps s announced at))
      (λ opened. (inside, (opened, inl loaded), back_moves announced (Record known) (Head word) (λ free self. open_out known free self (subst (λ w. is_open (record_phase w) ≡ true) loaded opened)) back))
      (λ closed. (inside, record { seat = refl; seats' = refl; stage = tt }, back_moves announced (Record known) (Removes (remove_new s (record_number word) seats)) (λ free self. self_removes known word loaded self) back)))

  -- ---- the queue word is loaded

  pub helps_head : (announced : Bool) (word queue : ℕ) → s < seats → queue ≡ was.queue → HelpFacts was seats i s (Head word) → BackFacts was i n s (Head word) announced
      → PhaseFacts now seats i n (cond (not (leads queue s)) (after_help announced) (Helps s announced (Complete word)))
  helps_head announced word queue inside loaded help back =
      cond_both (not (leads queue s)) (after_help announced) (Helps s announced (Complete word)) (PhaseFacts now seats i n)
      (λ _. back_ends announced (Head word) (λ free self. self) back)
      (λ head. (
        inside,
        (help.0, elim help.1 [ inl same ↦ inl (same, subst (λ q. leads q s ≡ true) loaded (not-false (leads queue s) head)) | inr later ↦ inr later ]),
        back_moves announced (Head word) (Complete word) (λ free self. self) back,
      ))

  -- ---- the exchange of the record is lost

  pub helps_again : (announced : Bool) (word number : ℕ) → s < seats → BackFacts was i n s (Complete word) announced → PhaseFacts now seats i n (Helps s announced (Record (Some number)))
  helps_again announced word number inside back = (inside, tt, back_moves announced (Complete word) (Record (Some number)) (λ free self. self) back)

  -- ---- removing

  module _ (announced : Bool) (rs rn rp : ℕ) (inside : s < seats) (few : seats ≤ 8) (seat : rs ≡ s) (among : rp ≡ seats) (sound : IsSound was) where
    abbrev removal : RemoveStage → Removal
    removal stage = record { seat = rs; number = rn; seats = rp; stage = stage }

    -- the facts of a removal that stays, for its seat
    self_stays : (stage stage' : RemoveStage) → SelfFacts was i s (Removes (removal stage)) → SelfFacts now i s (Removes (removal stage'))
    self_stays stage stage' h = h

    looked : (queue : ℕ) (x : Bool) → queue ≡ was.queue → leads queue rs ≡ x → BackFacts was i n s (Removes (removal remove.Look)) announced
        → PhaseFacts now seats i n (cond (is_gone (cond x Running Gone)) (after_help announced) (Helps s announced (Removes (removal (cond x (remove.Check queue) remove.Look)))))
    looked queue true loaded head back = (
      inside,
      record { seat = seat; seats' = among; stage = (subst (λ q. IsSeen was.queue q) (sym loaded) (seen_now was.queue), subst (λ k. leads queue k ≡ true) seat head) },
      back_moves announced (Removes (removal remove.Look)) (Removes (removal (remove.Check queue))) (λ free self. self) back,
    )
    looked queue false loaded head back =
        back_ends announced (Removes (removal remove.Look)) (λ free self. elim self [
          | inl out ↦ out
          | inr own ↦ elim (cases_Bool (holds was.queue i)) [
            | inr out ↦ out
            | inl in' ↦ absurd (not_both ((over_in sound free in').1) (subst (λ q. leads q i ≡ false) loaded (subst (λ k. leads queue k ≡ false) (seat ∙ own.0) head)))
          ]
        ]) back

    pub helps_look : (seen : Seen) → seen.before ≡ was.queue → BackFacts was i n s (Removes (removal remove.Look)) announced
        → PhaseFacts now seats i n (cond (is_gone (removing_in remove.Look (removal remove.Look) seen)) (after_help announced) (Helps s announced (Removes (removal (remove_fed_in remove.Look (removal remove.Look) seen)))))
    helps_look seen loaded back = looked seen.before (leads seen.before rs) loaded refl back

    checked : (word queue : ℕ) (x : Bool) → word ≡ was.records s → completes word rn ≡ x → RemoveFacts was seats i s rn (remove.Check queue) → BackFacts was i n s (Removes (removal (remove.Check queue))) announced
        → PhaseFacts now seats i n (cond (is_gone (cond x Running Gone)) (after_help announced) (Helps s announced (Removes (removal (cond x (remove.Gathers (gather_begun rp queue)) (remove.Check queue))))))
    checked word queue true loaded done facts back =
        let parts = and_parts (is_completed (record_phase word)) (record_number word == rn) done in (
          inside,
          record {
            seat = seat;
            seats' = among;
            stage = subst (λ k. IsRemovingGather now seats i s rn (gather_begun k queue)) (sym among) (record {
              gather = gather_begins seats i words gh gh queue few facts.0;
              head = facts.1;
              done = λ _. (ap record_phase (sym loaded) ∙ completed_phase (record_phase word) parts.0, ap record_number (sym loaded) ∙ eqb-true (record_number word) rn parts.1);
            });
          },
          back_moves announced (Removes (removal (remove.Check queue))) (Removes (removal (remove.Gathers (gather_begun rp queue)))) (λ free self. self) back,
        )
    checked word queue false loaded done facts back =
        back_ends announced (Removes (removal (remove.Check queue))) (λ free self. elim self [
          | inl out ↦ out
          | inr own ↦ elim (cases_Bool (holds was.queue i)) [
            | inr out ↦ out
            | inl in' ↦ (
                let over = over_in sound free in' in
                let here : word ≡ was.records i = loaded ∙ ap was.records own.0 in
                let number : record_number word ≡ rn = ap record_number here ∙ own.1 over.0 in
                absurd (not_both (and_from (is_completed (record_phase word)) (record_number word == rn) (ap (λ w. is_completed (record_phase w)) here ∙ ap is_completed over.0) (eq-eqb (record_number word) rn number)) done))
          ]
        ]) back

    pub helps_check : (seen : Seen) (queue : ℕ) → seen.before ≡ was.records s → RemoveFacts was seats i s rn (remove.Check queue) → BackFacts was i n s (Removes (removal (remove.Check queue))) announced
        → PhaseFacts now seats i n (cond (is_gone (removing_in (remove.Check queue) (removal (remove.Check queue)) seen)) (after_help announced) (Helps s announced (Removes (removal (remove_fed_in (remove.Check queue) (removal (remove.Check queue)) seen)))))
    helps_check seen queue loaded facts back = checked seen.before queue (completes seen.before rn) loaded refl facts back

    -- a gather loads a record, or its exchange is lost
    gathered : (g : Gathering) (before : ℕ) (over won : Bool) → gather_over g ≡ over → over && won ≡ false
        → (over ≡ false → before ≡ was.records g.next) → Reads i ghosts gh (λ t. not over && (g.next == t))
        → RemoveFacts was seats i s rn (remove.Gathers g) → BackFacts was i n s (Removes (removal (remove.Gathers g))) announced
        → PhaseFacts now seats i n (cond (is_gone (cond (over && won) Gone Running)) (after_help announced) (Helps s announced (Removes (removal (cond over remove.Look (remove.Gathers (gather_fed g before)))))))
    gathered g before true true is open' loaded reads facts back = absurd (true≢false open')
    gathered g before true false is open' loaded reads facts back = (
      inside,
      record { seat = seat; seats' = among; stage = tt },
      back_moves announced (Removes (removal (remove.Gathers g))) (Removes (removal remove.Look)) (λ free self. self) back,
    )
    gathered g before false won is open' loaded reads facts back = (
      inside,
      record {
        seat = seat;
        seats' = among;
        stage = record { gather = gather_loads seats i words ghosts gh g before reads facts.gather (not_over g is) (loaded refl); head = facts.head; done = facts.done };
      },
      back_moves announced (Removes (removal (remove.Gathers g))) (Removes (removal (remove.Gathers (gather_fed g before)))) (λ free self. self) back,
    )

    pub helps_gather : (seen : Seen) (g : Gathering) → gather_over g && seen.won ≡ false → (gather_over g ≡ false → seen.before ≡ was.records g.next) → Reads i ghosts gh (λ t. not (gather_over g) && (g.next == t))
        → RemoveFacts was seats i s rn (remove.Gathers g) → BackFacts was i n s (Removes (removal (remove.Gathers g))) announced
        → PhaseFacts now seats i n (cond (is_gone (removing_in (remove.Gathers g) (removal (remove.Gathers g)) seen)) (after_help announced) (Helps s announced (Removes (removal (remove_fed_in (remove.Gathers g) (removal (remove.Gathers g)) seen)))))
    helps_gather seen g none loaded reads facts back = gathered g seen.before (gather_over g) seen.won refl none loaded reads facts back
