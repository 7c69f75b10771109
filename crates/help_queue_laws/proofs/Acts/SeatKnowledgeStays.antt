-- What a seat knows stays true through the steps of other seats.
use Rattle.std.proofs.Common.{◌≡◌, ◌≢◌, ℕ, ◌<◌, ◌≤◌, Bool, true, false, ap, sym, ◌∙◌, subst, arith, inl, inr, ◌⊎◌, Some, None}
use Rattle.std.proofs.lemmas.Bool.{cases_lt}
use Rattle.word_fields.specs.Announced.{op_number, value_number}
use Rattle.word_fields.specs.Records.{record_phase, record_number}
use Rattle.word_fields.specs.Queues.{queue_version}
use Rattle.help_queue.specs.declared.enter.EnterStage.{EnterStage}
use Rattle.help_queue.specs.declared.enter.EnterStage.TheVariants as enter
use Rattle.help_queue.specs.declared.remove.RemoveStage.{RemoveStage}
use Rattle.help_queue.specs.declared.remove.RemoveStage.TheVariants as remove
use Rattle.help_queue.specs.Gathers.{Gathering, among_seats, leads, is_open}
use Rattle.help_queue_laws.specs.declared.phases.Helping.{Helping}
use Rattle.help_queue_laws.specs.declared.phases.Helping.TheVariants.{Record, Head, Complete, Removes}
use Rattle.help_queue_laws.specs.declared.phases.QueuePhase.{QueuePhase}
use Rattle.help_queue_laws.specs.declared.phases.QueuePhase.TheVariants.{Look, StoreValue, StoreOp, StoreRecord, Enters, Drive, Collect, Helps}
use Rattle.help_queue_laws.specs.Callers.{Caller, number_of}
use Rattle.help_queue_laws.proofs.Known.Scenes.{Scene, IsClosed, IsDone, IsHead, Changes, Later, IsGatherOf}
use Rattle.help_queue_laws.proofs.Known.Knowledge.{IsMine, IsFree, IsReplaced, IsSecond, IsOwnGather, LooksAgain, EnterFacts, IsRemovingGather, RemoveFacts, HelpFacts, SelfFacts, BackFacts, PhaseFacts, IsCallerOf}
use Rattle.help_queue_laws.proofs.Known.QueueWords.{not_both, head_holds}
use Rattle.help_queue_laws.proofs.Acts.LearntStays.{version_rises, stood, seen_later, gather_later, done_stays, done_closed, closed_later, in_or_done_later, out_later, since_later, helped_later}

module _ (seats who : ℕ) (a b : Scene) (l : Later seats who a b) (i : ℕ) (other : i ≢ who) where
  -- the version at which another seat announced stays
  announced_later : b.announced i ≡ a.announced i
  announced_later = elim (l.moves i) [ inl stays ↦ stays.announced | inr (inl announces) ↦ absurd (other announces.by) | inr (inr completes) ↦ completes.announced ]

  lost_later : b.lost i ≡ a.lost i
  lost_later = l.lost i other

  mine_later : (n : ℕ) → IsMine a i n → IsMine b i n
  mine_later n mine =
      elim (l.moves i) [
        | inl stays ↦ record {
          number = ap record_number stays.same ∙ mine.number;
          called = elim mine.called [ inl opened ↦ inl (ap (λ w. is_open (record_phase w)) stays.same ∙ opened) | inr done ↦ inr (ap record_phase stays.same ∙ done) ];
        }
        | inr (inl announces) ↦ absurd (other announces.by)
        | inr (inr completes) ↦ record { number = completes.number ∙ mine.number; called = completes.called }
      ]

  free_later : (n : ℕ) → IsFree a i n → IsFree b i n
  free_later n free =
      let same = closed_later seats who a b l i other free.closed in
      record { closed = ap (λ w. is_open (record_phase w)) same ∙ free.closed; number = subst (λ w. record_number w < n) (sym same) free.number }

  -- ---- the second exchange: who replaces the word of an owner has found it

  replaced_later : (word : ℕ) → IsReplaced a i word → IsReplaced b i word
  replaced_later word r = record {
    by = r.by;
    replaced = l.replaced word (λ same. let v : queue_version word ≡ queue_version a.queue = ap queue_version same in absurd (omega (arith, v, r.older))) ∙ r.replaced;
    older = omega (arith, r.older, version_rises seats who a b l);
    held = r.held;
    still = in_or_done_later seats who a b l i other r.still;
  }

  found_owner : (n : ℕ) (g : Gathering) → i < seats → IsMine a i n → IsGatherOf i seats a g → (i < g.next → among_seats i g.found ≡ true) → a.announced i < queue_version g.word → g.word ≡ a.queue → Changes seats a b
      → (IsDone b i × (g.next ≤ i)) ⊎ IsReplaced b i g.word
  found_owner n g inside mine gather own since now changed =
      let v : queue_version g.word ≡ queue_version a.queue = ap queue_version now in
      elim (changed.gathers i inside) [
        | inl in' ↦ inr (record { by = b.queue; replaced = ap b.replaced now ∙ changed.replaces; older = omega (arith, v, changed.version); held = in'; still = inl in' })
        | inr (inl closed) ↦ inl (
          elim mine.called [ inl opened ↦ absurd (not_both opened closed) | inr done ↦ done_stays seats who a b l i other done ],
          elim (cases_lt i g.next) [ inl passed ↦ absurd (not_both (gather.found now i (own passed)) closed) | inr ahead ↦ ahead ],
        )
        | inr (inr before) ↦ absurd (omega (arith, before, since, v))
      ]

  second_later : (n : ℕ) (g : Gathering) → i < seats → IsMine a i n → IsGatherOf i seats a g → (i < g.next → among_seats i g.found ≡ true) → IsSecond a i g → IsSecond b i g
  second_later n g inside mine gather own second = record {
    lost = lost_later ∙ second.lost;
    since = subst (λ v. v < queue_version g.word) (sym announced_later) second.since;
    beaten = elim second.beaten [
      | inl now ↦ elim l.queue [
        | inl same ↦ inl (now ∙ sym same)
        | inr changed ↦ inr (found_owner n g inside mine gather own second.since now changed)
      ]
      | inr (inl done) ↦ inr (inl (done_stays seats who a b l i other done.0, done.1))
      | inr (inr replaced) ↦ inr (inr (replaced_later g.word replaced))
    ];
  }

  own_gather_later : (n : ℕ) (g : Gathering) → i < seats → IsMine a i n → IsOwnGather a seats i g → IsOwnGather b seats i g
  own_gather_later n g inside mine own = record {
    gather = gather_later seats who a b l i g other own.gather;
    out = own.out;
    own = own.own;
    attempt = elim own.attempt [
      | inl first ↦ inl (record { lost = lost_later ∙ first.lost; since = subst (λ v. v ≤ queue_version g.word) (sym announced_later) first.since })
      | inr (inl second) ↦ inr (inl (second_later n g inside mine own.gather own.own second))
      | inr (inr third) ↦ inr (inr (record { lost = lost_later ∙ third.lost; done = done_stays seats who a b l i other third.done; ahead = third.ahead }))
    ];
  }

  looks_later : LooksAgain a i → LooksAgain b i
  looks_later h =
      elim h [
        | inl first ↦ inl (lost_later ∙ first)
        | inr (inl second) ↦ inr (inl (lost_later ∙ second.0, let rises = version_rises seats who a b l in let same = announced_later in omega (arith, second.1, rises, same)))
        | inr (inr third) ↦ inr (inr (lost_later ∙ third.0, in_or_done_later seats who a b l i other third.1))
      ]

  enter_later : (n : ℕ) (stage : EnterStage) → i < seats → IsMine a i n → EnterFacts a seats i stage → EnterFacts b seats i stage
  enter_later n enter.Look inside mine h = looks_later h
  enter_later n (enter.Gathers g) inside mine h = own_gather_later n g inside mine h

  -- ---- removing

  removing_later : (s n : ℕ) (g : Gathering) → IsRemovingGather a seats i s n g → IsRemovingGather b seats i s n g
  removing_later s n g h = record {
    gather = gather_later seats who a b l i g other h.gather;
    head = h.head;
    done = λ now.
        let then' = stood seats who a b l g.word h.gather.seen now in
        let done = h.done then' in
        let head : IsHead a s = subst (λ w. leads w s ≡ true) then' h.head in
        let same : b.records s ≡ a.records s = elim (l.moves s) [
          | inl stays ↦ stays.same
          | inr (inl announces) ↦ absurd (not_both (head_holds a.queue s head) announces.out)
          | inr (inr completes) ↦ absurd (not_both completes.opened (done_closed _ done.0))
        ] in
        (ap record_phase same ∙ done.0, ap record_number same ∙ done.1);
  }

  remove_later : (s n : ℕ) (stage : RemoveStage) → RemoveFacts a seats i s n stage → RemoveFacts b seats i s n stage
  remove_later s n remove.Look h = tt
  remove_later s n (remove.Check word) h = (seen_later seats who a b l word h.0, h.1)
  remove_later s n (remove.Gathers g) h = removing_later s n g h

  -- ---- helping

  help_later : (s : ℕ) (at : Helping) → HelpFacts a seats i s at → HelpFacts b seats i s at
  help_later s (Record known) h = tt
  help_later s (Head word) h = (h.0, since_later seats who a b l word s h.1)
  help_later s (Complete word) h = (h.0, helped_later seats who a b l word s h.0 h.1)
  help_later s (Removes removal) h = record { seat = h.seat; seats' = h.seats'; stage = remove_later s removal.number removal.stage h.stage }

  self_later : (s : ℕ) (at : Helping) → IsClosed a i → SelfFacts a i s at → SelfFacts b i s at
  self_later s (Record None) closed h = elim h [ inl out ↦ inl (out_later seats who a b l i closed out) | inr same ↦ inr same ]
  self_later s (Record (Some number)) closed out = out_later seats who a b l i closed out
  self_later s (Head word) closed out = out_later seats who a b l i closed out
  self_later s (Complete word) closed out = out_later seats who a b l i closed out
  self_later s (Removes removal) closed h =
      let same = closed_later seats who a b l i other closed in
      elim h [ inl out ↦ inl (out_later seats who a b l i closed out) | inr own ↦ inr (own.0, λ done. ap record_number same ∙ own.1 (sym (ap record_phase same) ∙ done)) ]

  back_later : (n s : ℕ) (at : Helping) (announced : Bool) → BackFacts a i n s at announced → BackFacts b i n s at announced
  back_later n s at false h = (free_later n h.0, self_later s at h.0.closed h.1)
  back_later n s at true h = (mine_later n h.0, in_or_done_later seats who a b l i other h.1)

  pub phase_later : (n : ℕ) (phase : QueuePhase) → i < seats → PhaseFacts a seats i n phase → PhaseFacts b seats i n phase
  phase_later n Look inside h = free_later n h
  phase_later n StoreValue inside h = (free_later n h.0, out_later seats who a b l i h.0.closed h.1)
  phase_later n StoreOp inside h = (free_later n h.0, out_later seats who a b l i h.0.closed h.1, ap value_number (l.values i other) ∙ h.2)
  phase_later n StoreRecord inside h = (free_later n h.0, out_later seats who a b l i h.0.closed h.1, ap value_number (l.values i other) ∙ h.2, ap op_number (l.ops i other) ∙ h.3)
  phase_later n (Enters owner) inside h = record { seat = h.seat; seats' = h.seats'; mine = mine_later n h.mine; stage = enter_later n owner.stage inside h.mine h.stage }
  phase_later n Drive inside h = (mine_later n h.0, in_or_done_later seats who a b l i other h.1)
  phase_later n Collect inside h = (mine_later n h.0, done_stays seats who a b l i other h.1, out_later seats who a b l i (done_closed _ h.1) h.2)
  phase_later n (Helps s announced at) inside h = (h.0, help_later s at h.1, back_later n s at announced h.2)

  -- what a seat knows is known after a step of another
  pub caller_later : (caller : Caller) → i < seats → IsCallerOf a seats i caller → IsCallerOf b seats i caller
  caller_later caller inside h = record { seat = h.seat; seats' = h.seats'; knows = phase_later (number_of caller) caller.phase inside h.knows }
