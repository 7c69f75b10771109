-- What machines have learnt stays true through the steps of others.
use Rattle.std.proofs.Common.{◌≡◌, ◌≢◌, ℕ, ◌≤◌, true, false, ap, sym, ◌∙◌, subst, arith, inl, inr, ◌⊎◌}
use Rattle.std.proofs.lemmas.Bool.{cases_Bool}
use Rattle.word_fields.specs.declared.records.RecordPhase.{RecordPhase}
use Rattle.word_fields.specs.declared.records.RecordPhase.TheVariants.{Completed}
use Rattle.word_fields.specs.Records.{record_phase, record_of}
use Rattle.word_fields.specs.Queues.{queue_version}
use Rattle.op_record.specs.Progress.{IsEarlier}
use Rattle.op_record.proofs.RecordOrder.{earlier_transitive}
use Rattle.help_queue.specs.Gathers.{Gathering, holds, leads, is_open}
use Rattle.help_queue_laws.proofs.Known.Scenes.{Scene, IsOpen, IsClosed, IsDone, IsOut, IsHead, IsInOrDone, Later, IsSeen, IsGatherOf, IsSince}
use Rattle.help_queue_laws.proofs.Known.QueueWords.{not_both, head_holds, found_out}

-- a completed record isn't open
pub done_closed : (phase : RecordPhase) → phase ≡ Completed → is_open phase ≡ false
done_closed phase h = ap is_open h

module _ (seats who : ℕ) (a b : Scene) (l : Later seats who a b) where
  -- the version of the queue word never falls
  pub version_rises : queue_version a.queue ≤ queue_version b.queue
  version_rises = elim l.queue [ inl same ↦ subst (λ q. queue_version a.queue ≤ queue_version q) (sym same) (omega arith) | inr changed ↦ omega (arith, changed.version) ]

  -- a word that was seen and is now the queue word was so before
  pub stood : (word : ℕ) → IsSeen a.queue word → word ≡ b.queue → word ≡ a.queue
  stood word seen now =
      elim l.queue [
        | inl same ↦ now ∙ same
        | inr changed ↦ (let v : queue_version word ≡ queue_version b.queue = ap queue_version now in absurd (omega (arith, v, seen.before, changed.version)))
      ]

  pub seen_later : (word : ℕ) → IsSeen a.queue word → IsSeen b.queue word
  seen_later word seen =
      elim l.queue [
        | inl same ↦ subst (λ q. IsSeen q word) (sym same) seen
        | inr changed ↦ record { before = omega (arith, seen.before, changed.version); same = λ e. absurd (omega (arith, e, seen.before, changed.version)) }
      ]

  -- an open record of a seat that isn't the head stays
  pub open_stays : (t : ℕ) → IsOpen a t → IsOut a t → b.records t ≡ a.records t
  open_stays t opened out =
      elim (l.moves t) [
        | inl stays ↦ stays.same
        | inr (inl announces) ↦ absurd (not_both opened announces.closed)
        | inr (inr completes) ↦ absurd (not_both (head_holds a.queue t completes.head) out)
      ]

  pub gather_later : (u : ℕ) (g : Gathering) → u ≢ who → IsGatherOf u seats a g → IsGatherOf u seats b g
  gather_later u g other is = record {
    is = is.is;
    among = is.among;
    seen = seen_later g.word is.seen;
    found = λ now t in'.
        let then' = stood g.word is.seen now in
        let opened = is.found then' t in' in
        let out = subst (λ w. holds w t ≡ false) then' (found_out g.word t g.found is.is.apart in') in
        subst (λ w. is_open (record_phase w) ≡ true) (sym (open_stays t opened out)) opened;
    passed = λ now t before none.
        let then' = stood g.word is.seen now in
        elim (l.moves t) [
          | inl stays ↦ elim (is.passed then' t before none) [
            | inl in' ↦ inl in'
            | inr (inl closed) ↦ inr (inl (subst (λ w. is_open (record_phase w) ≡ false) (sym stays.same) closed))
            | inr (inr late) ↦ inr (inr (l.late u t other late.0, subst (λ v. queue_version g.word ≤ v) (sym stays.announced) late.1))
          ]
          | inr (inl announces) ↦ (let v : queue_version g.word ≡ queue_version a.queue = ap queue_version then' in inr (inr (announces.late u, omega (arith, v, announces.announced))))
          | inr (inr completes) ↦ inl (subst (λ w. holds w t ≡ true) (sym then') (head_holds a.queue t completes.head))
        ];
  }

  -- a completed call of another seat stays so
  pub done_later : (t : ℕ) → t ≢ who → IsDone a t → b.records t ≡ a.records t
  done_later t other done =
      elim (l.moves t) [
        | inl stays ↦ stays.same
        | inr (inl announces) ↦ absurd (other announces.by)
        | inr (inr completes) ↦ absurd (not_both completes.opened (done_closed _ done))
      ]

  pub done_stays : (t : ℕ) → t ≢ who → IsDone a t → IsDone b t
  done_stays t other done = ap record_phase (done_later t other done) ∙ done

  -- so does a closed one
  pub closed_later : (t : ℕ) → t ≢ who → IsClosed a t → b.records t ≡ a.records t
  closed_later t other closed =
      elim (l.moves t) [
        | inl stays ↦ stays.same
        | inr (inl announces) ↦ absurd (other announces.by)
        | inr (inr completes) ↦ absurd (not_both completes.opened closed)
      ]

  -- a seat that is in the word, or completed, stays one or the other
  pub in_or_done_later : (t : ℕ) → t ≢ who → IsInOrDone a t → IsInOrDone b t
  in_or_done_later t other h =
      elim h [
        | inr done ↦ inr (done_stays t other done)
        | inl in' ↦ elim l.queue [
          | inl same ↦ inl (subst (λ q. holds q t ≡ true) (sym same) in')
          | inr changed ↦ elim (changed.leaves t in') [ inl stays ↦ inl stays | inr gone ↦ inr (done_stays t other gone.0) ]
        ]
      ]

  -- a seat whose record is closed enters no word
  pub out_later : (t : ℕ) → IsClosed a t → IsOut a t → IsOut b t
  out_later t closed out =
      elim l.queue [
        | inl same ↦ subst (λ q. holds q t ≡ false) (sym same) out
        | inr changed ↦ elim (cases_Bool (holds b.queue t)) [ inl in' ↦ absurd (not_both (changed.enters t out in') closed) | inr still ↦ still ]
      ]

  -- a record only goes on
  earlier_later : (word t : ℕ) → IsEarlier (record_of word) (record_of (a.records t)) → IsEarlier (record_of word) (record_of (b.records t))
  earlier_later word t h =
      elim (l.moves t) [
        | inl stays ↦ subst (λ w. IsEarlier (record_of word) (record_of w)) (sym stays.same) h
        | inr (inl announces) ↦ earlier_transitive (record_of word) (record_of (a.records t)) (record_of (b.records t)) h announces.later
        | inr (inr completes) ↦ earlier_transitive (record_of word) (record_of (a.records t)) (record_of (b.records t)) h completes.later
      ]

  goes_on : (t : ℕ) → IsSince (a.records t) (b.records t)
  goes_on t =
      elim (l.moves t) [
        | inl stays ↦ inl (sym stays.same)
        | inr (inl announces) ↦ inr announces.later
        | inr (inr completes) ↦ inr completes.later
      ]

  pub since_later : (word t : ℕ) → IsSince word (a.records t) → IsSince word (b.records t)
  since_later word t h = elim h [ inl same ↦ subst (λ w. IsSince w (b.records t)) (sym same) (goes_on t) | inr earlier ↦ inr (earlier_later word t earlier) ]

  -- an open head stays the head
  head_stays : (t : ℕ) → IsOpen a t → IsHead a t → IsHead b t
  head_stays t opened head = elim l.queue [ inl same ↦ subst (λ q. leads q t ≡ true) (sym same) head | inr changed ↦ changed.helped t head opened ]

  -- what is helped at the head stays there until its record goes on
  pub helped_later : (word t : ℕ) → is_open (record_phase word) ≡ true → ((word ≡ a.records t) × IsHead a t) ⊎ IsEarlier (record_of word) (record_of (a.records t))
      → ((word ≡ b.records t) × IsHead b t) ⊎ IsEarlier (record_of word) (record_of (b.records t))
  helped_later word t opened h =
      elim h [
        | inr earlier ↦ inr (earlier_later word t earlier)
        | inl now ↦ elim (l.moves t) [
          | inl stays ↦ inl (now.0 ∙ sym stays.same, head_stays t (subst (λ w. is_open (record_phase w) ≡ true) now.0 opened) now.1)
          | inr (inl announces) ↦ absurd (not_both (head_holds a.queue t now.1) announces.out)
          | inr (inr completes) ↦ inr (subst (λ w. IsEarlier (record_of w) (record_of (b.records t))) (sym now.0) completes.later)
        ]
      ]
