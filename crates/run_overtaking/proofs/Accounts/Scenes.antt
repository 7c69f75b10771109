-- What any step leaves of a call that waits, of the head that a seat helps, and of the seats that the run has not.
use Rattle.std.proofs.Common.{◌≡◌, ◌≢◌, ◌∙◌, sym, ap, ℕ, suc, ◌<◌, ◌≤◌, List, ◌++◌, drop, inl, inr, ◌⊎◌, arith}
use Rattle.std.proofs.lemmas.Bool.{cases_Bool}
use Rattle.word_fields.specs.Records.{record_phase, record_number}
use Rattle.word_fields.specs.Seats.{queue_seats}
use Rattle.help_queue.specs.Gathers.{leads, is_first, is_open}
use Rattle.help_queue_laws.proofs.Known.Scenes.{Scene, IsOpen, IsClosed, IsDone, IsIn, IsOut, IsHead, Later}
use Rattle.help_queue_laws.proofs.Known.QueueWords.{not_both, head_holds}
use Rattle.help_queue_laws.proofs.Acts.LearntStays.{done_closed, closed_later, out_later}
use Rattle.run_overtaking.specs.Waiting.{position}
use Rattle.run_overtaking.proofs.Accounts.Places.{entered_behind, head_leaves, first_stays}

-- the head, whose call was completed, has left the queue word, and seats may have entered behind
pub record Dropped (a b : Scene) : Type 0 where
  pub more : List ℕ
  pub seats : queue_seats b.queue ≡ drop 1 (queue_seats a.queue) ++ more
  pub done : (t : ℕ) → IsHead a t → IsDone a t

module _ (seats who : ℕ) (a b : Scene) (l : Later seats who a b) where
  -- the seats stay, or others enter behind them, or the head has left
  pub queue_goes : ((more : List ℕ) × (queue_seats b.queue ≡ queue_seats a.queue ++ more)) ⊎ ((b.queue ≡ a.queue) ⊎ Dropped a b)
  queue_goes =
      elim l.queue [
        | inl same ↦ inr (inl same)
        | inr changed ↦ elim changed.follows [
          | inl behind ↦ inl (changed.more, behind)
          | inr rest ↦ inr (inr (record { more = changed.more; seats = rest.0; done = rest.1 }))
        ]
      ]

  -- where the head leaves, a call that waits comes one nearer
  pub nearer : (x : ℕ) → IsIn a x → IsOpen a x → Dropped a b → position x (queue_seats a.queue) ≡ suc (position x (queue_seats b.queue))
  nearer x in' opened d =
      elim (cases_Bool (leads a.queue x)) [
        | inl head ↦ absurd (not_both opened (done_closed _ (d.done x head)))
        | inr other ↦ head_leaves x (queue_seats a.queue) d.more in' other ∙ ap (λ q. suc (position x q)) (sym d.seats)
      ]

  -- a call that waits stays where it stands, or comes one nearer
  pub places : (x : ℕ) → IsIn a x → IsOpen a x → (position x (queue_seats a.queue) ≡ position x (queue_seats b.queue)) ⊎ (position x (queue_seats a.queue) ≡ suc (position x (queue_seats b.queue)))
  places x in' opened =
      elim queue_goes [
        | inl behind ↦ inl (sym (ap (position x) behind.1 ∙ entered_behind x (queue_seats a.queue) behind.0 in'))
        | inr (inl same) ↦ inl (ap (λ q. position x (queue_seats q)) (sym same))
        | inr (inr d) ↦ inr (nearer x in' opened d)
      ]

  -- two calls that wait stay where they stand, or both come one nearer
  pub both_places : (x u : ℕ) → IsIn a x → IsOpen a x → IsIn a u → IsOpen a u
      → ((position x (queue_seats a.queue) ≡ position x (queue_seats b.queue)) × (position u (queue_seats a.queue) ≡ position u (queue_seats b.queue)))
      ⊎ ((position x (queue_seats a.queue) ≡ suc (position x (queue_seats b.queue))) × (position u (queue_seats a.queue) ≡ suc (position u (queue_seats b.queue))))
  both_places x u in' opened in_u opened_u =
      elim queue_goes [
        | inl behind ↦ inl (sym (ap (position x) behind.1 ∙ entered_behind x (queue_seats a.queue) behind.0 in'), sym (ap (position u) behind.1 ∙ entered_behind u (queue_seats a.queue) behind.0 in_u))
        | inr (inl same) ↦ inl (ap (λ q. position x (queue_seats q)) (sym same), ap (λ q. position u (queue_seats q)) (sym same))
        | inr (inr d) ↦ inr (nearer x in' opened d, nearer u in_u opened_u d)
      ]

  -- a seat that was in the word and has an open record had one before
  pub opened_before : (x : ℕ) → IsIn a x → IsOpen b x → IsOpen a x
  opened_before x in' opened =
      elim (l.moves x) [
        | inl stays ↦ sym (ap (λ w. is_open (record_phase w)) stays.same) ∙ opened
        | inr (inl announces) ↦ absurd (not_both in' announces.out)
        | inr (inr advances) ↦ advances.opened
      ]

  -- ---- the head with its call

  pub number_rises : (t : ℕ) → record_number (a.records t) ≤ record_number (b.records t)
  number_rises t =
      elim (l.moves t) [
        | inl stays ↦ (let same = ap record_number stays.same in omega (arith, same))
        | inr (inl announces) ↦ (let up = announces.number in omega (arith, up))
        | inr (inr advances) ↦ (let same = advances.number in omega (arith, same))
      ]

  number_of_head : (t : ℕ) → IsHead a t → record_number (b.records t) ≡ record_number (a.records t)
  number_of_head t head =
      elim (l.moves t) [
        | inl stays ↦ ap record_number stays.same
        | inr (inl announces) ↦ absurd (not_both (head_holds a.queue t head) announces.out)
        | inr (inr advances) ↦ advances.number
      ]

  -- a head stays the head with its call, or has left
  pub head_goes : (t : ℕ) → IsHead a t → Dropped a b ⊎ (IsHead b t × (record_number (b.records t) ≡ record_number (a.records t)))
  head_goes t head =
      elim queue_goes [
        | inl behind ↦ inr (ap (is_first t) behind.1 ∙ first_stays t (queue_seats a.queue) behind.0 head, number_of_head t head)
        | inr (inl same) ↦ inr (ap (λ q. leads q t) same ∙ head, number_of_head t head)
        | inr (inr d) ↦ inl d
      ]

  -- a closed record of a number stays closed while it has that number
  pub closed_stays : (t n : ℕ) → n ≤ record_number (a.records t) → (record_number (a.records t) ≡ n → IsClosed a t) → record_number (b.records t) ≡ n → IsClosed b t
  closed_stays t n low closed same =
      elim (l.moves t) [
        | inl stays ↦ ap (λ w. is_open (record_phase w)) stays.same ∙ closed (sym (ap record_number stays.same) ∙ same)
        | inr (inl announces) ↦ (let up = announces.number in absurd (omega (arith, low, up, same)))
        | inr (inr advances) ↦ absurd (not_both advances.opened (closed (sym advances.number ∙ same)))
      ]

  -- ---- seats that the run has not

  pub beyond_later : who < seats → (t : ℕ) → seats ≤ t → IsClosed a t × IsOut a t → IsClosed b t × IsOut b t
  beyond_later inside t past h =
      let other : t ≢ who = λ same. omega (arith, inside, past, same) in
      (ap (λ w. is_open (record_phase w)) (closed_later seats who a b l t other h.0) ∙ h.0, out_later seats who a b l t h.0 h.1)
