-- What a seat that helps since its look knows of its head: the number that it knows is at least that of the call at the look.
-- So its helping ends only once that head, with that call, has left the queue word.
use Rattle.std.proofs.Common.{◌≡◌, ◌∙◌, refl, sym, ap, subst, ℕ, ◌<◌, ◌≤◌, Bool, true, false, if◌then◌else◌, List, ◌++◌, drop, length, Option, Some, None, inl, inr, arith}
use Rattle.std.specs.Prelude.{◌==◌, ◌&&◌, not, slice_index}
use Rattle.std.proofs.lemmas.Bool.{cond-true, eq-eqb, eqb-true, and_parts, true≢false}
use Rattle.step_memory.specs.declared.steps.Request.TheVariants.{Load, Exchange}
use Rattle.step_memory.specs.Step.{seen_of, words_after}
use Rattle.step_memory.proofs.Words.{load_tells}
use Rattle.word_fields.specs.Records.{record_phase, record_number}
use Rattle.word_fields.specs.Seats.{queue_seats}
use Rattle.node_arena.specs.declared.places.TheConstants.{QUEUE}
use Rattle.node_arena.specs.MemoryMap.{record_place}
use Rattle.op_record.specs.Outcomes.{is_completed}
use Rattle.normal_traits.specs.NormalForm.{NormalForm}
use Rattle.help_queue.specs.declared.remove.Removing.TheVariants as removing_to
use Rattle.help_queue.specs.declared.remove.RemoveStage.{RemoveStage}
use Rattle.help_queue.specs.declared.remove.RemoveStage.TheVariants as remove
use Rattle.help_queue.specs.Gathers.{gather_over, is_open, leads, removed_word}
use Rattle.help_queue.specs.Removes.{Removal, completes, remove_new, removing_in, remove_request_in}
use Rattle.help_queue.proofs.SeatsGathered.{written_seats, are_behind}
use Rattle.help_queue_laws.specs.declared.phases.Helping as seen_at
use Rattle.help_queue_laws.specs.declared.phases.Helping.TheVariants as at
use Rattle.help_queue_laws.specs.declared.phases.QueuePhase as queue
use Rattle.help_queue_laws.specs.declared.phases.QueuePhase.TheVariants as in_queue
use Rattle.help_queue_laws.specs.Ghosts.{Ghosts}
use Rattle.help_queue_laws.proofs.Known.Scenes.{Scene, scene_of, IsClosed, IsDone, IsHead, IsSound, Later}
use Rattle.help_queue_laws.proofs.Known.Knowledge.{HelpFacts, RemoveFacts, IsRemovalOf}
use Rattle.help_queue_laws.proofs.Known.QueueWords.{not_both, head_holds}
use Rattle.help_queue_laws.proofs.Steps.Results.{seat_word, exchange_tells, won_word}
use Rattle.fast_slow_engine.specs.declared.help.Helping.{Helping}
use Rattle.fast_slow_engine.specs.declared.help.Helping.TheVariants.{Record, Known, Remove}
use Rattle.fast_slow_engine.specs.declared.help.Work.{Work}
use Rattle.fast_slow_engine.specs.declared.help.Work.TheVariants as work
use Rattle.fast_slow_engine.specs.declared.help.WorkTurn.{WorkTurn}
use Rattle.fast_slow_engine.specs.declared.help.WorkTurn.TheVariants.{Going, Again, Over}
use Rattle.fast_slow_engine.specs.HelpTable.{is_gone, is_over, helping_ends, helping_fed, helping_request, work_fed, work_turn, worked}
use Rattle.help_queue.specs.Heads.{is_other}
use Rattle.run_queue.specs.QueueViews.{helping_view, work_view}
use Rattle.run_queue.specs.Fits.{HelpingFits}
use Rattle.run_queue.proofs.Moves.WonRecords.{one_first}
use Rattle.run_queue.proofs.Views.WorkViews.{works_on, goes_on}
use Rattle.run_overtaking.proofs.Accounts.Scenes.{Dropped, number_rises, closed_stays}

-- what a helper knows of its head s, whose call had the number n at the look. A removal of number m knows besides that a
-- record with that number is closed: else it would find the call not completed, and end while the head still stands
abbrev pub HeadFacts : Scene → ℕ → ℕ → seen_at.Helping → Type 0
HeadFacts a n s (at.Record None) = n ≤ record_number (a.records s)
HeadFacts a n s (at.Record (Some known)) = (n ≤ known) × (known ≤ record_number (a.records s))
HeadFacts a n s (at.Head word) = (n ≤ record_number word) × (record_number word ≤ record_number (a.records s))
HeadFacts a n s (at.Complete word) = (n ≤ record_number word) × (record_number word ≤ record_number (a.records s))
HeadFacts a n s (at.Removes removal) = (n ≤ removal.number) × (removal.number ≤ record_number (a.records s)) × (record_number (a.records s) ≡ removal.number → IsClosed a s)

-- so knows a seat that helps since its look
abbrev pub LookFacts : Scene → ℕ → queue.QueuePhase → Type 0
LookFacts a n (in_queue.Helps s false at') = HeadFacts a n s at'
LookFacts a n _ = Unit {0}

-- ---- it stays true through every step

module _ (seats who : ℕ) (a b : Scene) (l : Later seats who a b) (n : ℕ) where
  pub head_later : (s : ℕ) (at' : seen_at.Helping) → HeadFacts a n s at' → HeadFacts b n s at'
  head_later s (at.Record None) h = (let up = number_rises seats who a b l s in omega (arith, h, up))
  head_later s (at.Record (Some known)) h = (h.0, let up = number_rises seats who a b l s in let low = h.1 in omega (arith, low, up))
  head_later s (at.Head word) h = (h.0, let up = number_rises seats who a b l s in let low = h.1 in omega (arith, low, up))
  head_later s (at.Complete word) h = (h.0, let up = number_rises seats who a b l s in let low = h.1 in omega (arith, low, up))
  head_later s (at.Removes removal) h = (h.0, let up = number_rises seats who a b l s in let low = h.1 in omega (arith, low, up), closed_stays seats who a b l s removal.number h.1 h.2)

  pub look_later : (phase : queue.QueuePhase) → LookFacts a n phase → LookFacts b n phase
  look_later in_queue.Look h = tt
  look_later in_queue.StoreValue h = tt
  look_later in_queue.StoreOp h = tt
  look_later in_queue.StoreRecord h = tt
  look_later (in_queue.Enters owner) h = tt
  look_later in_queue.Drive h = tt
  look_later in_queue.Collect h = tt
  look_later (in_queue.Helps s true at') h = tt
  look_later (in_queue.Helps s false at') h = head_later s at' h

-- ---- the steps of a helper

module _ {S W : Type 0} (a : Scene) (n s word : ℕ) where
  pub known_facts : (does : Work S W) → HeadFacts a n s (work_view does word) → (n ≤ record_number word) × (record_number word ≤ record_number (a.records s))
  known_facts work.Head h = h
  known_facts work.Op h = h
  known_facts (work.Value op) h = h
  known_facts (work.Generate op s' step) h = h
  known_facts (work.Fill stores made) h = h
  known_facts (work.Advance to) h = h
  known_facts (work.Read read) h = h
  known_facts (work.Execute run) h = h
  known_facts (work.Wrap wrap) h = h

module _ {S W : Type 0} (form : NormalForm S W) (seats who : ℕ) (few : seats ≤ 8) (words : List ℕ) (ghosts : Ghosts) (long : 32 ≤ length words) (sound : IsSound (scene_of words ghosts)) (b : Scene) (l : Later seats who (scene_of words ghosts) b)
    (n s : ℕ) (real : s < seats) where
  abbrev a : Scene
  a = scene_of words ghosts

  low : s < 8
  low = omega (arith, real, few)

  loaded : (seen_of (Load (record_place s)) words).before ≡ a.records s
  loaded = load_tells (record_place s) words ∙ sym (seat_word s _ low)

  -- ---- it goes on

  rises : record_number (a.records s) ≤ record_number (b.records s)
  rises = number_rises seats who a b l s

  abbrev met_at : Bool → ℕ → Helping S W
  met_at opened word = if opened then Known word work.Head else Remove (remove_new s (record_number word) seats)

  met : (word : ℕ) (opened : Bool) → is_open (record_phase word) ≡ opened → word ≡ a.records s → n ≤ record_number (a.records s)
      → HeadFacts b n s (helping_view (met_at opened word))
  met word true is same h = (let e = ap record_number same in omega (arith, e, h), let e = ap record_number same in let up = rises in omega (arith, e, up))
  met word false is same h =
      let e = ap record_number same in (
        omega (arith, e, h),
        let up = rises in omega (arith, e, up),
        closed_stays seats who a b l s (record_number word) (omega (arith, e)) (λ _. sym (ap (λ w. is_open (record_phase w)) same) ∙ is),
      )

  went : (word : ℕ) (turn : WorkTurn) (next : Work S W) → work_view next word ≡ at.Complete word → n ≤ record_number word → record_number word ≤ record_number (a.records s) → HeadFacts b n s (helping_view (worked form turn word next))
  went word Going next view h k = subst (HeadFacts b n s) (sym view) (h, let up = rises in omega (arith, k, up))
  went word Again next view h k = (h, let up = rises in omega (arith, k, up))
  went word Over next view h k = subst (HeadFacts b n s) (sym view) (h, let up = rises in omega (arith, k, up))

  known_low : (known : Option ℕ) → HeadFacts a n s (at.Record known) → n ≤ record_number (a.records s)
  known_low None h = h
  known_low (Some k) h = (let x = h.0 in let y = h.1 in omega (arith, x, y))

  pub help_on : (at' : Helping S W) (hand : Option ℕ) (cap : ℕ) → HelpingFits at' → HeadFacts a n s (helping_view at') → HeadFacts b n s (helping_view (helping_fed form at' s seats hand cap (seen_of (helping_request form at' s) words)))
  help_on (Record known) hand cap fits h = met _ _ refl loaded (known_low known h)
  help_on (Known word does) hand cap fits h =
      let w = known_facts a n s word does h in
      let seen = seen_of (helping_request form (Known word does) s) words in
      went word (work_turn form does s word seen) (work_fed form does s word hand cap seen) (works_on form word does s hand cap seen fits).view w.0 w.1
  help_on (Remove removal) hand cap fits h = head_later seats who a b l n s (at.Removes removal) h

  -- ---- it ends: the head with its call has left

  other_ends : (known : Option ℕ) (m : ℕ) → is_other known m ≡ true → m ≡ record_number (a.records s) → record_number (a.records s) ≡ n → HeadFacts a n s (at.Record known) → ⊥
  other_ends None m is same still' h = true≢false (sym is)
  other_ends (Some k) m is same still' h =
      let x = h.0 in
      let y = h.1 in
      let e : k ≡ m = omega (arith, x, y, same, still') in
      true≢false (sym is ∙ ap not (eq-eqb k m e))

  over_if : (x : Bool) → is_over form (if x then Going else Over) ≡ true → x ≡ true → ⊥
  over_if true is h = true≢false (sym is)
  over_if false is h = true≢false (sym h)

  gone_if : (x : Bool) → is_gone form (if x then removing_to.Running else removing_to.Gone) ≡ true → x ≡ true → ⊥
  gone_if true is h = true≢false (sym is)
  gone_if false is h = true≢false (sym h)

  gone_when : (x : Bool) → is_gone form (if x then removing_to.Gone else removing_to.Running) ≡ true → x ≡ true
  gone_when true is = refl
  gone_when false is = is

  removed_ends : (removal : Removal) (stage : RemoveStage) → removal.stage ≡ stage → IsRemovalOf a seats who s removal → b.queue ≡ slice_index (words_after (remove_request_in stage removal.seat) words) QUEUE
      → is_gone form (removing_in stage removal (seen_of (remove_request_in stage removal.seat) words)) ≡ true → IsHead a s → record_number (a.records s) ≡ n → HeadFacts a n s (at.Removes removal) → Dropped a b
  removed_ends removal remove.Look is facts wrote ends head still' h =
      absurd (gone_if _ ends (ap (λ q. leads q removal.seat) (load_tells QUEUE words) ∙ ap (leads a.queue) facts.seat ∙ head))
  removed_ends removal (remove.Check word) is facts wrote ends head still' h =
      let x = h.0 in
      let y = h.1 in
      let number : record_number (a.records s) ≡ removal.number = omega (arith, x, y, still') in
      let closed = h.2 number in
      let done : IsDone a s = elim (sound.published s (head_holds a.queue s head)) [ inl opened ↦ absurd (not_both opened closed) | inr done ↦ done ] in
      let seen : (seen_of (Load (record_place removal.seat)) words).before ≡ a.records s = ap (λ k. (seen_of (Load (record_place k)) words).before) facts.seat ∙ loaded in
      let completed : is_completed (record_phase (a.records s)) ≡ true = ap is_completed done in
      absurd (gone_if _ ends (ap (λ w. completes w removal.number) seen ∙ ap (λ c. c && (record_number (a.records s) == removal.number)) completed ∙ eq-eqb (record_number (a.records s)) removal.number number))
  removed_ends removal (remove.Gathers g) is facts wrote ends head still' h =
      let request = remove_request_in (remove.Gathers g) removal.seat in
      let parts = and_parts (gather_over g) (seen_of request words).won (gone_when _ ends) in
      let exchange = Exchange QUEUE g.word (removed_word g) in
      let asked : request ≡ exchange = cond-true (gather_over g) exchange (Load (record_place g.next)) parts.0 in
      let won : (seen_of exchange words).won ≡ true = sym (ap (λ r. (seen_of r words).won) asked) ∙ parts.1 in
      let now : slice_index words QUEUE ≡ g.word = eqb-true (slice_index words QUEUE) g.word (sym (exchange_tells seats who words ghosts in_queue.Drive long QUEUE g.word (removed_word g) (omega arith)) ∙ won) in
      let word : b.queue ≡ removed_word g = wrote ∙ ap (λ r. slice_index (words_after r words) QUEUE) asked ∙ won_word seats who words ghosts in_queue.Drive long QUEUE g.word (removed_word g) (omega arith) now in
      let stage = subst (λ st. RemoveFacts a seats who s removal.number st) is facts.stage in
      record {
        more = g.found;
        seats = ap queue_seats word ∙ written_seats g (drop 1 (queue_seats g.word)) (are_behind (queue_seats g.word) g.found stage.gather.is.apart) ∙ ap (λ w. drop 1 (queue_seats w) ++ g.found) (sym now);
        done = λ t first. subst (λ k. IsDone a k) (one_first s t (queue_seats a.queue) head first) (stage.done (sym now)).0;
      }

  pub help_ends : (at' : Helping S W) → HelpFacts a seats who s (helping_view at') → b.queue ≡ slice_index (words_after (helping_request form at' s) words) QUEUE
      → helping_ends form at' s (seen_of (helping_request form at' s) words) ≡ true → IsHead a s → record_number (a.records s) ≡ n → HeadFacts a n s (helping_view at') → Dropped a b
  help_ends (Record known) facts wrote ends head still' h = absurd (other_ends known _ ends (ap record_number loaded) still' h)
  help_ends (Known word work.Head) facts wrote ends head still' h = absurd (over_if _ ends (ap (λ q. leads q s) (load_tells QUEUE words) ∙ head))
  help_ends (Known word work.Op) facts wrote ends head still' h = absurd (not_both ends (goes_on form word work.Op s (seen_of (helping_request form (Known word work.Op) s) words) tt))
  help_ends (Known word (work.Value op)) facts wrote ends head still' h = absurd (not_both ends (goes_on form word (work.Value op) s (seen_of (helping_request form (Known word (work.Value op)) s) words) tt))
  help_ends (Known word (work.Generate op s' step)) facts wrote ends head still' h = absurd (not_both ends (goes_on form word (work.Generate op s' step) s (seen_of (helping_request form (Known word (work.Generate op s' step)) s) words) tt))
  help_ends (Known word (work.Fill stores made)) facts wrote ends head still' h = absurd (not_both ends (goes_on form word (work.Fill stores made) s (seen_of (helping_request form (Known word (work.Fill stores made)) s) words) tt))
  help_ends (Known word (work.Advance to)) facts wrote ends head still' h = absurd (not_both ends (goes_on form word (work.Advance to) s (seen_of (helping_request form (Known word (work.Advance to)) s) words) tt))
  help_ends (Known word (work.Read read)) facts wrote ends head still' h = absurd (not_both ends (goes_on form word (work.Read read) s (seen_of (helping_request form (Known word (work.Read read)) s) words) tt))
  help_ends (Known word (work.Execute run)) facts wrote ends head still' h = absurd (not_both ends (goes_on form word (work.Execute run) s (seen_of (helping_request form (Known word (work.Execute run)) s) words) tt))
  help_ends (Known word (work.Wrap wrap)) facts wrote ends head still' h = absurd (not_both ends (goes_on form word (work.Wrap wrap) s (seen_of (helping_request form (Known word (work.Wrap wrap)) s) words) tt))
  help_ends (Remove removal) facts wrote ends head still' h = removed_ends removal removal.stage refl facts wrote ends head still' h
