-- A seat enters the queue word once with a call, and a call is completed once. Both follow from what stays true of a call once
-- it has entered or is completed, through every step that `Later` allows.
use Rattle.std.proofs.Common.{◌≡◌, refl, ap, sym, subst, ◌∙◌, ℕ, ◌<◌, true, List, [], ◌∷◌, ◌++◌, arith, inl, inr, ◌⊎◌}
use Rattle.word_fields.specs.Records.{record_phase, record_number}
use Rattle.normal_traits.specs.NormalForm.{NormalForm}
use Rattle.help_queue.specs.Gathers.{holds, is_open}
use Rattle.help_queue_laws.specs.Runs.{record_in}
use Rattle.help_queue_laws.proofs.Known.Scenes.{Scene, scene_of, IsOpen, IsDone, IsIn, IsOut, IsHead, Later}
use Rattle.help_queue_laws.proofs.Acts.LearntStays.{done_closed}
use Rattle.help_queue_laws.proofs.Known.QueueWords.{not_both, head_holds}
use Rattle.help_queue_laws.proofs.Steps.Results.{seat_word}
use Rattle.help_queue_laws.proofs.Known.SceneLaws.{open_generate}
use Rattle.fast_slow_engine.specs.declared.setup.Setup.{Setup}
use Rattle.fast_slow_engine.specs.Runs.{Move, AreMoves, run_of}
use Rattle.run_queue.specs.QueueGhosts.{queue_ghosts}
use Rattle.run_queue.specs.Premises.{KeepsQueue}
use Rattle.run_queue.specs.Events.{MoveCompletes, EntriesAreOwn, CompletionsAreOwn, EntersOnce, CompletesOnce}
use Rattle.run_queue.proofs.Runs.RunMoves.{runs_queued, runs_later}
use Rattle.run_queue.proofs.QueueLaws.{owners}

-- call n of the seat has entered, or a later one was announced
abbrev pub HasEntered : ℕ → ℕ → Scene → Type 0
HasEntered t n a = (n < record_number (a.records t)) ⊎ ((record_number (a.records t) ≡ n) × (IsIn a t ⊎ IsDone a t))

-- call n of the seat is completed, or a later one was announced
abbrev pub HasCompleted : ℕ → ℕ → Scene → Type 0
HasCompleted t n a = (n < record_number (a.records t)) ⊎ ((record_number (a.records t) ≡ n) × IsDone a t)

module _ (seats who t n : ℕ) (a b : Scene) (l : Later seats who a b) where
  in_later : IsIn a t → IsIn b t ⊎ (IsDone a t × (b.records t ≡ a.records t))
  in_later in' = elim l.queue [
    | inl same ↦ inl (subst (λ q. holds q t ≡ true) (sym same) in')
    | inr changed ↦ elim (changed.leaves t in') [ inl stays ↦ inl stays | inr gone ↦ inr (gone.0, changed.records t) ]
  ]

  pub entered_later : HasEntered t n a → HasEntered t n b
  entered_later h =
      elim (l.moves t) [
        | inl stays ↦ elim h [
          | inl more ↦ inl (subst (λ w. n < record_number w) (sym stays.same) more)
          | inr at ↦ inr (
            ap record_number stays.same ∙ at.0,
            elim at.1 [
              | inl in' ↦ elim (in_later in') [ inl still' ↦ inl still' | inr gone ↦ inr (ap record_phase stays.same ∙ gone.0) ]
              | inr done ↦ inr (ap record_phase stays.same ∙ done)
            ],
          )
        ]
        | inr (inl announces) ↦ (
            let up = announces.number in
            elim h [ inl more ↦ inl (omega (arith, more, up)) | inr at ↦ (let level = at.0 in inl (omega (arith, level, up))) ])
        | inr (inr advances) ↦ elim h [
          | inl more ↦ inl (subst (λ k. n < k) (sym advances.number) more)
          | inr at ↦ inr (
            advances.number ∙ at.0,
            elim at.1 [
              | inl in' ↦ elim (in_later in') [ inl still' ↦ inl still' | inr gone ↦ absurd (not_both advances.opened (done_closed _ gone.0)) ]
              | inr done ↦ absurd (not_both advances.opened (done_closed _ done))
            ],
          )
        ]
      ]

  pub completed_later : HasCompleted t n a → HasCompleted t n b
  completed_later h =
      elim (l.moves t) [
        | inl stays ↦ elim h [
          | inl more ↦ inl (subst (λ w. n < record_number w) (sym stays.same) more)
          | inr at ↦ inr (ap record_number stays.same ∙ at.0, ap record_phase stays.same ∙ at.1)
        ]
        | inr (inl announces) ↦ (
            let up = announces.number in
            elim h [ inl more ↦ inl (omega (arith, more, up)) | inr at ↦ (let level = at.0 in inl (omega (arith, level, up))) ])
        | inr (inr advances) ↦ elim h [
          | inl more ↦ inl (subst (λ k. n < k) (sym advances.number) more)
          | inr at ↦ absurd (not_both advances.opened (done_closed _ at.1))
        ]
      ]

  -- a seat that enters has an open record
  enters_open : IsOut a t → IsIn b t → IsOpen a t
  enters_open out in' = elim l.queue [ inl same ↦ absurd (not_both (subst (λ q. holds q t ≡ true) same in') out) | inr changed ↦ changed.enters t out in' ]

  -- who is completed is the head
  completes_head : IsOpen a t → IsDone b t → IsHead a t
  completes_head opened done =
      elim (l.moves t) [
        | inl stays ↦ absurd (not_both opened (done_closed _ (sym (ap record_phase stays.same) ∙ done)))
        | inr (inl announces) ↦ absurd (not_both opened announces.closed)
        | inr (inr advances) ↦ advances.head
      ]

module _ {S W : Type 0} (form : NormalForm S W) (setup : Setup) where
  abbrev scene : List Move → Scene
  scene moves = scene_of (run_of form setup moves).words (queue_ghosts form setup moves)

  abbrev Can : List Move → Type 0
  Can moves = AreMoves form setup moves × KeepsQueue form setup moves

  step_later : (move : Move) (older : List Move) → Can (move ∷ older) → Later setup.seats move.seat (scene older) (scene (move ∷ older))
  step_later move older can = runs_later form setup move older can.0 can.1

  entered_all : (t n : ℕ) (newer older : List Move) → Can (newer ++ older) → HasEntered t n (scene older) → HasEntered t n (scene (newer ++ older))
  entered_all t n [] older can h = h
  entered_all t n (move ∷ newer) older can h = entered_later setup.seats move.seat t n _ _ (step_later move (newer ++ older) can) (entered_all t n newer older (can.0.0, can.1.0) h)

  completed_all : (t n : ℕ) (newer older : List Move) → Can (newer ++ older) → HasCompleted t n (scene older) → HasCompleted t n (scene (newer ++ older))
  completed_all t n [] older can h = h
  completed_all t n (move ∷ newer) older can h = completed_later setup.seats move.seat t n _ _ (step_later move (newer ++ older) can) (completed_all t n newer older (can.0.0, can.1.0) h)

  record_at : (t : ℕ) (moves : List Move) → t < 8 → (scene moves).records t ≡ record_in (run_of form setup moves).words t
  record_at t moves few = seat_word t _ few

  opened_at : (t : ℕ) (move : Move) (older : List Move) → t < 8 → MoveCompletes form setup move older t → IsOpen (scene older) t × IsDone (scene (move ∷ older)) t
  opened_at t move older few c = (ap (λ w. is_open (record_phase w)) (record_at t older few) ∙ c.opened, ap record_phase (record_at t (move ∷ older) few) ∙ c.completed)

module _ {S W : Type 0} (form : NormalForm S W) where
  pub entries_are_own : EntriesAreOwn form
  entries_are_own setup move older t few are keeps e =
      let q = runs_queued form setup older are.0 keeps.0 in
      let opened = enters_open setup.seats move.seat t 0 _ _ (runs_later form setup move older are keeps) e.out e.in' in
      let is = record_at form setup t older few in
      record {
        generates = sym (ap record_phase is) ∙ open_generate _ (λ engaged. not_both (head_holds _ t (q.sound.engaged t engaged)) e.out) opened;
        owned = λ mech found. (owners setup (run_of form setup older) (queue_ghosts form setup older) q t mech found).0 (sym (ap (λ w. is_open (record_phase w)) is) ∙ opened);
      }

  pub completions_are_own : CompletionsAreOwn form
  completions_are_own setup move older t few are keeps c =
      let q = runs_queued form setup older are.0 keeps.0 in
      let at = opened_at form setup t move older few c in
      record {
        leads' = completes_head setup.seats move.seat t 0 _ _ (runs_later form setup move older are keeps) at.0 at.1;
        owned = λ mech found. (owners setup (run_of form setup older) (queue_ghosts form setup older) q t mech found).0 c.opened;
      }

  pub enters_once : EntersOnce form
  enters_once setup last newer first older t few are keeps e again =
      let n = record_number ((scene form setup (first ∷ older)).records t) in
      let h = entered_all form setup t n newer (first ∷ older) (are.0, keeps.0) (inr (refl, inl e.in')) in
      let opened = enters_open setup.seats last.seat t 0 _ _ (runs_later form setup last (newer ++ first ∷ older) are keeps) again.out again.in' in
      let was = ap record_number (record_at form setup t (first ∷ older) few) in
      let is = ap record_number (record_at form setup t (newer ++ first ∷ older) few) in
      elim h [
        | inl more ↦ omega (arith, more, was, is)
        | inr at ↦ elim at.1 [ inl in' ↦ absurd (not_both in' again.out) | inr done ↦ absurd (not_both opened (done_closed _ done)) ]
      ]

  pub completes_once : CompletesOnce form
  completes_once setup last newer first older t few are keeps c again =
      let n = record_number ((scene form setup (first ∷ older)).records t) in
      let h = completed_all form setup t n newer (first ∷ older) (are.0, keeps.0) (inr (refl, (opened_at form setup t first older few c).1)) in
      let opened = (opened_at form setup t last (newer ++ first ∷ older) few again).0 in
      let was = ap record_number (record_at form setup t (first ∷ older) few) in
      let is = ap record_number (record_at form setup t (newer ++ first ∷ older) few) in
      elim h [ inl more ↦ omega (arith, more, was, is) | inr at ↦ absurd (not_both opened (done_closed _ at.1)) ]
