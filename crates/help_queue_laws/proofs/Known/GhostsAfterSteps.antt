-- What a step does to the ghosts of a run.
use Rattle.std.proofs.Common.{◌≡◌, ◌≢◌, ℕ, Bool, true, false, cond, refl, ap, ◌∙◌, Some}
use Rattle.std.specs.Prelude.{◌==◌, ◌&&◌, not}
use Rattle.std.proofs.lemmas.Bool.{cond_both, cond-true, cond-false, eq-eqb, ne_eqb, and_from, and_left, and_right, not_from_false}
use Rattle.step_memory.specs.declared.steps.Seen.{Seen}
use Rattle.word_fields.specs.Queues.{queue_version}
use Rattle.help_queue_laws.specs.declared.phases.QueuePhase.{QueuePhase}
use Rattle.help_queue_laws.specs.Ghosts.{Ghosts, announces, gather_of, loads_in, lost_after, ghosts_after}

-- a step that reads: the ghosts of others stay, and a seat is late no longer only where its record is loaded
pub record Reads (i : ℕ) (ghosts gh : Ghosts) (loaded : ℕ → Bool) : Type 0 where
  pub announced : (t : ℕ) → gh.announced t ≡ ghosts.announced t
  pub late : (u t : ℕ) → u ≢ i → ghosts.late u t ≡ true → gh.late u t ≡ true
  pub own : (t : ℕ) → loaded t ≡ false → ghosts.late i t ≡ true → gh.late i t ≡ true
  pub lost : (t : ℕ) → t ≢ i → gh.lost t ≡ ghosts.lost t
  pub replaced : (w : ℕ) → gh.replaced w ≡ ghosts.replaced w

module _ (i : ℕ) (phase : QueuePhase) (seen : Seen) (queue queue' : ℕ) (ghosts : Ghosts) where
  pub late_beside : (u t : ℕ) → u ≢ i → ghosts.late u t ≡ true → (ghosts_after i phase seen queue queue' ghosts).late u t ≡ true
  late_beside u t other h =
      cond_both (announces phase && (t == i)) true (cond ((u == i) && loads_in (gather_of phase) t) false (ghosts.late u t)) (λ x. x ≡ true) (λ _. refl)
      (λ _. cond-false ((u == i) && loads_in (gather_of phase) t) false (ghosts.late u t) (and_left (u == i) (loads_in (gather_of phase) t) (ne_eqb u i other)) ∙ h)

  pub late_own : (t : ℕ) → loads_in (gather_of phase) t ≡ false → ghosts.late i t ≡ true → (ghosts_after i phase seen queue queue' ghosts).late i t ≡ true
  late_own t none h =
      cond_both (announces phase && (t == i)) true (cond ((i == i) && loads_in (gather_of phase) t) false (ghosts.late i t)) (λ x. x ≡ true) (λ _. refl)
      (λ _. cond-false ((i == i) && loads_in (gather_of phase) t) false (ghosts.late i t) (and_right (i == i) (loads_in (gather_of phase) t) none) ∙ h)

  pub late_all : announces phase ≡ true → (u : ℕ) → (ghosts_after i phase seen queue queue' ghosts).late u i ≡ true
  late_all ann u = cond-true (announces phase && (i == i)) true _ (and_from (announces phase) (i == i) ann (eq-eqb i i refl))

  pub lost_beside : (t : ℕ) → t ≢ i → (ghosts_after i phase seen queue queue' ghosts).lost t ≡ ghosts.lost t
  lost_beside t other = cond-false (t == i) (lost_after phase seen (ghosts.lost t)) (ghosts.lost t) (ne_eqb t i other)

  pub lost_own : (ghosts_after i phase seen queue queue' ghosts).lost i ≡ lost_after phase seen (ghosts.lost i)
  lost_own = cond-true (i == i) (lost_after phase seen (ghosts.lost i)) (ghosts.lost i) (eq-eqb i i refl)

  pub replaced_beside : (w : ℕ) → w ≢ queue → (ghosts_after i phase seen queue queue' ghosts).replaced w ≡ ghosts.replaced w
  replaced_beside w other = cond-false ((w == queue) && not (queue' == queue)) (Some queue') (ghosts.replaced w) (and_left (w == queue) (not (queue' == queue)) (ne_eqb w queue other))

  pub replaced_same : queue' ≡ queue → (w : ℕ) → (ghosts_after i phase seen queue queue' ghosts).replaced w ≡ ghosts.replaced w
  replaced_same same w =
      cond-false ((w == queue) && not (queue' == queue)) (Some queue') (ghosts.replaced w) (and_right (w == queue) (not (queue' == queue)) (ap not (eq-eqb queue' queue same)))

  pub replaced_now : queue' ≢ queue → (ghosts_after i phase seen queue queue' ghosts).replaced queue ≡ Some queue'
  replaced_now other =
      cond-true ((queue == queue) && not (queue' == queue)) (Some queue') (ghosts.replaced queue)
      (and_from (queue == queue) (not (queue' == queue)) (eq-eqb queue queue refl) (not_from_false (queue' == queue) (ne_eqb queue' queue other)))

  pub announced_beside : (t : ℕ) → t ≢ i → (ghosts_after i phase seen queue queue' ghosts).announced t ≡ ghosts.announced t
  announced_beside t other = cond-false (announces phase && (t == i)) (queue_version queue) (ghosts.announced t) (and_right (announces phase) (t == i) (ne_eqb t i other))

  pub announced_same : announces phase ≡ false → (t : ℕ) → (ghosts_after i phase seen queue queue' ghosts).announced t ≡ ghosts.announced t
  announced_same none t = cond-false (announces phase && (t == i)) (queue_version queue) (ghosts.announced t) (and_left (announces phase) (t == i) none)

  pub announced_own : announces phase ≡ true → (ghosts_after i phase seen queue queue' ghosts).announced i ≡ queue_version queue
  announced_own ann = cond-true (announces phase && (i == i)) (queue_version queue) (ghosts.announced i) (and_from (announces phase) (i == i) ann (eq-eqb i i refl))

  pub reads_after : announces phase ≡ false → queue' ≡ queue → Reads i ghosts (ghosts_after i phase seen queue queue' ghosts) (loads_in (gather_of phase))
  reads_after none same = record { announced = announced_same none; late = late_beside; own = late_own; lost = lost_beside; replaced = replaced_same same }
