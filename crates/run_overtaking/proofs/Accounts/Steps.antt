-- A step of a machine: it keeps what the machine knows since its look, and leaves it held back if it was, unless the head has
-- left. So the strict half of an account is asked for only where the place has come nearer.
use Rattle.std.proofs.Common.{◌≡◌, ◌∙◌, refl, sym, ap, subst, ℕ, ◌<◌, ◌≤◌, Bool, true, false, if◌then◌else◌, List, [], ◌∷◌, length, Option, Some, None, inl, inr, ◌⊎◌, arith}
use Rattle.std.specs.Prelude.{◌==◌, ◌&&◌, nat_lt, slice_index}
use Rattle.std.proofs.lemmas.Bool.{eq-eqb, eqb-true, and_parts, true≢false, ltb-true, lt-ltb}
use Rattle.lin_report.specs.declared.calls.Outcome.{Outcome}
use Rattle.step_memory.specs.declared.steps.Request.TheVariants.{Load}
use Rattle.step_memory.specs.declared.steps.Seen.{Seen}
use Rattle.step_memory.specs.Step.{seen_of, words_after}
use Rattle.step_memory.proofs.Words.{load_tells, load_keeps}
use Rattle.word_fields.specs.Records.{record_number}
use Rattle.word_fields.specs.Seats.{queue_seats}
use Rattle.node_arena.specs.declared.places.TheConstants.{QUEUE}
use Rattle.normal_traits.specs.NormalForm.{NormalForm}
use Rattle.help_queue.specs.declared.enter.Entering.{Entering}
use Rattle.help_queue.specs.declared.enter.Entering.TheVariants as entering_to
use Rattle.help_queue.specs.Enters.{Owner}
use Rattle.help_queue.specs.Gathers.{among_seats, holds, is_first, leads}
use Rattle.help_queue_laws.specs.declared.phases.QueuePhase as queue
use Rattle.help_queue_laws.specs.declared.phases.QueuePhase.TheVariants as in_queue
use Rattle.help_queue_laws.specs.Ghosts.{Ghosts}
use Rattle.help_queue_laws.specs.Runs.{queue_in, record_in}
use Rattle.help_queue_laws.proofs.Known.Scenes.{Scene, scene_of, IsIn, IsOut, IsSound, Later}
use Rattle.help_queue_laws.proofs.Known.QueueWords.{not_both}
use Rattle.help_queue_laws.proofs.Known.Knowledge.{PhaseFacts}
use Rattle.run_overtaking.proofs.Accounts.Places.{first_among}
use Rattle.help_queue_laws.proofs.Steps.Results.{seat_word}
use Rattle.fast_slow_engine.specs.declared.phases.Phase.{Phase}
use Rattle.fast_slow_engine.specs.declared.phases.Phase.TheVariants as phase
use Rattle.fast_slow_engine.specs.declared.phases.Announcing.TheVariants as announcing
use Rattle.fast_slow_engine.specs.declared.help.Help.{Help}
use Rattle.fast_slow_engine.specs.declared.help.Helping.TheVariants.{Record}
use Rattle.fast_slow_engine.specs.Mechs.{Mech}
use Rattle.fast_slow_engine.specs.HelpTable.{helping_ends, helping_hand, help_fed, helping_fed, helping_request}
use Rattle.help_queue.specs.Heads.{first_of, head_of}
use Rattle.fast_slow_engine.specs.PhaseTable.{in_phase, with_hand, told, entered, tried, helped, head_helped, help_stepped, request_in, rests, stepped}
use Rattle.run_queue.specs.QueueViews.{phase_view, helping_view, next_number}
use Rattle.run_queue.specs.Fits.{PhaseFits}
use Rattle.run_queue.proofs.Views.CallViews.{FastNext, views_told, views_tried, fast_wrapped, fast_generated, fast_applied}
use Rattle.run_overtaking.specs.Waiting.{held_back, number_at, looks}
use Rattle.run_overtaking.proofs.Accounts.Scenes.{Dropped, head_goes, number_rises}
use Rattle.run_overtaking.proofs.Accounts.Heads.{HeadFacts, LookFacts, help_on, help_ends}

module _ {S W : Type 0} where
  -- a phase that the queue sees as no help from a look
  quiet_at : (b : Scene) (n : ℕ) (p : Phase S W) (at : queue.QueuePhase) → phase_view p ≡ at → LookFacts b n at → LookFacts b n (phase_view p)
  quiet_at b n p at same h = subst (LookFacts b n) (sym same) h

  fast_quiet : (form : NormalForm S W) (b : Scene) (n seats m : ℕ) (new : Mech S W) → FastNext form seats m new → LookFacts b n (phase_view new.phase)
  fast_quiet form b n seats m new next = elim next [ inl on ↦ quiet_at b n new.phase in_queue.StoreValue on.phase' tt | inr told' ↦ quiet_at b n new.phase in_queue.Look told'.phase' tt ]

  told_quiet : (b : Scene) (n : ℕ) (outcome : Outcome) (mech : Mech S W) → LookFacts b n (phase_view (told outcome mech).phase)
  told_quiet b n outcome mech = quiet_at b n (told outcome mech).phase in_queue.Look (views_told 0 outcome mech).phase' tt

  entered_quiet : (b : Scene) (n : ℕ) (what : Entering) (owner : Owner) (mech : Mech S W) → LookFacts b n (phase_view (entered what owner mech).phase)
  entered_quiet b n entering_to.Running owner mech = tt
  entered_quiet b n entering_to.Entered owner mech = tt
  entered_quiet b n (entering_to.Finished outcome) owner mech = told_quiet b n outcome mech

  either_quiet : (b : Scene) (n : ℕ) (x : Bool) (y z : Mech S W) → (x ≡ true → LookFacts b n (phase_view y.phase)) → (x ≡ false → LookFacts b n (phase_view z.phase)) → LookFacts b n (phase_view (if x then y else z).phase)
  either_quiet b n true y z h k = h refl
  either_quiet b n false y z h k = k refl

module _ {S W : Type 0} (form : NormalForm S W) (mech : Mech S W) (seats who : ℕ) (few : seats ≤ 8) (words : List ℕ) (ghosts : Ghosts) (long : 32 ≤ length words) (sound : IsSound (scene_of words ghosts)) (b : Scene)
    (l : Later seats who (scene_of words ghosts) b) (n n' : ℕ) (same_seats : mech.setup.seats ≡ seats) where
  abbrev a : Scene
  a = scene_of words ghosts

  tried_quiet : (m : Mech S W) → LookFacts b n' (phase_view (tried form m).phase)
  tried_quiet m = quiet_at b n' (tried form m).phase in_queue.StoreValue (views_tried form 0 m).phase' tt

  -- ---- a look at the queue

  abbrev looking : Seen → Mech S W → Mech S W
  looking seen m = stepped form phase.Look seen m

  look_facts : (o : Option ℕ) (m : Mech S W) → m.setup.seats ≡ seats → n' ≡ number_at o (record_in words) → LookFacts b n' (phase_view (head_helped form o false m).phase)
  look_facts None m of' number = tried_quiet m
  look_facts (Some s) m of' number =
      either_quiet b n' (nat_lt s m.setup.seats) (in_phase (phase.Help false (record { head = s; seats = m.setup.seats; at = Record None })) m) (helped form false m)
      (λ real.
      let inside = ltb-true s m.setup.seats real in
      let low : s < 8 = omega (arith, inside, of', few) in
      let e : n' ≡ record_number (a.records s) = number ∙ ap record_number (sym (seat_word s (record_in words s) low)) in
      let up = number_rises seats who a b l s in omega (arith, e, up))
      (λ _. tried_quiet m)

  help_if : (x : Bool) (y z : Mech S W) → LookFacts b n' (phase_view y.phase) → LookFacts b n' (phase_view z.phase) → LookFacts b n' (phase_view (if x then y else z).phase)
  help_if x y z h k = either_quiet b n' x y z (λ _. h) (λ _. k)

  drive_facts : (o : Option ℕ) (m : Mech S W) → LookFacts b n' (phase_view (head_helped form o true m).phase)
  drive_facts None m = tt
  drive_facts (Some s) m = help_if (nat_lt s m.setup.seats) (in_phase (phase.Help true (record { head = s; seats = m.setup.seats; at = Record None })) m) (helped form true m) tt tt

  -- ---- what it knows

  help_facts : (drives : Bool) (help : Help S W) → (looks (phase.Help drives help) ≡ false → n' ≡ n) → PhaseFacts a seats who (next_number (phase.Help drives help) mech.number) (phase_view (phase.Help drives help)) → PhaseFits seats (phase.Help drives help)
      → LookFacts a n (phase_view (phase.Help drives help)) → LookFacts b n' (phase_view (help_stepped form drives help (seen_of (helping_request form help.at help.head) words) mech).phase)
  help_facts true help keeps facts fits h =
      let seen = seen_of (helping_request form help.at help.head) words in
      help_if (helping_ends form help.at help.head seen) _ _ tt tt
  help_facts false help keeps facts fits h =
      let seen = seen_of (helping_request form help.at help.head) words in
      let after = with_hand (helping_hand help.at mech.hand mech.setup.cap seen) mech in
      help_if (helping_ends form help.at help.head seen) (helped form false after) (in_phase (phase.Help false (help_fed form help mech.hand mech.setup.cap seen)) after) (tried_quiet after)
      (subst (λ k. HeadFacts b k help.head (helping_view (helping_fed form help.at help.head help.seats mech.hand mech.setup.cap seen))) (sym (keeps refl))
      (subst (λ k. HeadFacts b n help.head (helping_view (helping_fed form help.at help.head k mech.hand mech.setup.cap seen))) (sym fits.0)
      (help_on form seats who few words ghosts long sound b l n help.head facts.0 help.at mech.hand mech.setup.cap fits.1 h)))

  pub step_facts : (p : Phase S W) → rests p ≡ false → (looks p ≡ false → n' ≡ n) → (looks p ≡ true → n' ≡ number_at (head_of (queue_in words)) (record_in words))
      → PhaseFacts a seats who (next_number p mech.number) (phase_view p) → PhaseFits seats p → LookFacts a n (phase_view p) → LookFacts b n' (phase_view (stepped form p (seen_of (request_in form p mech) words) mech).phase)
  step_facts phase.Idle runs keeps looked facts fits h = absurd cc
  step_facts phase.Begin runs keeps looked facts fits h = tt
  step_facts phase.Look runs keeps looked facts fits h = look_facts (head_of (seen_of (Load QUEUE) words).before) mech same_seats (looked refl ∙ ap (λ q. number_at (head_of q) (record_in words)) (sym (load_tells QUEUE words)))
  step_facts (phase.Generate s step) runs keeps looked facts fits h = fast_quiet form b n' seats mech.number _ (fast_generated form seats s step _ mech)
  step_facts (phase.Apply run stores step) runs keeps looked facts fits h = fast_quiet form b n' seats mech.number _ (fast_applied form seats run stores step _ mech fits)
  step_facts (phase.Wrap wrap) runs keeps looked facts fits h = fast_quiet form b n' seats mech.number _ (fast_wrapped form seats _ _ mech)
  step_facts (phase.Announce announcing.Value) runs keeps looked facts fits h = tt
  step_facts (phase.Announce announcing.Op) runs keeps looked facts fits h = tt
  step_facts (phase.Announce announcing.Record) runs keeps looked facts fits h = tt
  step_facts (phase.Enter owner) runs keeps looked facts fits h = entered_quiet b n' _ _ mech
  step_facts phase.Drive runs keeps looked facts fits h =
      let seen = seen_of (Load QUEUE) words in
      help_if (holds seen.before mech.seat) (head_helped form (head_of seen.before) true mech) (in_phase phase.Collect mech) (drive_facts (head_of seen.before) mech) tt
  step_facts (phase.Help drives help) runs keeps looked facts fits h = help_facts drives help keeps facts fits h
  step_facts phase.Collect runs keeps looked facts fits h = told_quiet b n' _ mech
  step_facts (phase.Value reference) runs keeps looked facts fits h = tt
  step_facts (phase.End reply) runs keeps looked facts fits h = tt

  -- ---- whether it is held back

  abbrev Held : Mech S W → Type 0
  Held new = held_back b.queue b.records n' new.phase ≡ true

  held_if : (x : Bool) (y z : Mech S W) → (x ≡ true → Held y ⊎ Dropped a b) → (x ≡ false → Held z ⊎ Dropped a b) → Held (if x then y else z) ⊎ Dropped a b
  held_if true y z h k = h refl
  held_if false y z h k = k refl

  -- a look at a word that holds a seat finds a head, and so the call is held back
  look_held : (qs : List ℕ) (x : ℕ) (m : Mech S W) → m.setup.seats ≡ seats → qs ≡ queue_seats b.queue → (among_seats x qs ≡ true) → ((t : ℕ) → among_seats t qs ≡ true → t < seats) → ((t : ℕ) → t < 8 → b.records t ≡ record_in words t)
      → n' ≡ number_at (first_of qs) (record_in words) → Held (head_helped form (first_of qs) false m)
  look_held [] x m of' is in' below same number = absurd (true≢false (sym in'))
  look_held (s ∷ qs) x m of' is in' below same number =
      let first : is_first s (s ∷ qs) ≡ true = eq-eqb s s refl in
      let inside : s < seats = below s (first_among s (s ∷ qs) first) in
      let real : nat_lt s m.setup.seats ≡ true = lt-ltb s m.setup.seats (omega (arith, inside, of')) in
      let leads' : leads b.queue s ≡ true = ap (is_first s) (sym is) ∙ first in
      let e : record_number (b.records s) ≡ n' = ap record_number (same s (omega (arith, inside, few))) ∙ sym number in
      subst (λ c. Held (if c then in_phase (phase.Help false (record { head = s; seats = m.setup.seats; at = Record None })) m else helped form false m)) (sym real)
      (ap (λ c. c && (record_number (b.records s) == n')) leads' ∙ eq-eqb (record_number (b.records s)) n' e)

  help_held : (drives : Bool) (help : Help S W) → (looks (phase.Help drives help) ≡ false → n' ≡ n) → PhaseFacts a seats who (next_number (phase.Help drives help) mech.number) (phase_view (phase.Help drives help))
      → b.queue ≡ slice_index (words_after (helping_request form help.at help.head) words) QUEUE → LookFacts a n (phase_view (phase.Help drives help)) → held_back a.queue a.records n (phase.Help drives help) ≡ true
      → Held (help_stepped form drives help (seen_of (helping_request form help.at help.head) words) mech) ⊎ Dropped a b
  help_held true help keeps facts wrote h held = absurd (true≢false (sym held))
  help_held false help keeps facts wrote h held =
      let seen = seen_of (helping_request form help.at help.head) words in
      let after = with_hand (helping_hand help.at mech.hand mech.setup.cap seen) mech in
      let s = help.head in
      let parts = and_parts (leads a.queue s) (record_number (a.records s) == n) held in
      let number = eqb-true (record_number (a.records s)) n parts.1 in
      held_if (helping_ends form help.at s seen) (helped form false after) (in_phase (phase.Help false (help_fed form help mech.hand mech.setup.cap seen)) after)
      (λ ends. inr (help_ends form seats who few words ghosts long sound b l n s facts.0 help.at facts.1 wrote ends parts.0 number h))
      (λ on. elim (head_goes seats who a b l s parts.0) [
        | inl d ↦ inr d
        | inr still' ↦ inl (ap (λ c. c && (record_number (b.records s) == n')) still'.0 ∙ eq-eqb (record_number (b.records s)) n' (still'.1 ∙ number ∙ sym (keeps refl)))
      ])

  pub step_held : (p : Phase S W) (x : ℕ) → rests p ≡ false → IsIn a x → ((t : ℕ) → IsIn a t → t < seats) → (looks p ≡ false → n' ≡ n) → (looks p ≡ true → n' ≡ number_at (head_of (queue_in words)) (record_in words))
      → b.queue ≡ slice_index (words_after (request_in form p mech) words) QUEUE → ((t : ℕ) → t < 8 → b.records t ≡ record_in (words_after (request_in form p mech) words) t)
      → PhaseFacts a seats who (next_number p mech.number) (phase_view p) → LookFacts a n (phase_view p) → held_back a.queue a.records n p ≡ true
      → Held (stepped form p (seen_of (request_in form p mech) words) mech) ⊎ Dropped a b
  step_held phase.Idle x runs in' below keeps looked wrote same facts h held = absurd cc
  step_held phase.Begin x runs in' below keeps looked wrote same facts h held = inl refl
  step_held phase.Look x runs in' below keeps looked wrote same facts h held =
      let stay : words_after (Load QUEUE) words ≡ words = load_keeps QUEUE words in
      inl
      (subst (λ q. Held (head_helped form (head_of q) false mech)) (sym (load_tells QUEUE words))
      (look_held (queue_seats a.queue) x mech same_seats (ap queue_seats (sym (wrote ∙ ap queue_in stay))) in' below (λ t low. same t low ∙ ap (λ ws. record_in ws t) stay) (looked refl)))
  step_held (phase.Generate s step) x runs in' below keeps looked wrote same facts h held = absurd (true≢false (sym held))
  step_held (phase.Apply run stores step) x runs in' below keeps looked wrote same facts h held = absurd (true≢false (sym held))
  step_held (phase.Wrap wrap) x runs in' below keeps looked wrote same facts h held = absurd (true≢false (sym held))
  step_held (phase.Announce step) x runs in' below keeps looked wrote same facts h held = absurd (true≢false (sym held))
  step_held (phase.Enter owner) x runs in' below keeps looked wrote same facts h held = absurd (true≢false (sym held))
  step_held phase.Drive x runs in' below keeps looked wrote same facts h held = absurd (true≢false (sym held))
  step_held (phase.Help drives help) x runs in' below keeps looked wrote same facts h held = help_held drives help keeps facts wrote h held
  step_held phase.Collect x runs in' below keeps looked wrote same facts h held = absurd (true≢false (sym held))
  step_held (phase.Value reference) x runs in' below keeps looked wrote same facts h held = absurd (true≢false (sym held))
  step_held (phase.End reply) x runs in' below keeps looked wrote same facts h held = absurd (true≢false (sym held))

-- the machines of all other seats are held back as before, unless the head has left
pub other_held : {S W : Type 0} (seats who : ℕ) (a b : Scene) (l : Later seats who a b) (n : ℕ) (p : Phase S W) → held_back a.queue a.records n p ≡ true → (held_back b.queue b.records n p ≡ true) ⊎ Dropped a b
other_held seats who a b l n phase.Idle held = inl refl
other_held seats who a b l n phase.Begin held = inl refl
other_held seats who a b l n phase.Look held = inl refl
other_held seats who a b l n (phase.Help false help) held =
    let s = help.head in
    let parts = and_parts (leads a.queue s) (record_number (a.records s) == n) held in
    elim (head_goes seats who a b l s parts.0) [
      | inl d ↦ inr d
      | inr still' ↦ inl (ap (λ c. c && (record_number (b.records s) == n)) still'.0 ∙ eq-eqb (record_number (b.records s)) n (still'.1 ∙ eqb-true (record_number (a.records s)) n parts.1))
    ]
other_held seats who a b l n (phase.Help true help) held = absurd (true≢false (sym held))
other_held seats who a b l n (phase.Generate s step) held = absurd (true≢false (sym held))
other_held seats who a b l n (phase.Apply run stores step) held = absurd (true≢false (sym held))
other_held seats who a b l n (phase.Wrap wrap) held = absurd (true≢false (sym held))
other_held seats who a b l n (phase.Announce step) held = absurd (true≢false (sym held))
other_held seats who a b l n (phase.Enter owner) held = absurd (true≢false (sym held))
other_held seats who a b l n phase.Drive held = absurd (true≢false (sym held))
other_held seats who a b l n phase.Collect held = absurd (true≢false (sym held))
other_held seats who a b l n (phase.Value reference) held = absurd (true≢false (sym held))
other_held seats who a b l n (phase.End reply) held = absurd (true≢false (sym held))
