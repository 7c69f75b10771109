-- A step claims a block, finds none left, or goes on with what it has in hand.
use Rattle.std.proofs.Common.{rules, arith, ◌≡◌, ◌∙◌, refl, sym, subst, ap, ℕ, ◌+◌, ◌<◌, ◌≤◌, ◌^◌, ◌&&◌, nat_lt, min, Bool, true, false, if◌then◌else◌, ◌⊎◌, inl, inr, List, [], ◌∷◌, length, get_or, Option, Some, None}
use Rattle.std.proofs.Math.Nat.{mod-eq_of_lt}
use Rattle.std.proofs.lemmas.Bool.{cases_lt, le-ltb, lt-ltb}
use Rattle.lin_report.specs.declared.calls.Op.{Op}
use Rattle.lin_report.specs.declared.calls.Outcome.{Outcome}
use Rattle.lin_report.specs.declared.calls.Outcome.TheVariants.{Plain, ValueOf}
use Rattle.lin_report.specs.declared.calls.Reply.TheVariants.{Exhausted}
use Rattle.step_memory.specs.declared.steps.Request.TheVariants.{Load, Add}
use Rattle.step_memory.specs.declared.steps.Seen.{Seen}
use Rattle.step_memory.specs.Step.{seen_of, words_after}
use Rattle.step_memory.proofs.Words.{add_tells, load_tells, word_at_place}
use Rattle.arrayvec.specs.ArrayVec.{ArrayVec}
use Rattle.node_arena.specs.declared.places.TheConstants.{CLAIMS}
use Rattle.normal_traits.specs.declared.form.Found.{Found}
use Rattle.normal_traits.specs.declared.form.Found.TheVariants as found
use Rattle.normal_traits.specs.declared.form.Wrapped.{Wrapped}
use Rattle.normal_traits.specs.declared.form.Wrapped.TheVariants as wrapped
use Rattle.normal_traits.specs.NormalForm.{NormalForm}
use Rattle.cas_executor.specs.declared.fast_run.Execution.{Execution}
use Rattle.cas_executor.specs.declared.fast_run.Execution.TheVariants.{Running, Stopped}
use Rattle.cas_executor.specs.FastRuns.{FastWalk, fast_execution, fast_fed}
use Rattle.fast_slow_engine.specs.declared.phases.Phase.{Phase}
use Rattle.fast_slow_engine.specs.declared.phases.Phase.TheVariants.{Idle, Begin, Look, Generate, Apply, Wrap, Announce, Enter, Drive, Help, Collect, Value, End}
use Rattle.fast_slow_engine.specs.declared.phases.Generating.TheVariants.{Search, LookForBlock, Claim}
use Rattle.fast_slow_engine.specs.declared.phases.Applying.{Applying}
use Rattle.fast_slow_engine.specs.declared.phases.Applying.TheVariants.{Fill, Execute}
use Rattle.fast_slow_engine.specs.declared.phases.Announcing.{Announcing}
use Rattle.fast_slow_engine.specs.declared.phases.Announcing.TheVariants as announcing
use Rattle.fast_slow_engine.specs.declared.help.Help as helper
use Rattle.fast_slow_engine.specs.declared.help.Helping.{Helping}
use Rattle.fast_slow_engine.specs.declared.help.Helping.TheVariants as helping
use Rattle.fast_slow_engine.specs.declared.help.Work.{Work}
use Rattle.fast_slow_engine.specs.declared.help.Work.TheVariants as work
use Rattle.help_queue.specs.declared.enter.Entering.{Entering}
use Rattle.help_queue.specs.declared.enter.Entering.TheVariants as entering_to
use Rattle.help_queue.specs.Enters.{Owner}
use Rattle.help_queue.specs.Gathers.{holds}
use Rattle.help_queue.specs.Heads.{head_of}
use Rattle.fast_slow_engine.specs.Mechs.{Mech}
use Rattle.fast_slow_engine.specs.Hands.{holds_none}
use Rattle.fast_slow_engine.specs.HelpTable.{filling, help_fed, helping_ends, helping_hand, helping_request, work_request}
use Rattle.fast_slow_engine.specs.HelpWords.{told_word}
use Rattle.fast_slow_engine.specs.PhaseTable.{announced, applied, driven, entered, executed, generated, head_helped, help_stepped, helped, in_phase, may_search, offered, request_in, rests, searched, spent, stepped, told, tried, with_hand, wrapped_up}
use Rattle.run_laws.specs.Ticks.{LeavesWord}
use Rattle.run_laws.specs.Claims.{claimed_in, claims_block, helping_asks, helping_claims, work_claims}
use Rattle.run_laws.proofs.HelpClaims.{fed_claims_none, hand_goes}

-- an addition of one to the claim counter
claimed : (words : List ℕ) → 2 < length words → get_or words 2 0 + 1 < 2 ^ 64 → get_or (words_after (Add 2 1) words) 2 0 ≡ get_or words 2 0 + 1
claimed words inside room = word_at_place (Add 2 1) words inside ∙ mod-eq_of_lt room

module _ {S W : Type 0} where
  -- 1 where the next step claims, and else 0
  abbrev pub at_claim : Phase S W → ℕ
  at_claim phase = if claims_block phase then 1 else 0

  -- what a step of a machine comes to for its block: the blocks that it claims, and the counter before and
  -- after
  pub data ClaimKind (phase : Phase S W) (old new : Mech S W) (blocks : List ℕ) (before after : ℕ) : Type 0 where
    claims : at_claim phase ≡ 1 → at_claim new.phase ≡ 0 → before < old.setup.cap → new.hand ≡ Some (before + 1) → blocks ≡ (before + 1) ∷ [] → after ≡ before + 1 → ClaimKind phase old new blocks before after
    finds_none : at_claim phase ≡ 1 → at_claim new.phase ≡ 0 → old.setup.cap ≤ before → new.hand ≡ old.hand → blocks ≡ [] → after ≡ before + 1 → ClaimKind phase old new blocks before after
    keeps : at_claim phase ≡ 0 → at_claim new.phase ≤ 1 → (at_claim new.phase ≡ 1 → before < old.setup.cap) → (new.hand ≡ old.hand) ⊎ (new.hand ≡ None) → blocks ≡ [] → after ≡ before → ClaimKind phase old new blocks before after

  -- a step to a phase that doesn't claim, with the same block in hand or none
  record GoesOn (new old : Mech S W) : Type 0 where
    pub at : at_claim new.phase ≡ 0
    pub hand : (new.hand ≡ old.hand) ⊎ (new.hand ≡ None)

  -- the same block in hand
  record Stays (new old : Mech S W) : Type 0 where
    pub at : at_claim new.phase ≡ 0
    pub hand : new.hand ≡ old.hand

  goes_so : (new old : Mech S W) → Stays new old → GoesOn new old
  goes_so new old h = record { at = h.at; hand = inl h.hand }

  either : (b : Bool) (x y old : Mech S W) → Stays x old → Stays y old → Stays (if b then x else y) old
  either true x y old h k = h
  either false x y old h k = k

  told_stays : (outcome : Outcome) (mech : Mech S W) → Stays (told outcome mech) mech
  told_stays (Plain reply) mech = record { at = refl; hand = refl }
  told_stays (ValueOf reference) mech = record { at = refl; hand = refl }

  announced_stays : (at : Announcing) (mech : Mech S W) → Stays (announced at mech) mech
  announced_stays announcing.Value mech = record { at = refl; hand = refl }
  announced_stays announcing.Op mech = record { at = refl; hand = refl }
  announced_stays announcing.Record mech = record { at = refl; hand = refl }

  entered_stays : (what : Entering) (owner : Owner) (mech : Mech S W) → Stays (entered what owner mech) mech
  entered_stays entering_to.Running owner mech = record { at = refl; hand = refl }
  entered_stays entering_to.Entered owner mech = record { at = refl; hand = refl }
  entered_stays (entering_to.Finished outcome) owner mech = told_stays outcome mech

  module _ (form : NormalForm S W) where
    tried_stays : (mech : Mech S W) → Stays (tried form mech) mech
    tried_stays mech = either (may_search mech) (in_phase (Generate (form.begin_of mech.op) Search) mech) (in_phase (Announce announcing.Value) mech) mech (record { at = refl; hand = refl }) (record { at = refl; hand = refl })

    failed_stays : (mech : Mech S W) → Stays (tried form (record mech { failures = min (mech.failures + 1) mech.setup.limit })) mech
    failed_stays mech = let h = tried_stays (record mech { failures = min (mech.failures + 1) mech.setup.limit }) in record { at = h.at; hand = h.hand }

    helped_stays : (drives : Bool) (mech : Mech S W) → Stays (helped form drives mech) mech
    helped_stays true mech = record { at = refl; hand = refl }
    helped_stays false mech = tried_stays mech

    head_stays : (head : Option ℕ) (drives : Bool) (mech : Mech S W) → Stays (head_helped form head drives mech) mech
    head_stays None drives mech = helped_stays drives mech
    head_stays (Some head) drives mech =
        either (nat_lt head mech.setup.seats) (in_phase (Help drives (record { head = head; seats = mech.setup.seats; at = helping.Record None })) mech) (helped form drives mech) mech (record { at = refl; hand = refl }) (helped_stays drives mech)

    driven_stays : (seen : Seen) (mech : Mech S W) → Stays (driven form seen mech) mech
    driven_stays seen mech = either (holds seen.before mech.seat) (head_helped form (head_of seen.before) true mech) (in_phase Collect mech) mech (head_stays (head_of seen.before) true mech) (record { at = refl; hand = refl })

    searched_stays : (what : Found) (s : S) (mech : Mech S W) → Stays (searched form what s mech) mech
    searched_stays found.Going s mech = record { at = refl; hand = refl }
    searched_stays found.Ready s mech = either (form.needs_block mech.op && holds_none mech.hand) (in_phase (Generate s LookForBlock) mech) (offered form s mech) mech (record { at = refl; hand = refl }) (record { at = refl; hand = refl })
    searched_stays (found.Answer outcome) s mech = told_stays outcome mech
    searched_stays found.Contended s mech = failed_stays mech

    wrapped_stays : (what : Wrapped) (w : W) (mech : Mech S W) → Stays (wrapped_up form what w mech) mech
    wrapped_stays wrapped.Going w mech = record { at = refl; hand = refl }
    wrapped_stays (wrapped.Done outcome) w mech = told_stays outcome mech
    wrapped_stays wrapped.Restart w mech = failed_stays mech

    after_spent : (b : Bool) (new mech : Mech S W) → Stays new (if b then with_hand None mech else mech) → GoesOn new mech
    after_spent true new mech h = record { at = h.at; hand = inr h.hand }
    after_spent false new mech h = record { at = h.at; hand = inl h.hand }

    executed_goes : (execution : Execution) (run : FastWalk) (stores : ArrayVec (ℕ × ℕ)) (mech : Mech S W) → GoesOn (executed form execution run stores mech) mech
    executed_goes Running run stores mech = record { at = refl; hand = inl refl }
    executed_goes (Stopped stop) run stores mech =
        after_spent (nat_lt 0 stop && form.needs_block mech.op) (executed form (Stopped stop) run stores mech) mech
        (wrapped_stays (form.wrap_begun_of mech.op run.entries stop) (form.begin_wrap_of mech.op run.entries stop) (spent form stop mech))

    applied_goes : (run : FastWalk) (stores : ArrayVec (ℕ × ℕ)) (at : Applying) (seen : Seen) (mech : Mech S W) → GoesOn (applied form run stores at seen mech) mech
    applied_goes run stores (Fill made) seen mech = record { at = refl; hand = inl refl }
    applied_goes run stores Execute seen mech = executed_goes (fast_execution run seen) (fast_fed run seen) stores mech

    -- a step that goes on and leaves the counter
    quiet : (phase : Phase S W) (mech new : Mech S W) (before after : ℕ) → at_claim phase ≡ 0 → claimed_in phase before mech.setup.cap ≡ [] → GoesOn new mech → after ≡ before
        → ClaimKind phase mech new (claimed_in phase before mech.setup.cap) before after
    quiet phase mech new before after none blocks goes same = keeps none (omega (arith, goes.at)) (λ one. absurd (omega (arith, one, goes.at))) goes.hand blocks same

    look_kind : (s : S) (mech : Mech S W) (seen : Seen) (before after : ℕ) → seen.before ≡ before → after ≡ before → ClaimKind (Generate s LookForBlock) mech (generated form s LookForBlock seen mech) [] before after
    look_kind s mech seen before after saw same =
        elim (cases_lt seen.before mech.setup.cap) [
          | inl less ↦
              let new : in_phase (Generate s Claim) mech ≡ generated form s LookForBlock seen mech = sym (ap (λ b. if b then in_phase (Generate s Claim) mech else in_phase (End Exhausted) mech) (lt-ltb seen.before mech.setup.cap less)) in
              subst (λ (m : Mech S W). ClaimKind (Generate s LookForBlock) mech m [] before after) new (keeps refl (omega arith) (λ one. omega (arith, less, saw)) (inl refl) refl same)
          | inr more ↦
              let new : in_phase (End Exhausted) mech ≡ generated form s LookForBlock seen mech = sym (ap (λ b. if b then in_phase (Generate s Claim) mech else in_phase (End Exhausted) mech) (le-ltb seen.before mech.setup.cap more)) in
              subst (λ (m : Mech S W). ClaimKind (Generate s LookForBlock) mech m [] before after) new (keeps refl (omega arith) (λ one. absurd (omega (arith, one))) (inl refl) refl same)
        ]

    claim_step : (s : S) (mech : Mech S W) (seen : Seen) (before after : ℕ) → seen.before ≡ before → after ≡ before + 1
        → ClaimKind (Generate s Claim) mech (generated form s Claim seen mech) (if nat_lt before mech.setup.cap then (before + 1) ∷ [] else []) before after
    claim_step s mech seen before after saw word =
        let yes = offered form s (with_hand (Some (seen.before + 1)) mech) in
        let none = in_phase (End Exhausted) mech in
        elim (cases_lt seen.before mech.setup.cap) [
          | inl less ↦
              let new : yes ≡ generated form s Claim seen mech = sym (ap (λ b. if b then yes else none) (lt-ltb seen.before mech.setup.cap less)) in
              let block = ap (λ b. if b then (before + 1) ∷ [] else []) (lt-ltb before mech.setup.cap (omega (arith, less, saw))) in
              subst (λ (m : Mech S W). ClaimKind (Generate s Claim) mech m (if nat_lt before mech.setup.cap then (before + 1) ∷ [] else []) before after) new
              (claims refl refl (omega (arith, less, saw)) (ap (λ n. Some (n + 1)) saw) block word)
          | inr more ↦
              let new : none ≡ generated form s Claim seen mech = sym (ap (λ b. if b then yes else none) (le-ltb seen.before mech.setup.cap more)) in
              let block = ap (λ b. if b then (before + 1) ∷ [] else []) (le-ltb before mech.setup.cap (omega (arith, more, saw))) in
              subst (λ (m : Mech S W). ClaimKind (Generate s Claim) mech m (if nat_lt before mech.setup.cap then (before + 1) ∷ [] else []) before after) new
              (finds_none refl refl (omega (arith, more, saw)) refl block word)
        ]

    -- ---- a helper's step

    abbrev helper_of : Bool → ℕ → ℕ → Helping S W → Phase S W
    helper_of drives head seats at = Help drives (record { head = head; seats = seats; at = at })

    -- helping ends or goes on, with the block in hand or without it
    goes_helped : (b : Bool) (drives : Bool) (help : helper.Help S W) (after mech : Mech S W) → at_claim (Help drives help) ≡ 0 → (after.hand ≡ mech.hand) ⊎ (after.hand ≡ None) → GoesOn (if b then helped form drives after else in_phase (Help drives help) after) mech
    goes_helped true drives help after mech at hand =
        let h = helped_stays drives after in
        record { at = h.at; hand = elim hand [ inl same ↦ inl (h.hand ∙ same) | inr none ↦ inr (h.hand ∙ none) ] }
    goes_helped false drives help after mech at hand = record { at = at; hand = hand }

    helping_goes : (drives : Bool) (help : helper.Help S W) (seen : Seen) (mech : Mech S W) → helping_asks help.at ≡ false → GoesOn (help_stepped form drives help seen mech) mech
    helping_goes drives help seen mech asks =
        goes_helped (helping_ends form help.at help.head seen) drives (help_fed form help mech.hand mech.setup.cap seen) (with_hand (helping_hand help.at mech.hand mech.setup.cap seen) mech) mech
        (ap (λ b. if b then 1 else 0) (fed_claims_none form help.at help.head help.seats mech.hand mech.setup.cap seen asks)) (hand_goes help.at mech.hand mech.setup.cap seen asks)

    -- the machine that goes on helping, with this work and block
    abbrev worked_on : Bool → ℕ → ℕ → ℕ → Work S W → Option ℕ → Mech S W → Mech S W
    worked_on drives head seats word does hand mech = in_phase (Help drives (record { head = head; seats = seats; at = helping.Known word does })) (with_hand hand mech)

    help_look : (drives : Bool) (head seats word : ℕ) (op : Op) (s : S) (mech : Mech S W) (seen : Seen) (before after : ℕ) → seen.before ≡ before → after ≡ before
        → ClaimKind (helper_of drives head seats (helping.Known word (work.Generate op s LookForBlock))) mech (stepped form (helper_of drives head seats (helping.Known word (work.Generate op s LookForBlock))) seen mech) [] before after
    help_look drives head seats word op s mech seen before after saw same =
        let phase = helper_of drives head seats (helping.Known word (work.Generate op s LookForBlock)) in
        let make = λ (b : Bool). worked_on drives head seats word (if b then work.Generate op s Claim else work.Advance (told_word word (Plain Exhausted))) mech.hand mech in
        elim (cases_lt seen.before mech.setup.cap) [
          | inl less ↦
              let new : make true ≡ stepped form phase seen mech = sym (ap make (lt-ltb seen.before mech.setup.cap less)) in
              subst (λ (m : Mech S W). ClaimKind phase mech m [] before after) new (keeps refl (omega arith) (λ one. omega (arith, less, saw)) (inl refl) refl same)
          | inr more ↦
              let new : make false ≡ stepped form phase seen mech = sym (ap make (le-ltb seen.before mech.setup.cap more)) in
              subst (λ (m : Mech S W). ClaimKind phase mech m [] before after) new (keeps refl (omega arith) (λ one. absurd (omega (arith, one))) (inl refl) refl same)
        ]

    help_claim : (drives : Bool) (head seats word : ℕ) (op : Op) (s : S) (mech : Mech S W) (seen : Seen) (before after : ℕ) → seen.before ≡ before → after ≡ before + 1
        → ClaimKind (helper_of drives head seats (helping.Known word (work.Generate op s Claim))) mech (stepped form (helper_of drives head seats (helping.Known word (work.Generate op s Claim))) seen mech)
        (if nat_lt before mech.setup.cap then (before + 1) ∷ [] else []) before after
    help_claim drives head seats word op s mech seen before after saw counted =
        let phase = helper_of drives head seats (helping.Known word (work.Generate op s Claim)) in
        let fill = filling form op s head word (Some (seen.before + 1)) in
        let make = λ (b : Bool). worked_on drives head seats word (if b then fill else work.Advance (told_word word (Plain Exhausted))) (if b then Some (seen.before + 1) else mech.hand) mech in
        elim (cases_lt seen.before mech.setup.cap) [
          | inl less ↦
              let new : make true ≡ stepped form phase seen mech = sym (ap make (lt-ltb seen.before mech.setup.cap less)) in
              let block = ap (λ b. if b then (before + 1) ∷ [] else []) (lt-ltb before mech.setup.cap (omega (arith, less, saw))) in
              subst (λ (m : Mech S W). ClaimKind phase mech m (if nat_lt before mech.setup.cap then (before + 1) ∷ [] else []) before after) new
              (claims refl refl (omega (arith, less, saw)) (ap (λ n. Some (n + 1)) saw) block counted)
          | inr more ↦
              let new : make false ≡ stepped form phase seen mech = sym (ap make (le-ltb seen.before mech.setup.cap more)) in
              let block = ap (λ b. if b then (before + 1) ∷ [] else []) (le-ltb before mech.setup.cap (omega (arith, more, saw))) in
              subst (λ (m : Mech S W). ClaimKind phase mech m (if nat_lt before mech.setup.cap then (before + 1) ∷ [] else []) before after) new
              (finds_none refl refl (omega (arith, more, saw)) refl block counted)
        ]

    -- a helper's step that asks for no block
    helps_on : (drives : Bool) (help : helper.Help S W) (mech : Mech S W) (words : List ℕ) → helping_asks help.at ≡ false → helping_claims help.at ≡ false
        → (helping_claims help.at ≡ false → LeavesWord CLAIMS (request_in form (Help drives help) mech) words)
        → ClaimKind (Help drives help) mech (stepped form (Help drives help) (seen_of (request_in form (Help drives help) mech) words) mech) (claimed_in (Help drives help) (get_or words 2 0) mech.setup.cap) (get_or words 2 0)
        (get_or (words_after (request_in form (Help drives help) mech) words) 2 0)
    helps_on drives help mech words asks none leaves =
        quiet (Help drives help) mech _ _ _ (ap (λ b. if b then 1 else 0) none) (ap (λ b. if b && nat_lt (get_or words 2 0) mech.setup.cap then (get_or words 2 0 + 1) ∷ [] else []) none)
        (helping_goes drives help (seen_of (request_in form (Help drives help) mech) words) mech asks) (leaves none)

    work_kind : (drives : Bool) (head seats word : ℕ) (does : Work S W) (mech : Mech S W) (words : List ℕ) → (work_claims does ≡ false → LeavesWord CLAIMS (work_request form does head word) words)
        → 2 < length words → get_or words 2 0 + 1 < 2 ^ 64
        → ClaimKind (helper_of drives head seats (helping.Known word does)) mech
        (stepped form (helper_of drives head seats (helping.Known word does)) (seen_of (work_request form does head word) words) mech)
        (claimed_in (helper_of drives head seats (helping.Known word does)) (get_or words 2 0) mech.setup.cap) (get_or words 2 0) (get_or (words_after (work_request form does head word) words) 2 0)
    work_kind drives head seats word (work.Generate op s LookForBlock) mech words leaves inside room = help_look drives head seats word op s mech (seen_of (Load 2) words) (get_or words 2 0) _ (load_tells 2 words) (leaves refl)
    work_kind drives head seats word (work.Generate op s Claim) mech words leaves inside room = help_claim drives head seats word op s mech (seen_of (Add 2 1) words) (get_or words 2 0) _ (add_tells 2 1 words) (claimed words inside room)
    work_kind drives head seats word does mech words leaves inside room = helps_on drives (record { head = head; seats = seats; at = helping.Known word does }) mech words refl refl leaves

    help_kind : (drives : Bool) (head seats : ℕ) (at : Helping S W) (mech : Mech S W) (words : List ℕ) → (helping_claims at ≡ false → LeavesWord CLAIMS (helping_request form at head) words)
        → 2 < length words → get_or words 2 0 + 1 < 2 ^ 64
        → ClaimKind (helper_of drives head seats at) mech (stepped form (helper_of drives head seats at) (seen_of (helping_request form at head) words) mech) (claimed_in (helper_of drives head seats at) (get_or words 2 0) mech.setup.cap) (get_or words 2 0)
        (get_or (words_after (helping_request form at head) words) 2 0)
    help_kind drives head seats (helping.Record known) mech words leaves inside room = helps_on drives (record { head = head; seats = seats; at = helping.Record known }) mech words refl refl leaves
    help_kind drives head seats (helping.Known word does) mech words leaves inside room = work_kind drives head seats word does mech words leaves inside room
    help_kind drives head seats (helping.Remove removal) mech words leaves inside room = helps_on drives (record { head = head; seats = seats; at = helping.Remove removal }) mech words refl refl leaves

    pub claim_kind : (phase : Phase S W) (mech : Mech S W) (words : List ℕ) → rests phase ≡ false → (claims_block phase ≡ false → LeavesWord CLAIMS (request_in form phase mech) words)
        → 2 < length words → get_or words 2 0 + 1 < 2 ^ 64
        → ClaimKind phase mech (stepped form phase (seen_of (request_in form phase mech) words) mech) (claimed_in phase (get_or words 2 0) mech.setup.cap) (get_or words 2 0) (get_or (words_after (request_in form phase mech) words) 2 0)
    claim_kind Idle mech words runs leaves inside room = absurd (search rules)
    claim_kind Begin mech words runs leaves inside room = quiet Begin mech _ _ _ refl refl (record { at = refl; hand = inl refl }) (leaves refl)
    claim_kind Look mech words runs leaves inside room = quiet Look mech _ _ _ refl refl (goes_so _ mech (head_stays (head_of (seen_of (Load 1) words).before) false mech)) (leaves refl)
    claim_kind (Generate s Search) mech words runs leaves inside room =
        quiet (Generate s Search) mech _ _ _ refl refl (goes_so _ mech (searched_stays (form.found_of s (seen_of (form.request_of s) words)) (form.feed_of s (seen_of (form.request_of s) words)) mech)) (leaves refl)
    claim_kind (Generate s LookForBlock) mech words runs leaves inside room = look_kind s mech (seen_of (Load 2) words) (get_or words 2 0) _ (load_tells 2 words) (leaves refl)
    claim_kind (Generate s Claim) mech words runs leaves inside room = claim_step s mech (seen_of (Add 2 1) words) (get_or words 2 0) _ (add_tells 2 1 words) (claimed words inside room)
    claim_kind (Apply run stores at) mech words runs leaves inside room =
        quiet (Apply run stores at) mech _ _ _ refl refl (applied_goes run stores at (seen_of (request_in form (Apply run stores at) mech) words) mech) (leaves refl)
    claim_kind (Wrap w) mech words runs leaves inside room =
        quiet (Wrap w) mech _ _ _ refl refl (goes_so _ mech (wrapped_stays (form.wrap_found_of w (seen_of (form.wrap_request_of w) words)) (form.feed_wrap_of w (seen_of (form.wrap_request_of w) words)) mech)) (leaves refl)
    claim_kind (Announce at) mech words runs leaves inside room = quiet (Announce at) mech _ _ _ refl refl (goes_so _ mech (announced_stays at mech)) (leaves refl)
    claim_kind (Enter owner) mech words runs leaves inside room = quiet (Enter owner) mech _ _ _ refl refl (goes_so _ mech (entered_stays _ _ mech)) (leaves refl)
    claim_kind Drive mech words runs leaves inside room = quiet Drive mech _ _ _ refl refl (goes_so _ mech (driven_stays (seen_of (Load 1) words) mech)) (leaves refl)
    claim_kind (Help drives help) mech words runs leaves inside room = help_kind drives help.head help.seats help.at mech words leaves inside room
    claim_kind Collect mech words runs leaves inside room = quiet Collect mech _ _ _ refl refl (goes_so _ mech (told_stays _ mech)) (leaves refl)
    claim_kind (Value reference) mech words runs leaves inside room = quiet (Value reference) mech _ _ _ refl refl (record { at = refl; hand = inl refl }) (leaves refl)
    claim_kind (End reply) mech words runs leaves inside room = quiet (End reply) mech _ _ _ refl refl (record { at = refl; hand = inl refl }) (leaves refl)
