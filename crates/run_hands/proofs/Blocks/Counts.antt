-- No more blocks are claimed than there are: each claim is of another block.
use Rattle.std.proofs.Common.{◌≡◌, ◌∙◌, refl, sym, ap, ℕ, ◌+◌, ◌-◌, ◌<◌, ◌≤◌, ◌&&◌, nat_lt, if◌then◌else◌, Bool, true, false, List, [], ◌∷◌, suc, length, length-append, get_or, slice_get, Option, Some, None, All, AllPairs, arith, rules}
use Rattle.std.proofs.lemmas.List.Elements.{All-head, All-tail}
use Rattle.lin_report.specs.declared.calls.Op.{Op}
use Rattle.step_memory.specs.Step.{seen_of}
use Rattle.step_memory.proofs.Words.{add_tells}
use Rattle.normal_traits.specs.NormalForm.{NormalForm}
use Rattle.fast_slow_engine.specs.declared.phases.Phase.{Phase}
use Rattle.fast_slow_engine.specs.declared.phases.Phase.TheVariants.{Generate, Help}
use Rattle.fast_slow_engine.specs.declared.phases.Generating.TheVariants.{Search, LookForBlock, Claim}
use Rattle.fast_slow_engine.specs.declared.help.Helping.{Helping}
use Rattle.fast_slow_engine.specs.declared.help.Helping.TheVariants.{Known}
use Rattle.fast_slow_engine.specs.declared.help.Work.{Work}
use Rattle.fast_slow_engine.specs.declared.help.Work.TheVariants as work
use Rattle.fast_slow_engine.specs.declared.setup.Setup.{Setup}
use Rattle.fast_slow_engine.specs.HelpTable.{work_request, helping_request}
use Rattle.fast_slow_engine.specs.Mechs.{Mech}
use Rattle.fast_slow_engine.specs.PhaseTable.{mech_request, request_in}
use Rattle.fast_slow_engine.specs.Runs.{Move, RunState, begun, run_of}
use Rattle.run_laws.specs.Claims.{claimed_by, claimed_in, claims_block, claims_of, helping_claims, work_claims}
use Rattle.run_laws.proofs.BlocksClaimed.{claims_hold}
use Rattle.run_queue.specs.HeldBlocks as held
use Rattle.run_queue.specs.Rounds.{one_if}
use Rattle.run_queue.proofs.Blocks.HandLaws.{claims_keep_queue}
use Rattle.run_hands.specs.Hands.{ClaimsFit, QueueKept}

-- falling numbers, all above 0, are no more than the greatest
falling_few : (most : ℕ) (xs : List ℕ) → All (λ x. (0 < x) × (x ≤ most)) xs → AllPairs (λ later earlier. earlier < later) xs → length xs ≤ most
falling_few most [] each pairs = omega arith
falling_few most (x ∷ xs) each pairs =
    let here = All-head (λ y. (0 < y) × (y ≤ most)) x xs each in
    let rest = All-tail (λ y. (0 < y) × (y ≤ most)) x xs each in
    let below : All (λ y. (0 < y) × (y ≤ x - 1)) xs = λ k d inside. (let less = pairs 0 (suc k) d (omega arith) (omega arith) in let some = (rest k d inside).0 in (some, omega (arith, less))) in
    let few = falling_few (x - 1) xs below (λ i j d before inside. pairs (suc i) (suc j) d (omega arith) (omega arith)) in
    let some = here.0 in
    let within = here.1 in
    omega (arith, few, some, within)

one_claim : (b : Bool) (block : ℕ) → length (if b then block ∷ [] else []) ≡ one_if b
one_claim true block = refl
one_claim false block = refl

module _ {S W : Type 0} where
  -- both say the same of a step
  work_same : (does : Work S W) → work_claims does ≡ held.claims_work does
  work_same (work.Generate op s Search) = refl
  work_same (work.Generate op s LookForBlock) = refl
  work_same (work.Generate op s Claim) = refl
  work_same _ = refl

  helping_same : (at : Helping S W) → helping_claims at ≡ held.claims_helping at
  helping_same (Known word does) = work_same does
  helping_same _ = refl

  claims_same : (phase : Phase S W) → claims_block phase ≡ held.claims_in phase
  claims_same (Generate s Search) = refl
  claims_same (Generate s LookForBlock) = refl
  claims_same (Generate s Claim) = refl
  claims_same (Help drives help) = helping_same help.at
  claims_same _ = refl

  module _ (form : NormalForm S W) where
    -- a step that claims sees the counter
    work_sees : (does : Work S W) (head word : ℕ) (words : List ℕ) → work_claims does ≡ true → (seen_of (work_request form does head word) words).before ≡ get_or words 2 0
    work_sees (work.Generate op s Claim) head word words is = add_tells 2 1 words
    work_sees (work.Generate op s Search) head word words is = absurd (search rules)
    work_sees (work.Generate op s LookForBlock) head word words is = absurd (search rules)
    work_sees _ head word words is = absurd (search rules)

    helping_sees : (at : Helping S W) (head : ℕ) (words : List ℕ) → helping_claims at ≡ true → (seen_of (helping_request form at head) words).before ≡ get_or words 2 0
    helping_sees (Known word does) head words is = work_sees does head word words is
    helping_sees _ head words is = absurd (search rules)

    claim_sees : (phase : Phase S W) (mech : Mech S W) (words : List ℕ) → claims_block phase ≡ true → (seen_of (request_in form phase mech) words).before ≡ get_or words 2 0
    claim_sees (Generate s Claim) mech words is = add_tells 2 1 words
    claim_sees (Generate s Search) mech words is = absurd (search rules)
    claim_sees (Generate s LookForBlock) mech words is = absurd (search rules)
    claim_sees (Help drives help) mech words is = helping_sees help.at help.head words is
    claim_sees _ mech words is = absurd (search rules)

    claim_tests : (b : Bool) (phase : Phase S W) (mech : Mech S W) (words : List ℕ) → claims_block phase ≡ b
        → (b && nat_lt (get_or words 2 0) mech.setup.cap) ≡ (b && nat_lt (seen_of (request_in form phase mech) words).before mech.setup.cap)
    claim_tests true phase mech words is = ap (λ n. nat_lt n mech.setup.cap) (sym (claim_sees phase mech words is))
    claim_tests false phase mech words is = refl

    same_count : (phase : Phase S W) (mech : Mech S W) (words : List ℕ)
        → length (claimed_in phase (get_or words 2 0) mech.setup.cap) ≡ one_if (held.claims_in phase && nat_lt (seen_of (request_in form phase mech) words).before mech.setup.cap)
    same_count phase mech words =
        one_claim (claims_block phase && nat_lt (get_or words 2 0) mech.setup.cap) (get_or words 2 0 + 1)
        ∙ ap one_if (claim_tests (claims_block phase) phase mech words refl)
        ∙ ap (λ b. one_if (b && nat_lt (seen_of (request_in form phase mech) words).before mech.setup.cap)) (claims_same phase)

    -- the move begins a call with the same setup
    begun_count : (begins : Option Op) (mech : Mech S W) (words : List ℕ) → (let one = begun begins mech in
        length (claimed_in one.phase (get_or words 2 0) mech.setup.cap) ≡ one_if (held.claims_in one.phase && nat_lt (seen_of (mech_request form one) words).before one.setup.cap))
    begun_count None mech words = same_count mech.phase mech words
    begun_count (Some op) mech words = same_count (begun (Some op) mech).phase (begun (Some op) mech) words

    moved_count : (mech : Option (Mech S W)) (move : Move) (state : RunState S W) → length (claimed_by mech move state) ≡ held.claimed_by form mech move state
    moved_count None move state = refl
    moved_count (Some mech) move state = begun_count move.begins mech state.words

    -- the claims are as many as are counted
    claims_counted : (setup : Setup) (moves : List Move) → length (claims_of form setup moves) ≡ held.blocks_claimed form setup moves
    claims_counted setup [] = refl
    claims_counted setup (move ∷ older) =
        let state = run_of form setup older in
        let new = claimed_by (slice_get state.mechs move.seat) move state in
        let long = length-append new (claims_of form setup older) in
        let here = moved_count (slice_get state.mechs move.seat) move state in
        let before = claims_counted setup older in
        omega (arith, long, here, before)

    pub claims_fit : ClaimsFit form
    claims_fit setup moves are leaves =
        let holds = claims_hold form setup moves are leaves in
        let few = falling_few setup.cap (claims_of form setup moves) (λ k d inside. (let is = holds.claimed k d inside in (is.some, is.within))) holds.apart in
        let count = claims_counted setup moves in
        omega (arith, few, count)

    pub queue_kept : QueueKept form
    queue_kept setup moves are leaves queue = claims_keep_queue form setup moves are queue (claims_fit setup moves are leaves)
