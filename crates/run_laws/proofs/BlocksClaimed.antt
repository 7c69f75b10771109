-- The blocks that a run claims.
use Rattle.std.proofs.Common.{rules, arith, ◌≡◌, ◌≢◌, ◌∙◌, refl, sym, subst, ap, ℕ, ◌+◌, ◌<◌, ◌≤◌, ◌^◌, Bool, true, false, if◌then◌else◌, ◌⊎◌, inl, inr, List, [], ◌∷◌, ◌++◌, length, length-set, get_or, slice_get, slice_set, Option, Some, None, All, AllPairs, Contains}
use Rattle.std.specs.Prelude.{sum_by}
use Rattle.std.proofs.lemmas.Bool.{cases_eq}
use Rattle.std.proofs.lemmas.List.Elements.{All-append, All-cons, All-nil, All-weaker, Contains-append_left, Contains-append_right}
use Rattle.std.proofs.lemmas.List.Sums.{sum_by-le}
use Rattle.std.proofs.lemmas.Option.{slice_get_within}
use Rattle.lin_report.specs.declared.calls.Op.{Op}
use Rattle.step_memory.specs.Step.{seen_of, words_after}
use Rattle.step_memory.proofs.Words.{length-words_after}
use Rattle.node_arena.proofs.Openings.{opens_zero_at}
use Rattle.node_arena.proofs.ZerosOpen.{length-opening_words, opening_each}
use Rattle.normal_traits.specs.NormalForm.{NormalForm}
use Rattle.fast_slow_engine.specs.declared.phases.Phase.{Phase}
use Rattle.fast_slow_engine.specs.declared.phases.Phase.TheVariants.{Idle, Begin, Look, Generate, Apply, Wrap, Announce, Enter, Drive, Help, Collect, Value, End}
use Rattle.fast_slow_engine.specs.declared.setup.Setup.{Setup}
use Rattle.fast_slow_engine.specs.Mechs.{Mech}
use Rattle.fast_slow_engine.specs.PhaseTable.{mech_fed, mech_request, rests}
use Rattle.fast_slow_engine.specs.Runs.{Move, RunState, CanMove, IsMove, AreMoves, begun, run_of, run_step}
use Rattle.run_laws.specs.Seats.{EachMech, IsSeated}
use Rattle.run_laws.specs.Claims.{ClaimsHold, ClaimsRise, IsClaimed, KeepsClaims, MoveKeepsClaims, claimed_by, claimed_in, claims_block, claims_of}
use Rattle.run_laws.proofs.Pairs.{pairs_append, pairs_nil, pairs_one}
use Rattle.run_laws.proofs.Steps.{at_set, beside_set, move_steps, some_same}
use Rattle.run_laws.proofs.MachinesKept.{new_mech, seats_stay}
use Rattle.run_laws.proofs.TicksCounted.{each_all, set_sum}
use Rattle.run_laws.proofs.ClaimKinds.{ClaimKind, claims, finds_none, keeps, at_claim, claim_kind}
use Rattle.run_laws.proofs.Summaries.{each_moved}

contained : {X : Type 0} (P : X → Type 0) (xs : List X) (x : X) → All P xs → Contains xs x → P x
contained P xs x each has = subst P has.2 (each has.0 x has.1)

module _ {S W : Type 0} where
  -- the claim counter
  abbrev counter_of : RunState S W → ℕ
  counter_of state = get_or state.words 2 0

  -- how many claims a machine is about to make
  abbrev claiming : Mech S W → ℕ
  claiming mech = at_claim mech.phase

  rests_claims : (phase : Phase S W) → rests phase ≡ true → at_claim phase ≡ 0
  rests_claims Idle free = refl
  rests_claims Begin free = absurd (search rules)
  rests_claims Look free = absurd (search rules)
  rests_claims (Generate s at) free = absurd (search rules)
  rests_claims (Apply run stores at) free = absurd (search rules)
  rests_claims (Wrap w) free = absurd (search rules)
  rests_claims (Announce at) free = absurd (search rules)
  rests_claims (Enter owner) free = absurd (search rules)
  rests_claims Drive free = absurd (search rules)
  rests_claims (Help drives help) free = absurd (search rules)
  rests_claims Collect free = absurd (search rules)
  rests_claims (Value reference) free = absurd (search rules)
  rests_claims (End reply) free = absurd (search rules)

  -- a call that begins keeps the block in hand
  record BeginsAs (mech old : Mech S W) : Type 0 where
    pub runs : rests mech.phase ≡ false
    pub claiming_as : claiming mech ≡ claiming old
    pub hand : mech.hand ≡ old.hand
    pub cap : mech.setup.cap ≡ old.setup.cap

  begins_as : (form : NormalForm S W) (begins : Option Op) (mech : Mech S W) → CanMove form begins mech → BeginsAs (begun begins mech) mech
  begins_as form None mech can = record { runs = can; claiming_as = refl; hand = refl; cap = refl }
  begins_as form (Some op) mech can = record { runs = refl; claiming_as = sym (rests_claims mech.phase can.0); hand = refl; cap = refl }

  -- a move from a state to another, and the blocks that it claims
  record ClaimSummary (setup : Setup) (state after : RunState S W) (blocks : List ℕ) : Type 0 where
    pub seat : ℕ
    pub old : Mech S W
    pub mech : Mech S W
    pub new : Mech S W
    pub at : slice_get state.mechs seat ≡ Some old
    pub begun_as : BeginsAs mech old
    pub cap : mech.setup.cap ≡ setup.cap
    pub kind : ClaimKind mech.phase mech new blocks (counter_of state) (counter_of after)
    pub mechs : after.mechs ≡ slice_set state.mechs seat new
    pub words : length after.words ≡ length state.words

  record ClaimsKept (setup : Setup) (state : RunState S W) (blocks : List ℕ) : Type 0 where
    pub inside : 2 < length state.words
    pub count : length state.mechs ≡ setup.seats
    pub counter : counter_of state + sum_by claiming state.mechs < setup.cap + setup.seats
    pub claimed : All (IsClaimed setup (counter_of state)) blocks
    pub apart : AllPairs (λ later earlier. earlier < later) blocks
    pub in_hand : EachMech (λ seat mech. (block : ℕ) → mech.hand ≡ Some block → Contains blocks block) state.mechs
    pub alone : EachMech (λ seat mech. EachMech (λ other mate. (block : ℕ) → mech.hand ≡ Some block → mate.hand ≡ Some block → seat ≡ other) state.mechs) state.mechs

  -- what a step adds to the claims
  record AddsBlocks (setup : Setup) (older : List ℕ) (mech new : Mech S W) (blocks : List ℕ) (before after : ℕ) : Type 0 where
    pub rises : before ≤ after
    pub claimed : All (IsClaimed setup after) blocks
    pub pairs : AllPairs (λ later earlier. earlier < later) blocks
    pub cross : All (λ later. All (λ earlier. earlier < later) older) blocks
    pub in_hand : (block : ℕ) → new.hand ≡ Some block → Contains (blocks ++ older) block
    pub own : (block : ℕ) → new.hand ≡ Some block → (mech.hand ≡ Some block) ⊎ (before < block)

  no_blocks : (setup : Setup) (older : List ℕ) (mech new : Mech S W) (blocks : List ℕ) (before after : ℕ) → before ≤ after → blocks ≡ [] → (new.hand ≡ mech.hand) ⊎ (new.hand ≡ None)
      → ((block : ℕ) → mech.hand ≡ Some block → Contains older block) → AddsBlocks setup older mech new blocks before after
  no_blocks setup older mech new blocks before after rises none hand in_hand =
      let same : (block : ℕ) → new.hand ≡ Some block → mech.hand ≡ Some block = λ block is. elim hand [ inl kept ↦ sym kept ∙ is | inr gone ↦ (let both : None ≡ Some block = sym gone ∙ is in absurd (cc)) ] in
      subst (λ l. AddsBlocks setup older mech new l before after) (sym none) (record {
        rises = rises;
        claimed = All-nil (IsClaimed setup after);
        pairs = pairs_nil (λ later earlier. earlier < later);
        cross = All-nil (λ later. All (λ earlier. earlier < later) older);
        in_hand = λ block is. in_hand block (same block is);
        own = λ block is. inl (same block is);
      })

  one_block : (setup : Setup) (older : List ℕ) (mech new : Mech S W) (blocks : List ℕ) (before after : ℕ) → after ≡ before + 1 → blocks ≡ (before + 1) ∷ [] → before < setup.cap → new.hand ≡ Some (before + 1)
      → All (IsClaimed setup before) older → AddsBlocks setup older mech new blocks before after
  one_block setup older mech new blocks before after word line less hand claimed =
      let is : (block : ℕ) → new.hand ≡ Some block → before + 1 ≡ block = λ block e. some_same (before + 1) block (sym hand ∙ e) in
      let this : IsClaimed setup after (before + 1) = record { some = omega arith; within = omega (arith, less); below = omega (arith, word) } in
      subst (λ l. AddsBlocks setup older mech new l before after) (sym line) (record {
        rises = omega (arith, word);
        claimed = All-cons (IsClaimed setup after) (before + 1) [] this (All-nil (IsClaimed setup after));
        pairs = pairs_one (λ later earlier. earlier < later) (before + 1);
        cross = All-cons (λ later. All (λ earlier. earlier < later) older) (before + 1) []
            (All-weaker (IsClaimed setup before) (λ earlier. earlier < before + 1) (λ block c. omega (arith, c.below)) older claimed) (All-nil (λ later. All (λ earlier. earlier < later) older));
        in_hand = λ block e. Contains-append_left ((before + 1) ∷ []) older block (0, omega arith, is block e);
        own = λ block e. inr (omega (arith, is block e));
      })

  adds_blocks : (setup : Setup) (older : List ℕ) (mech new : Mech S W) (blocks : List ℕ) (before after : ℕ) → mech.setup.cap ≡ setup.cap → All (IsClaimed setup before) older
      → ((block : ℕ) → mech.hand ≡ Some block → Contains older block) → ClaimKind mech.phase mech new blocks before after → AddsBlocks setup older mech new blocks before after
  adds_blocks setup older mech new blocks before after cap claimed in_hand kind =
      elim kind [
        | claims at not less hand line word ↦ one_block setup older mech new blocks before after word line (omega (arith, less, cap)) hand claimed
        | finds_none at not more hand line word ↦ no_blocks setup older mech new blocks before after (omega (arith, word)) line (inl hand) in_hand
        | keeps at few less hand line word ↦ no_blocks setup older mech new blocks before after (omega (arith, word)) line hand in_hand
      ]

  -- the counter and the claims that are about to be made
  counts_claims : (phase : Phase S W) (mech new : Mech S W) (blocks : List ℕ) (before after cap seats sum sum' : ℕ) → mech.setup.cap ≡ cap → before + sum < cap + seats → sum' ≤ seats → sum' + at_claim phase ≡ sum + claiming new
      → ClaimKind phase mech new blocks before after → after + sum' < cap + seats
  counts_claims phase mech new blocks before after cap seats sum sum' same most few sums kind =
      elim kind [
        | claims at not less hand line word ↦ omega (arith, at, not, word, sums, most)
        | finds_none at not more hand line word ↦ omega (arith, at, not, word, sums, most)
        | keeps at one less hand line word ↦
            elim (cases_eq (claiming new) 1) [
              | inl claims_next ↦ omega (arith, less claims_next, same, few, word)
              | inr other ↦ omega (arith, at, one, other, word, sums, most)
            ]
      ]

  claiming_small : (mech : Mech S W) (b : Bool) → (if b then 1 else 0) ≤ 1
  claiming_small mech true = omega arith
  claiming_small mech false = omega arith

  -- a machine after a move is the new one, or one of another seat that stayed
  found_after : (mechs after : List (Mech S W)) (i : ℕ) (old new : Mech S W) → slice_get mechs i ≡ Some old → after ≡ slice_set mechs i new → (seat : ℕ) (mech : Mech S W) → slice_get after seat ≡ Some mech
      → ((seat ≡ i) × (new ≡ mech)) ⊎ ((seat ≢ i) × (slice_get mechs seat ≡ Some mech))
  found_after mechs after i old new at is seat mech found =
      let found : slice_get (slice_set mechs i new) seat ≡ Some mech = subst (λ l. slice_get l seat ≡ Some mech) is found in
      elim (cases_eq seat i) [
        | inl same ↦ inl (same, some_same new mech (sym (at_set mechs i new (slice_get_within mechs i old at)) ∙ subst (λ k. slice_get (slice_set mechs i new) k ≡ Some mech) same found))
        | inr apart ↦ inr (apart, sym (beside_set mechs i seat new apart) ∙ found)
      ]

  kept_more : (setup : Setup) (state after : RunState S W) (blocks older : List ℕ) → ClaimSummary setup state after blocks → ClaimsKept setup state older → ClaimsKept setup after (blocks ++ older)
  kept_more setup state after blocks older h on =
      let in_old = on.in_hand h.seat h.old h.at in
      let step = adds_blocks setup older h.mech h.new blocks (counter_of state) (counter_of after) h.cap on.claimed (λ block e. in_old block (sym h.begun_as.hand ∙ e)) h.kind in
      let sums : sum_by claiming (slice_set state.mechs h.seat h.new) + claiming h.old ≡ sum_by claiming state.mechs + claiming h.new = set_sum claiming state.mechs h.seat h.old h.new h.at in
      let long : length after.mechs ≡ setup.seats = ap length h.mechs ∙ length-set state.mechs h.seat h.new ∙ on.count in
      let few = sum_by-le claiming 1 after.mechs (each_all (λ mech. claiming mech ≤ 1) after.mechs (λ seat mech found. claiming_small mech (claims_block mech.phase))) in
      let sum_is : sum_by claiming after.mechs ≡ sum_by claiming (slice_set state.mechs h.seat h.new) = ap (sum_by claiming) h.mechs in
      let split = found_after state.mechs after.mechs h.seat h.old h.new h.at h.mechs in
      let past = λ (seat : ℕ) (mech : Mech S W) (found : slice_get state.mechs seat ≡ Some mech) (block : ℕ) (e : mech.hand ≡ Some block). (contained (IsClaimed setup (counter_of state)) older block on.claimed (on.in_hand seat mech found block e)).below in
      let mine : (other : ℕ) (mate : Mech S W) → slice_get state.mechs other ≡ Some mate → (block : ℕ) → h.new.hand ≡ Some block → mate.hand ≡ Some block → h.seat ≡ other = λ other mate at block e e'.
      elim (step.own block e) [
        | inl kept ↦ on.alone h.seat h.old h.at other mate at block (sym h.begun_as.hand ∙ kept) e'
        | inr new ↦ absurd (omega (arith, new, past other mate at block e'))
      ] in
      record {
        inside = omega (arith, h.words, on.inside);
        count = long;
        counter = counts_claims h.mech.phase h.mech h.new blocks (counter_of state) (counter_of after) setup.cap setup.seats (sum_by claiming state.mechs) (sum_by claiming after.mechs) h.cap on.counter (omega (arith, few, long)) (omega (arith, sums, sum_is, h.begun_as.claiming_as)) h.kind;
        claimed = All-append (IsClaimed setup (counter_of after)) blocks older step.claimed
            (All-weaker (IsClaimed setup (counter_of state)) (IsClaimed setup (counter_of after)) (λ block c. record { some = c.some; within = c.within; below = omega (arith, c.below, step.rises) }) older on.claimed);
        apart = pairs_append (λ later earlier. earlier < later) blocks older step.pairs on.apart step.cross;
        in_hand = each_moved (λ seat mech. (block : ℕ) → mech.hand ≡ Some block → Contains older block) (λ seat mech. (block : ℕ) → mech.hand ≡ Some block → Contains (blocks ++ older) block)
            state.mechs after.mechs h.seat h.old h.new h.at h.mechs on.in_hand (λ seat mech apart e block is. Contains-append_right blocks older block (e block is)) step.in_hand;
        alone = λ seat mech found other mate mate_found block e e'.
            elim (split seat mech found) [
              | inl this ↦ elim (split other mate mate_found) [
                | inl that ↦ this.0 ∙ sym that.0
                | inr that ↦ this.0 ∙ mine other mate that.1 block (ap (λ (m : Mech S W). m.hand) this.1 ∙ e) e'
              ]
              | inr this ↦ elim (split other mate mate_found) [
                | inl that ↦ sym (that.0 ∙ mine seat mech this.1 block (ap (λ (m : Mech S W). m.hand) that.1 ∙ e') e)
                | inr that ↦ on.alone seat mech this.1 other mate that.1 block e e'
              ]
            ];
      }

  module _ (form : NormalForm S W) where
    claim_room : (setup : Setup) (state : RunState S W) (blocks : List ℕ) → ClaimsKept setup state blocks → counter_of state + 1 < 2 ^ 64
    claim_room setup state blocks on = omega (arith, on.counter, setup.few_blocks, setup.few_seats)

    claims_moved : (setup : Setup) (state : RunState S W) (move : Move) (older : List ℕ) → ClaimsKept setup state older → IsSeated setup state → (is : IsMove form state move) → MoveKeepsClaims form state move
        → ClaimSummary setup state (run_step form state move) (claimed_by (slice_get state.mechs move.seat) move state)
    claims_moved setup state move older on seated is leaves =
        let mech = begun move.begins is.mech in
        let starts = begins_as form move.begins is.mech is.can in
        let own = seated.own move.seat is.mech is.seated in
        let kind = claim_kind form mech.phase mech state.words starts.runs (leaves is.mech is.seated) on.inside (claim_room setup state older on) in
        let blocks : claimed_by (slice_get state.mechs move.seat) move state ≡ claimed_in mech.phase (counter_of state) is.mech.setup.cap = ap (λ o. claimed_by o move state) is.seated in
        subst (λ l. ClaimSummary setup state (run_step form state move) l) (sym blocks)
        (subst (λ (s : RunState S W). ClaimSummary setup state s (claimed_in mech.phase (counter_of state) is.mech.setup.cap)) (sym (move_steps form state move is.mech is.seated)) (record {
          seat = move.seat;
          old = is.mech;
          mech = mech;
          new = mech_fed form mech (seen_of (mech_request form mech) state.words);
          at = is.seated;
          begun_as = starts;
          cap = starts.cap ∙ ap (λ (s : Setup). s.cap) own.setup;
          kind = subst (λ cap. ClaimKind mech.phase mech (mech_fed form mech (seen_of (mech_request form mech) state.words)) (claimed_in mech.phase (counter_of state) cap) (counter_of state) (get_or (words_after (mech_request form mech) state.words) 2 0)) starts.cap kind;
          mechs = refl;
          words = length-words_after (mech_request form mech) state.words;
        }))

    kept_open : (setup : Setup) → ClaimsKept setup (run_of form setup []) []
    kept_open setup =
        let state = run_of form setup [] in
        let none : counter_of state ≡ 0 = opening_each form.opening setup.cap 2 (omega arith) ∙ opens_zero_at form.opening form.opens 2 (inl (omega arith)) in
        let empty = λ (seat : ℕ) (mech : Mech S W) (at : slice_get state.mechs seat ≡ Some mech). ap (λ (m : Mech S W). m.hand) (new_mech form setup seat mech at) in
        let few = sum_by-le claiming 0 state.mechs (each_all (λ mech. claiming mech ≤ 0) state.mechs (λ seat mech at. subst (λ (m : Mech S W). claiming m ≤ 0) (sym (new_mech form setup seat mech at)) (omega arith))) in
        record {
          inside = omega (arith, length-opening_words form.opening setup.cap);
          count = (seats_stay form setup [] tt).count;
          counter = omega (arith, none, few, setup.some_block);
          claimed = All-nil (IsClaimed setup (counter_of state));
          apart = pairs_nil (λ later earlier. earlier < later);
          in_hand = λ seat mech at block e. (let both : None ≡ Some block = sym (empty seat mech at) ∙ e in absurd (cc));
          alone = λ seat mech at other mate at' block e e'. (let both : None ≡ Some block = sym (empty seat mech at) ∙ e in absurd (cc));
        }

    claims_kept : (setup : Setup) (moves : List Move) → AreMoves form setup moves → KeepsClaims form setup moves → ClaimsKept setup (run_of form setup moves) (claims_of form setup moves)
    claims_kept setup [] are leaves = kept_open setup
    claims_kept setup (move ∷ older) are leaves =
        let state = run_of form setup older in
        let on = claims_kept setup older are.0 leaves.0 in
        kept_more setup state (run_of form setup (move ∷ older)) (claimed_by (slice_get state.mechs move.seat) move state) (claims_of form setup older)
        (claims_moved setup state move (claims_of form setup older) on (seats_stay form setup older are.0) are.1 leaves.1) on

    pub claims_hold : ClaimsHold form
    claims_hold setup moves are leaves =
        let on = claims_kept setup moves are leaves in
        record { counter = omega (arith, on.counter); claimed = on.claimed; apart = on.apart; in_hand = on.in_hand; alone = on.alone }

    rises_by : (mech new : Mech S W) (blocks : List ℕ) (before after : ℕ) → ClaimKind mech.phase mech new blocks before after → before ≤ after
    rises_by mech new blocks before after kind =
        elim kind [
          | claims at not less hand line word ↦ omega (arith, word)
          | finds_none at not more hand line word ↦ omega (arith, word)
          | keeps at few less hand line word ↦ omega (arith, word)
        ]

    pub claims_rise : ClaimsRise form
    claims_rise setup older move are leaves =
        let state = run_of form setup older in
        let h = claims_moved setup state move (claims_of form setup older) (claims_kept setup older are.0 leaves.0) (seats_stay form setup older are.0) are.1 leaves.1 in
        rises_by h.mech h.new _ _ _ h.kind
