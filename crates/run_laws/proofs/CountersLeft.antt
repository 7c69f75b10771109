-- The engine's own requests leave the two counters, but for the ticks and the claims.
use Rattle.std.proofs.Common.{rules, arith, ◌≡◌, ◌≢◌, refl, ℕ, ◌+◌, ◌*◌, ◌<◌, nat_lt, Bool, true, false, if◌then◌else◌, List, [], ◌∷◌, slice_get, Option, Some, None, inl, inr}
use Rattle.std.proofs.lemmas.Bool.{cases_Bool, cases_lt, lt-ltb}
use Rattle.step_memory.specs.declared.steps.Request.TheVariants.{Load, Exchange, Add}
use Rattle.node_arena.specs.MemoryMap.{op_place, value_place, record_place}
use Rattle.node_arena.proofs.PlacesApart.{block_place_behind}
use Rattle.normal_traits.specs.declared.lists.Entry.{Entry}
use Rattle.normal_traits.specs.NormalForm.{NormalForm}
use Rattle.cas_executor.specs.declared.slow_run.SlowStep.{SlowStep}
use Rattle.cas_executor.specs.declared.slow_run.SlowStep.TheVariants as slow
use Rattle.cas_executor.specs.SlowRuns.{SlowWalk, request_at, step_request}
use Rattle.help_queue.specs.declared.enter.EnterStage.{EnterStage}
use Rattle.help_queue.specs.declared.enter.EnterStage.TheVariants as entering
use Rattle.help_queue.specs.declared.remove.RemoveStage.{RemoveStage}
use Rattle.help_queue.specs.declared.remove.RemoveStage.TheVariants as removing
use Rattle.help_queue.specs.Enters.{enter_request_in}
use Rattle.help_queue.specs.Removes.{remove_request_in}
use Rattle.fast_slow_engine.specs.declared.phases.Phase.{Phase}
use Rattle.fast_slow_engine.specs.declared.phases.Phase.TheVariants.{Idle, Begin, Look, Generate, Apply, Wrap, Announce, Enter, Drive, Help, Collect, Value, End}
use Rattle.fast_slow_engine.specs.declared.phases.Generating.TheVariants.{Search, LookForBlock, Claim}
use Rattle.fast_slow_engine.specs.declared.phases.Applying.TheVariants.{Fill, Execute}
use Rattle.fast_slow_engine.specs.declared.phases.Announcing.{Announcing}
use Rattle.fast_slow_engine.specs.declared.phases.Announcing.TheVariants as announcing
use Rattle.fast_slow_engine.specs.declared.help.Helping.{Helping}
use Rattle.fast_slow_engine.specs.declared.help.Helping.TheVariants as helping
use Rattle.fast_slow_engine.specs.declared.help.Work.{Work}
use Rattle.fast_slow_engine.specs.declared.help.Work.TheVariants as work
use Rattle.fast_slow_engine.specs.HelpTable.{helping_request, work_request}
use Rattle.fast_slow_engine.specs.Mechs.{Mech}
use Rattle.fast_slow_engine.specs.PhaseTable.{announce_request, request_in}
use Rattle.fast_slow_engine.specs.Runs.{begun, run_of}
use Rattle.run_laws.specs.Ticks.{LeavesWord, draws_tick}
use Rattle.run_laws.specs.Claims.{claims_block, helping_claims, work_claims}
use Rattle.run_laws.specs.Premises.{ClientKeepsClaims, ClientKeepsTicks, at_target, entries_noted, helps_for_client, is_clients, works_for_client}
use Rattle.run_laws.proofs.StorePlaces.{behind_leaves}
pub use Rattle.run_laws.proofs.StorePlaces.{leaves_elsewhere, leaves_load}
use Rattle.run_laws.proofs.EngineStores.{HelpStores, PhaseStores, WorkStores, begun_stores, stores_run}

-- one of the two counters
abbrev IsCounter : ℕ → Type 0
IsCounter place = (place < 3) × (place ≢ 1)

-- a store that is not past the last of the engine's is one of the engine's
no_more : (last made : ℕ) → nat_lt last made ≡ false → made < last + 1
no_more last made own = elim (cases_lt last made) [ inl past ↦ (let is : nat_lt last made ≡ true = lt-ltb last made past in absurd (cc)) | inr within ↦ omega arith ]

announce_leaves : {S W : Type 0} (place : ℕ) (at : Announcing) (mech : Mech S W) (words : List ℕ) → IsCounter place → LeavesWord place (announce_request at mech) words
announce_leaves place announcing.Value mech words is = leaves_elsewhere place _ words (λ e. omega (arith, e, is.0))
announce_leaves place announcing.Op mech words is = leaves_elsewhere place _ words (λ e. omega (arith, e, is.0))
announce_leaves place announcing.Record mech words is = leaves_elsewhere place _ words (λ e. omega (arith, e, is.0))

gather_leaves : (place : ℕ) (b : Bool) (word to at : ℕ) (words : List ℕ) → IsCounter place → LeavesWord place (if b then Exchange 1 word to else Load at) words
gather_leaves place true word to at words is = leaves_elsewhere place (Exchange 1 word to) words is.1
gather_leaves place false word to at words is = leaves_load place at words

enter_leaves : (place : ℕ) (stage : EnterStage) (words : List ℕ) → IsCounter place → LeavesWord place (enter_request_in stage) words
enter_leaves place entering.Look words is = leaves_load place 1 words
enter_leaves place (entering.Gathers g) words is = gather_leaves place _ _ _ _ words is

remove_leaves : (place : ℕ) (stage : RemoveStage) (seat : ℕ) (words : List ℕ) → IsCounter place → LeavesWord place (remove_request_in stage seat) words
remove_leaves place removing.Look seat words is = leaves_load place 1 words
remove_leaves place (removing.Check word) seat words is = leaves_load place (record_place seat) words
remove_leaves place (removing.Gathers g) seat words is = gather_leaves place _ _ _ _ words is

-- of the exchanges of a list that others execute, those at states
step_leaves : (place block j : ℕ) (entry : Entry) (step : SlowStep) (words : List ℕ) → IsCounter place → at_target step ≡ false → LeavesWord place (step_request block j entry step) words
step_leaves place block j entry slow.LoadState words is own = leaves_load place _ words
step_leaves place block j entry slow.Install words is own = absurd (search rules)
step_leaves place block j entry slow.LoadTarget words is own = leaves_load place _ words
step_leaves place block j entry slow.Succeed words is own = leaves_elsewhere place _ words (λ e. omega (arith, e, is.0, block_place_behind block (9 + j)))
step_leaves place block j entry slow.Fail words is own = leaves_elsewhere place _ words (λ e. omega (arith, e, is.0, block_place_behind block (9 + j)))
step_leaves place block j entry slow.LoadDecision words is own = leaves_load place _ words
step_leaves place block j entry slow.Clear words is own = absurd (search rules)

walk_leaves : (place : ℕ) (walk : SlowWalk) (entry : Option Entry) (words : List ℕ) → IsCounter place → at_target walk.step ≡ false → LeavesWord place (request_at walk entry) words
walk_leaves place walk None words is own = leaves_load place 0 words
walk_leaves place walk (Some entry) words is own = step_leaves place walk.block walk.next entry walk.step words is own

module _ {S W : Type 0} (form : NormalForm S W) where
  -- the requests of a helper that are not the client's, and claim nothing or are of the other counter
  work_leaves : (place : ℕ) (does : Work S W) (head word : ℕ) (words : List ℕ) → IsCounter place → WorkStores does → (work_claims does ≡ true → place ≢ 2) → works_for_client does ≡ false → LeavesWord place (work_request form does head word) words
  work_leaves place work.Head head word words is stores other own = leaves_load place 1 words
  work_leaves place work.Op head word words is stores other own = leaves_load place (op_place head) words
  work_leaves place (work.Value op) head word words is stores other own = leaves_load place (value_place head) words
  work_leaves place (work.Generate op s Search) head word words is stores other own = absurd (search rules)
  work_leaves place (work.Generate op s LookForBlock) head word words is stores other own = leaves_load place 2 words
  work_leaves place (work.Generate op s Claim) head word words is stores other own = leaves_elsewhere place (Add 2 1) words (other refl)
  work_leaves place (work.Fill offered made) head word words is stores other own =
      let notes = entries_noted (slice_get offered.items 3) in
      behind_leaves (4 + 3 * notes) offered.items made place words stores (let within = no_more (3 + 3 * notes) made own in omega (arith, within)) (omega (arith, is.0))
  work_leaves place (work.Advance to) head word words is stores other own = leaves_elsewhere place _ words (λ e. omega (arith, e, is.0))
  work_leaves place (work.Read read) head word words is stores other own = leaves_load place _ words
  work_leaves place (work.Execute run) head word words is stores other own = walk_leaves place run (slice_get run.entries run.next) words is own
  work_leaves place (work.Wrap wrap) head word words is stores other own = absurd (search rules)

  helping_leaves : (place : ℕ) (at : Helping S W) (head : ℕ) (words : List ℕ) → IsCounter place → HelpStores at → (helping_claims at ≡ true → place ≢ 2) → helps_for_client at ≡ false → LeavesWord place (helping_request form at head) words
  helping_leaves place (helping.Record known) head words is stores other own = leaves_load place (record_place head) words
  helping_leaves place (helping.Known word does) head words is stores other own = work_leaves place does head word words is stores other own
  helping_leaves place (helping.Remove removal) head words is stores other own = remove_leaves place removal.stage removal.seat words is

  -- the requests that are not the client's, and draw no tick and claim nothing or are of the other counter
  own_leaves : (place : ℕ) (phase : Phase S W) (mech : Mech S W) (words : List ℕ) → IsCounter place → PhaseStores phase → (draws_tick phase ≡ true → place ≢ 0) → (claims_block phase ≡ true → place ≢ 2) → is_clients phase ≡ false
      → LeavesWord place (request_in form phase mech) words
  own_leaves place Idle mech words is stores ticks claims own = leaves_load place 0 words
  own_leaves place Begin mech words is stores ticks claims own = leaves_elsewhere place (Add 0 1) words (ticks refl)
  own_leaves place Look mech words is stores ticks claims own = leaves_load place 1 words
  own_leaves place (Generate s Search) mech words is stores ticks claims own = absurd (search rules)
  own_leaves place (Generate s LookForBlock) mech words is stores ticks claims own = leaves_load place 2 words
  own_leaves place (Generate s Claim) mech words is stores ticks claims own = leaves_elsewhere place (Add 2 1) words (claims refl)
  own_leaves place (Apply run offered (Fill made)) mech words is stores ticks claims own = behind_leaves 3 offered.items made place words stores (no_more 2 made own) (omega (arith, is.0))
  own_leaves place (Apply run offered Execute) mech words is stores ticks claims own = absurd (search rules)
  own_leaves place (Wrap w) mech words is stores ticks claims own = absurd (search rules)
  own_leaves place (Announce at) mech words is stores ticks claims own = announce_leaves place at mech words is
  own_leaves place (Enter owner) mech words is stores ticks claims own = enter_leaves place owner.stage words is
  own_leaves place Drive mech words is stores ticks claims own = leaves_load place 1 words
  own_leaves place (Help drives help) mech words is stores ticks claims own = helping_leaves place help.at help.head words is stores claims own
  own_leaves place Collect mech words is stores ticks claims own = leaves_load place (record_place mech.seat) words
  own_leaves place (Value reference) mech words is stores ticks claims own = leaves_load place _ words
  own_leaves place (End reply) mech words is stores ticks claims own = leaves_elsewhere place (Add 0 1) words (ticks refl)

  not_so : {X : Type 0} (b : Bool) → b ≡ false → b ≡ true → X
  not_so b never is = absurd (cc)

  pub client_keeps_ticks : ClientKeepsTicks form
  client_keeps_ticks setup [] leaves = tt
  client_keeps_ticks setup (move ∷ older) leaves = (
    client_keeps_ticks setup older leaves.0,
    λ mech at quiet. elim (cases_Bool (is_clients (begun move.begins mech).phase)) [
      | inl client ↦ leaves.1 mech at client
      | inr own ↦
          own_leaves 0 (begun move.begins mech).phase (begun move.begins mech) (run_of form setup older).words (omega arith, λ e. omega (arith, e)) (begun_stores form move.begins mech (stores_run form setup older move.seat mech at))
          (λ draws. not_so _ quiet draws) (λ claims e. omega (arith, e)) own
    ],
  )

  pub client_keeps_claims : ClientKeepsClaims form
  client_keeps_claims setup [] leaves = tt
  client_keeps_claims setup (move ∷ older) leaves = (
    client_keeps_claims setup older leaves.0,
    λ mech at quiet. elim (cases_Bool (is_clients (begun move.begins mech).phase)) [
      | inl client ↦ leaves.1 mech at client
      | inr own ↦
          own_leaves 2 (begun move.begins mech).phase (begun move.begins mech) (run_of form setup older).words (omega arith, λ e. omega (arith, e)) (begun_stores form move.begins mech (stores_run form setup older move.seat mech at))
          (λ draws e. omega (arith, e)) (λ claims. not_so _ quiet claims) own
    ],
  )
