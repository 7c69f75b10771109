-- The step of each phase raises the rounds of a record by at most the blocks that it names.
use Rattle.std.proofs.Common.{◌≡◌, refl, ℕ, ◌<◌, ◌≤◌, true, List, length, arith}
use Rattle.step_memory.specs.declared.steps.Request.TheVariants.{Store, Add}
use Rattle.step_memory.specs.Step.{seen_of}
use Rattle.word_fields.specs.Announced.{op_word, value_word}
use Rattle.node_arena.specs.MemoryMap.{op_place, value_place}
use Rattle.normal_traits.specs.NormalForm.{NormalForm}
use Rattle.fast_slow_engine.specs.declared.phases.Phase.{Phase}
use Rattle.fast_slow_engine.specs.declared.phases.Phase.TheVariants.{Idle, Begin, Look, Generate, Apply, Wrap, Announce, Enter, Drive, Help, Collect, Value, End}
use Rattle.fast_slow_engine.specs.declared.phases.Announcing.TheVariants as announcing
use Rattle.fast_slow_engine.specs.declared.help.Helping.{Helping}
use Rattle.fast_slow_engine.specs.declared.help.Helping.TheVariants.{Record, Known, Remove}
use Rattle.fast_slow_engine.specs.declared.help.Work.{Work}
use Rattle.fast_slow_engine.specs.declared.help.Work.TheVariants as work
use Rattle.fast_slow_engine.specs.Mechs.{Mech}
use Rattle.fast_slow_engine.specs.HelpTable.{helping_request, work_request}
use Rattle.fast_slow_engine.specs.PhaseTable.{request_in}
use Rattle.run_queue.specs.Fits.{HelpingFits, PhaseFits, WorkFits}
use Rattle.run_queue.specs.Premises.{LeavesQueue, is_for_client, helps_for_client, works_for_client}
use Rattle.run_queue.specs.Rounds.{names_in, names_helping, names_work, one_if}
use Rattle.run_queue.proofs.Moves.FastMoves as fast
use Rattle.run_queue.proofs.Moves.WorkMoves.{work_leaves}
use Rattle.run_queue.proofs.Blocks.RoundSteps.{RaisesBy, leaves_rounds, elsewhere_rounds, load_rounds, enter_rounds, remove_rounds, announce_rounds, exchange_rounds}

module _ {S W : Type 0} (form : NormalForm S W) (words : List ℕ) (long : 32 ≤ length words) (t : ℕ) (few : t < 8) where
  abbrev Raises : Phase S W → Mech S W → Type 0
  Raises phase mech = RaisesBy words (request_in form phase mech) (one_if (names_in phase (seen_of (request_in form phase mech) words))) t

  -- ---- helping

  quiet_raises : (does : Work S W) (head word : ℕ) → LeavesQueue (work_request form does head word) words → RaisesBy words (work_request form does head word) (one_if (names_work does (seen_of (work_request form does head word) words))) t
  quiet_raises does head word leaves = leaves_rounds words t few (work_request form does head word) _ leaves

  work_raises : (does : Work S W) (head word : ℕ) → WorkFits word does → (works_for_client does ≡ true → LeavesQueue (work_request form does head word) words)
      → RaisesBy words (work_request form does head word) (one_if (names_work does (seen_of (work_request form does head word) words))) t
  work_raises work.Head head word fits client = load_rounds words t few 1 _
  work_raises work.Op head word fits client = load_rounds words t few _ _
  work_raises (work.Value op) head word fits client = load_rounds words t few _ _
  work_raises (work.Generate op s step) head word fits client = quiet_raises (work.Generate op s step) head word (work_leaves form (work.Generate op s step) head word words tt client)
  work_raises (work.Fill stores made) head word fits client = quiet_raises (work.Fill stores made) head word (client refl)
  work_raises (work.Advance to) head word fits client = exchange_rounds words t few head word to fits long
  work_raises (work.Read read) head word fits client = load_rounds words t few _ _
  work_raises (work.Execute run) head word fits client = quiet_raises (work.Execute run) head word (work_leaves form (work.Execute run) head word words tt client)
  work_raises (work.Wrap wrap) head word fits client = quiet_raises (work.Wrap wrap) head word (client refl)

  help_raises : (at' : Helping S W) (head : ℕ) → HelpingFits at' → (helps_for_client at' ≡ true → LeavesQueue (helping_request form at' head) words)
      → RaisesBy words (helping_request form at' head) (one_if (names_helping at' (seen_of (helping_request form at' head) words))) t
  help_raises (Record known) head fits client = load_rounds words t few _ _
  help_raises (Known word does) head fits client = work_raises does head word fits client
  help_raises (Remove removal) head fits client = remove_rounds words t few removal.stage removal.seat _

  -- ---- all phases

  pub phase_raises : (phase : Phase S W) (mech : Mech S W) (seats : ℕ) → mech.seat < 8 → mech.number ≤ 65535 → PhaseFits seats phase → (is_for_client phase ≡ true → LeavesQueue (request_in form phase mech) words) → Raises phase mech
  phase_raises Idle mech seats inside most fits client = load_rounds words t few 0 _
  phase_raises Begin mech seats inside most fits client = elsewhere_rounds words t few (Add 0 1) _ (λ e. omega (arith, e))
  phase_raises Look mech seats inside most fits client = load_rounds words t few 1 _
  phase_raises (Generate s step) mech seats inside most fits client = leaves_rounds words t few _ _ (fast.generate_leaves form mech words s step client)
  phase_raises (Apply run stores step) mech seats inside most fits client = leaves_rounds words t few _ _ (fast.apply_leaves form mech words seats run stores step fits client)
  phase_raises (Wrap wrap) mech seats inside most fits client = leaves_rounds words t few _ _ (client refl)
  phase_raises (Announce announcing.Value) mech seats inside most fits client = elsewhere_rounds words t few (Store (value_place mech.seat) (value_word mech.number mech.op.value)) _ (λ e. omega (arith, e, few))
  phase_raises (Announce announcing.Op) mech seats inside most fits client = elsewhere_rounds words t few (Store (op_place mech.seat) (op_word mech.op.code mech.number mech.op.key)) _ (λ e. omega (arith, e, inside))
  phase_raises (Announce announcing.Record) mech seats inside most fits client = announce_rounds words t few mech.seat mech.number _ (omega (arith, most)) long
  phase_raises (Enter owner) mech seats inside most fits client = enter_rounds words t few owner.stage _
  phase_raises Drive mech seats inside most fits client = load_rounds words t few 1 _
  phase_raises (Help drives help) mech seats inside most fits client = help_raises help.at help.head fits.1 client
  phase_raises Collect mech seats inside most fits client = load_rounds words t few _ _
  phase_raises (Value reference) mech seats inside most fits client = load_rounds words t few _ _
  phase_raises (End reply) mech seats inside most fits client = elsewhere_rounds words t few (Add 0 1) _ (λ e. omega (arith, e))
