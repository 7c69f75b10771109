-- Commands that are submitted to a core, and the run of files that grow.
use Rattle.std.specs.Prelude.{◌≡◌, ℕ, Bool, true, false, List, [], ◌∷◌, ◌++◌, slice_set, Option, Some, None, IsSome, is_some}
use Rattle.lin_report.specs.declared.calls.Op.{Op}
use Rattle.lin_report.specs.Report.{file_of}
use Rattle.normal_traits.specs.NormalForm.{NormalForm}
use Rattle.fast_slow_engine.specs.declared.setup.Setup.{Setup}
use Rattle.fast_slow_engine.specs.Runs.{moves_over, next_move, run_of}
use Rattle.event_core.specs.declared.cores.CoreTurn.{CoreTurn}
use Rattle.event_core.specs.declared.cores.CoreTurn.TheVariants.{Idle, Going, Returned}
use Rattle.event_core.specs.Cores.{CoreView, core_new, core_stepped}

-- the files with a command put last in that of a seat
abbrev pub grown : ℕ → Op → List (List Op) → List (List Op)
grown seat op files = slice_set files seat (file_of files seat ++ op ∷ [])

-- a core with a command put last in the file of a seat: its run is what it was
abbrev pub submitted : {S W : Type 0} → ℕ → Op → CoreView S W → CoreView S W
submitted seat op view = record { setup = view.setup; files = grown seat op view.files; state = view.state }

-- whether a step of a seat would be a move of the run
abbrev pub has_move : {S W : Type 0} → ℕ → CoreView S W → Bool
has_move seat view = is_some (next_move view.files seat view.state)

-- whether a step found no call of its seat and no command left
abbrev pub is_idle : CoreTurn → Bool
is_idle Idle = true
is_idle Going = false
is_idle Returned = false

-- a deed on a core: a command submitted to a seat, or a step of the seat
pub record Deed : Type 0 where
  pub seat : ℕ
  pub submits : Option Op

module _ {S W : Type 0} (form : NormalForm S W) where
  -- each step of an order, the newest first, is a move of the run of these files when it comes. A step without a move
  -- would get one where the file grew later, so a run over files that grow is told by an order without such steps
  abbrev pub AreSteps : Setup → List (List Op) → List ℕ → Type 0
  AreSteps setup files [] = Unit {0}
  AreSteps setup files (seat ∷ older) = AreSteps setup files older × IsSome (next_move files seat (run_of form setup (moves_over form setup files older)))

  -- a core holds the run of its files, as they have grown, in this order
  pub record HoldsRun (view : CoreView S W) (order : List ℕ) : Type 0 where
    pub steps : AreSteps view.setup view.files order
    pub state : view.state ≡ run_of form view.setup (moves_over form view.setup view.files order)

  -- a core after a deed, and after deeds, the newest first
  abbrev pub after_deed : Option Op → ℕ → CoreView S W → CoreView S W
  after_deed None seat view = core_stepped form seat view
  after_deed (Some op) seat view = submitted seat op view

  abbrev pub after_deeds : List Deed → CoreView S W → CoreView S W
  after_deeds [] view = view
  after_deeds (deed ∷ older) view = after_deed deed.submits deed.seat (after_deeds older view)

  -- a new core holds the run in which no step was made
  abbrev pub NewHoldsRun : Type 0
  NewHoldsRun = (setup : Setup) (files : List (List Op)) → HoldsRun (core_new form setup files) []

  -- a step that is a move comes to the order, and one that isn't changes nothing
  abbrev pub StepHoldsRun : Type 0
  StepHoldsRun = (view : CoreView S W) (order : List ℕ) (seat : ℕ) → HoldsRun view order → has_move seat view ≡ true → HoldsRun (core_stepped form seat view) (seat ∷ order)

  abbrev pub IdleStepKeeps : Type 0
  IdleStepKeeps = (view : CoreView S W) (seat : ℕ) → has_move seat view ≡ false → core_stepped form seat view ≡ view

  -- a command that is submitted changes no step made so far
  abbrev pub SubmitHoldsRun : Type 0
  SubmitHoldsRun = (view : CoreView S W) (order : List ℕ) (seat : ℕ) (op : Op) → HoldsRun view order → HoldsRun (submitted seat op view) order

  -- after any mix of commands submitted and steps a core that was new is the run of its files, as they have grown, in
  -- some order of the seats
  abbrev pub DeedsHoldRun : Type 0
  DeedsHoldRun = (setup : Setup) (files : List (List Op)) (deeds : List Deed) → (order : List ℕ) × HoldsRun (after_deeds deeds (core_new form setup files)) order
