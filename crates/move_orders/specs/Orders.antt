-- The commands that moves begin, and the run over them.
use Rattle.std.specs.Prelude.{◌≡◌, ℕ, ◌==◌, if◌then◌else◌, List, [], ◌∷◌, ◌++◌, map}
use Rattle.std.specs.List.{range_with_len}
use Rattle.std.specs.Option.{option_to_list}
use Rattle.lin_report.specs.declared.calls.Op.{Op}
use Rattle.normal_traits.specs.NormalForm.{NormalForm}
use Rattle.fast_slow_engine.specs.declared.setup.Setup.{Setup}
use Rattle.fast_slow_engine.specs.Runs.{Move, AreMoves, moves_over}
use Rattle.run_laws.specs.Files.{FilesFit}

-- the seats of moves, in the order in which `moves_over` takes them: the newest first
abbrev pub seats_of : List Move → List ℕ
seats_of moves = map (λ (move : Move). move.seat) moves

-- the commands that moves begin at a seat, the oldest first
abbrev pub begun_at : List Move → ℕ → List Op
begun_at [] seat = []
begun_at (move ∷ older) seat = begun_at older seat ++ (if move.seat == seat then option_to_list move.begins else [])

-- the same for each seat, as command files
abbrev pub begun_files : Setup → List Move → List (List Op)
begun_files setup moves = map (begun_at moves) (range_with_len 0 setup.seats)

-- the moves are the run over these files in the order of their seats
pub record AreOver {S W : Type 0} (form : NormalForm S W) (setup : Setup) (files : List (List Op)) (moves : List Move) : Type 0 where
  pub fit : FilesFit form.object setup files
  pub same : moves_over form setup files (seats_of moves) ≡ moves

-- moves that can follow each other are the run over what they begin
abbrev pub MovesOverFiles : {S W : Type 0} → NormalForm S W → Type 0
MovesOverFiles form = (setup : Setup) (moves : List Move) → AreMoves form setup moves → AreOver form setup (begun_files setup moves) moves
