-- The words of the command line that a top call serves.
use Rattle.std.specs.Prelude.{ℕ, Bool, false, nat_lt, nat_le, ◌&&◌, if◌then◌else◌, List, [], ◌∷◌, length, Option, Some, None, codes}
use Rattle.std.specs.Str.{bytes_eq}
use Rattle.lin_report.specs.declared.calls.Client.{Client}
use Rattle.command_line.specs.Words.{client_named, number_in}
use Rattle.client_reports.specs.declared.loading.Load.{Load}

-- what the words of a replay say, or of a run with threads, which has no schedule
pub record Replay : Type 0 where
  pub client : Client
  pub cap : ℕ
  pub limit : ℕ
  -- the names of the files: the schedule, where there is one, and a command file for each seat
  pub schedule : Option (List ℕ)
  pub files : List (List ℕ)

-- a client, with its blocks and its contention limit in range
abbrev pub replay_of : Option Client → Option ℕ → Option ℕ → Option (List ℕ) → List (List ℕ) → Option Replay
replay_of (Some structure) (Some cap) (Some limit) schedule files = Some (record { client = structure; cap = cap; limit = limit; schedule = schedule; files = files })
replay_of (Some structure) (Some cap) None schedule files = None
replay_of (Some structure) None limit schedule files = None
replay_of None cap limit schedule files = None

-- `replay CLIENT CAP LIMIT SCHEDULE` and one to eight FILE words, with 1 to 65,536 blocks and a limit from 0
-- to 255; other words are no replay
abbrev pub replay_words : List (List ℕ) → Option Replay
replay_words (command ∷ client ∷ cap ∷ limit ∷ schedule ∷ files) =
    if bytes_eq command (codes "replay") && nat_lt 0 (length files) && nat_le (length files) 8
    then replay_of (client_named client) (number_in 1 65536 cap) (number_in 0 255 limit) (Some schedule) files
    else None
replay_words _ = None

-- `run CLIENT CAP LIMIT` and one to eight FILE words, with the same bounds; other words are no run
abbrev pub run_words : List (List ℕ) → Option Replay
run_words (command ∷ client ∷ cap ∷ limit ∷ files) =
    if bytes_eq command (codes "run") && nat_lt 0 (length files) && nat_le (length files) 8
    then replay_of (client_named client) (number_in 1 65536 cap) (number_in 0 255 limit) None files
    else None
run_words _ = None

-- what the words of a sweep say: those of a run, and up to how many steps its first seat makes before it stops
pub record Sweep : Type 0 where
  pub of_files : Replay
  pub most : ℕ

abbrev pub sweep_of : Option Replay → Option ℕ → Option Sweep
sweep_of (Some r) (Some most) = Some (record { of_files = r; most = most })
sweep_of (Some r) None = None
sweep_of None most = None

-- `sweep CLIENT CAP LIMIT K` and one to eight FILE words, with the same bounds and K from 0 to 255; other words are no
-- sweep
abbrev pub sweep_words : List (List ℕ) → Option Sweep
sweep_words (command ∷ client ∷ cap ∷ limit ∷ most ∷ files) =
    if bytes_eq command (codes "sweep") && nat_lt 0 (length files) && nat_le (length files) 8
    then sweep_of (replay_of (client_named client) (number_in 1 65536 cap) (number_in 0 255 limit) None files) (number_in 0 255 most)
    else None
sweep_words _ = None

-- the first word is `run`
abbrev pub starts_run : List (List ℕ) → Bool
starts_run (command ∷ words) = bytes_eq command (codes "run")
starts_run [] = false

-- a load of a client, with each of its numbers in range
abbrev pub load_of : Option Client → Option ℕ → Option ℕ → Option ℕ → Option ℕ → Option ℕ → Option Load
load_of (Some structure) (Some cap) (Some limit) (Some threads) (Some calls) (Some seed) =
    Some (record { client = structure; cap = cap; limit = limit; threads = threads; calls = calls; seed = seed })
load_of _ _ _ _ _ _ = None

-- `load CLIENT CAP LIMIT THREADS CALLS SEED`, with 1 to 65,536 blocks, a limit from 0 to 255, one to eight seats,
-- 1 to 65,535 calls of each, and a seed of 32 bits; other words are no load
abbrev pub load_words : List (List ℕ) → Option Load
load_words (command ∷ client ∷ cap ∷ limit ∷ threads ∷ calls ∷ seed ∷ []) =
    if bytes_eq command (codes "load")
    then load_of (client_named client) (number_in 1 65536 cap) (number_in 0 255 limit) (number_in 1 8 threads) (number_in 1 65535 calls) (number_in 0 4294967295 seed)
    else None
load_words _ = None

-- what is asked for: the report of a replay, the lines of a sweep, the summary of a load, or the report of a run with
-- threads
pub data Asked : Type 0 where
  a_replay : Replay → Asked
  a_sweep : Sweep → Asked
  a_load : Load → Asked
  a_run : Replay → Asked

-- the client that it is of
abbrev pub client_asked : Asked → Client
client_asked (a_replay r) = r.client
client_asked (a_sweep s) = s.of_files.client
client_asked (a_load l) = l.client
client_asked (a_run r) = r.client

-- the words that name its files, where it has files
abbrev pub files_asked : Option Asked → Option Replay
files_asked None = None
files_asked (Some (a_replay r)) = Some r
files_asked (Some (a_sweep s)) = Some s.of_files
files_asked (Some (a_load l)) = None
files_asked (Some (a_run r)) = Some r

-- a replay is asked for, or a sweep, or a load, or nothing that is served
abbrev pub asked_of : Option Replay → Option Sweep → Option Load → Option Asked
asked_of (Some r) s l = Some (a_replay r)
asked_of None (Some s) l = Some (a_sweep s)
asked_of None None (Some l) = Some (a_load l)
asked_of None None None = None

-- a run with threads is asked for, or nothing that is served
abbrev pub asked_run : Option Replay → Option Asked
asked_run (Some r) = Some (a_run r)
asked_run None = None

-- what the words ask for of a call that makes no thread
abbrev pub asked_words : List (List ℕ) → Option Asked
asked_words words = asked_of (replay_words words) (sweep_words words) (load_words words)

-- what they ask for of one that makes threads
abbrev pub run_asked : List (List ℕ) → Option Asked
run_asked words = asked_run (run_words words)

-- what they ask for of the program: a run where the first word is `run`, and else a replay, a sweep or a load
abbrev pub nwf_asked : List (List ℕ) → Option Asked
nwf_asked words = if starts_run words then run_asked words else asked_words words
