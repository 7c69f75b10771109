-- What the words of a call without threads ask for: no run with threads, and no sweep with a schedule.
use Rattle.std.proofs.Common.{◌≡◌, ◌≢◌, ℕ, ◌&&◌, nat_lt, nat_le, cond, Bool, true, false, List, [], ◌∷◌, length, Option, Some, None, codes, refl, sym, ap, subst}
use Rattle.std.specs.Str.{bytes_eq}
use Rattle.lin_report.specs.declared.calls.Client.{Client}
use Rattle.client_reports.specs.declared.loading.Load.{Load}
use Rattle.command_line.specs.Words.{client_named, number_in}
use Rattle.nwf_run.specs.CommandLine.{Asked, Replay, Sweep, asked_of, asked_words, load_words, replay_of, replay_words, sweep_of, sweep_words}
use Rattle.nwf_run.specs.CommandLine.Asked.{a_replay, a_sweep, a_load, a_run}

-- a core makes what is asked for: no thread is needed, and a sweep has command files alone
abbrev pub IsOfCore : Option Asked → Type 0
IsOfCore (Some (a_run r)) = ⊥
IsOfCore (Some (a_sweep s)) = s.of_files.schedule ≡ None
IsOfCore _ = Unit {0}

-- a sweep, if it is one, has no schedule
abbrev HasNoSchedule : Option Sweep → Type 0
HasNoSchedule None = Unit {0}
HasNoSchedule (Some s) = s.of_files.schedule ≡ None

no_schedule : (client : Option Client) (cap limit most : Option ℕ) (files : List (List ℕ)) → HasNoSchedule (sweep_of (replay_of client cap limit None files) most)
no_schedule None cap limit None files = tt
no_schedule None cap limit (Some k) files = tt
no_schedule (Some c) None limit None files = tt
no_schedule (Some c) None limit (Some k) files = tt
no_schedule (Some c) (Some n) None None files = tt
no_schedule (Some c) (Some n) None (Some k) files = tt
no_schedule (Some c) (Some n) (Some l) None files = tt
no_schedule (Some c) (Some n) (Some l) (Some k) files = refl

if_served : (served : Bool) (sweep : Option Sweep) → HasNoSchedule sweep → HasNoSchedule (cond served sweep None)
if_served true sweep has = has
if_served false sweep has = tt

sweeps_have_none : (words : List (List ℕ)) → HasNoSchedule (sweep_words words)
sweeps_have_none [] = tt
sweeps_have_none (command ∷ []) = tt
sweeps_have_none (command ∷ client ∷ []) = tt
sweeps_have_none (command ∷ client ∷ cap ∷ []) = tt
sweeps_have_none (command ∷ client ∷ cap ∷ limit ∷ []) = tt
sweeps_have_none (command ∷ client ∷ cap ∷ limit ∷ most ∷ files) =
    if_served (bytes_eq command (codes "sweep") && nat_lt 0 (length files) && nat_le (length files) 8) _
    (no_schedule (client_named client) (number_in 1 65536 cap) (number_in 0 255 limit) (number_in 0 255 most) files)

asked_is : (r : Option Replay) (s : Option Sweep) (l : Option Load) → HasNoSchedule s → IsOfCore (asked_of r s l)
asked_is (Some r) s l none = tt
asked_is None (Some s) l none = none
asked_is None None (Some l) none = tt
asked_is None None None none = tt

pub words_of_core : (words : List (List ℕ)) → IsOfCore (asked_words words)
words_of_core words = asked_is (replay_words words) (sweep_words words) (load_words words) (sweeps_have_none words)
