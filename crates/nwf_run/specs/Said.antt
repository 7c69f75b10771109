-- What the words of a replay, of a run or of a sweep say, as its code keeps it.
use Rattle.std.specs.Prelude.{Some, None, map, string_bytes}
use Rattle.nwf_run.specs.declared.words.ReplayWords.{ReplayWords}
use Rattle.nwf_run.specs.declared.words.RunWords.{RunWords}
use Rattle.nwf_run.specs.declared.sweep_words.SweepWords.{SweepWords}
use Rattle.nwf_run.specs.CommandLine.{Replay, Sweep}

abbrev pub said : ReplayWords → Replay
said words = record { client = words.client; cap = words.cap; limit = words.limit; schedule = Some words.schedule.now; files = map string_bytes words.files.now }

abbrev pub said_run : RunWords → Replay
said_run words = record { client = words.client; cap = words.cap; limit = words.limit; schedule = None; files = map string_bytes words.files.now }

abbrev pub said_sweep : SweepWords → Sweep
said_sweep words = record { of_files = said_run words.of_files; most = words.most }
