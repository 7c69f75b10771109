-- The operation that each call makes.
use Rattle.std.specs.Prelude.{ℕ}
use Rattle.lin_report.specs.declared.calls.Op.{Op}
use Rattle.lin_report.specs.declared.calls.TheConstants.{PUT, TAKE, ADD, DEL, HAS, SET, REM, GET, PEEK, MIN}

-- of a queue: this value is put last, the first value is taken, the first value is looked at
abbrev pub put_of : ℕ → Op
put_of value = record { code = PUT; key = 0; value = value }

abbrev pub take_of : Op
take_of = record { code = TAKE; key = 0; value = 0 }

abbrev pub peek_of : Op
peek_of = record { code = PEEK; key = 0; value = 0 }

-- of a set: the key joins, the key leaves, the key is looked for; of a sorted one also: the least key is looked at
abbrev pub add_of : ℕ → Op
add_of key = record { code = ADD; key = key; value = 0 }

abbrev pub remove_of : ℕ → Op
remove_of key = record { code = DEL; key = key; value = 0 }

abbrev pub contains_of : ℕ → Op
contains_of key = record { code = HAS; key = key; value = 0 }

abbrev pub least_of : Op
least_of = record { code = MIN; key = 0; value = 0 }

-- of a map: the key gets the value where it has none, the key leaves with its value, its value is looked at
abbrev pub set_of : ℕ → ℕ → Op
set_of key value = record { code = SET; key = key; value = value }

abbrev pub unset_of : ℕ → Op
unset_of key = record { code = REM; key = key; value = 0 }

abbrev pub get_of : ℕ → Op
get_of key = record { code = GET; key = key; value = 0 }
