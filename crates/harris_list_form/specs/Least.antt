-- The search of the least key: how it goes on from the beginning of a list, over marked nodes alone.
use Rattle.std.specs.Prelude.{ℕ, ◌%◌, ◌==◌, if◌then◌else◌, Bool}
use Rattle.lin_report.specs.declared.calls.Reply.TheVariants.{Value, Empty}
use Rattle.lin_report.specs.declared.calls.Outcome.TheVariants.{Plain}
use Rattle.lin_report.specs.Commands.{KEY_LIMIT}
use Rattle.word_fields.specs.Versioned.{is_modified}
use Rattle.normal_traits.specs.declared.form.Found.{Found}
use Rattle.normal_traits.specs.declared.form.Found.TheVariants.{Going, Answer, Contended}
use Rattle.harris_list_form.specs.declared.states.Left.{Left}
use Rattle.harris_list_form.specs.declared.states.ListSearch.{ListSearch}
use Rattle.harris_list_form.specs.declared.states.ListSearch.TheVariants.{LeastNext, LeastUnlink, LeastKey}

-- the key in a key's word. Each such word is below the limit; the rest is cut, for a search takes any word
abbrev pub key_in : ℕ → ℕ
key_in word = word % KEY_LIMIT

-- the node was the least, or the list was empty: no marked node is left before it
abbrev pub least_reached : ListSearch → ℕ → ListSearch × Found
least_reached stay cur = if cur == 0 then (stay, Answer (Plain Empty)) else (LeastKey cur, Going)

-- the search has come to an unmarked node or to the end: marked nodes on the way are unlinked first
abbrev pub least_met : ListSearch → Left → Bool → ℕ → ListSearch × Found
least_met stay left run cur =
    if run then (if is_modified left.word then (stay, Contended) else (LeastUnlink left cur, Going)) else least_reached stay cur

-- the search goes on to a node, if there is one
abbrev pub least_moved : ListSearch → Left → Bool → ℕ → ListSearch × Found
least_moved stay left run cur = if cur == 0 then least_met stay left run cur else (LeastNext left run cur, Going)

-- the key of the least node was loaded
abbrev pub least_told : ListSearch → ℕ → ListSearch × Found
least_told stay word = (stay, Answer (Plain (Value (key_in word))))
