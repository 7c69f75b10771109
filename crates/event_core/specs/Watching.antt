-- The memory of a run with a mark of its last step, and what a step leaves of both.
use Rattle.std.specs.Prelude.{◌≡◌, ℕ, if◌then◌else◌, List, slice_index, Option, Some, None}
use Rattle.step_memory.specs.declared.steps.Request.{Request}
use Rattle.step_memory.specs.declared.steps.Seen.{Seen}
use Rattle.step_memory.specs.Step.{requested_place, seen_of, words_after}
use Rattle.event_core.specs.declared.watching.Mark.{Mark}
use Rattle.event_core.specs.Noted.{tells_nothing}

pub record WatchedView : Type 0 where
  pub words : List ℕ
  pub mark : Option Mark

-- the mark of a step on these words: none where its request shows that it tells no event
abbrev pub mark_of : Request → List ℕ → Option Mark
mark_of request words = if tells_nothing request then None else Some (record { place = requested_place request; before = slice_index words (requested_place request) })

-- the request was made on the words, and marked
pub record IsPlayed (before : WatchedView) (request : Request) (after : WatchedView) (seen : Seen) : Type 0 where
  pub words : after.words ≡ words_after request before.words
  pub saw : seen ≡ seen_of request before.words
  pub mark : after.mark ≡ mark_of request before.words
