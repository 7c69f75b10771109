-- What an allowed step adds to the won exchanges and to the changes.
use Rattle.std.proofs.Common.{◌≡◌, refl, ℕ, ◌⊎◌, inl, inr, ◌∷◌, slice_get, Some}
use Rattle.step_memory.specs.declared.steps.Request.{Request}
use Rattle.step_memory.specs.declared.steps.Seen.{Seen}
use Rattle.normal_traits.specs.declared.lists.Entry.{Entry}
use Rattle.normal_traits.specs.World.{Cause, Listed, Maker, Took, Won, World}
use Rattle.normal_traits.specs.World.Maker.{By, Beside}
use Rattle.normal_traits.specs.NormalForm.{NormalForm}
use Rattle.normal_traits.specs.Steps.{IsStep, Requested, listed_if, with_change}
use Rattle.normal_traits.specs.Steps.IsStep.{nothing as no_step, elsewhere, clears, searches, wraps, first, first_of_block, second}
use Rattle.normal_traits.specs.Steps.Requested.{loaded, lost, won}

-- the won exchange of an entry
abbrev pub item_of : Maker → Entry → Cause → Won
item_of maker entry cause = record { place = entry.target; before = entry.from; after = entry.to; maker = maker; cause = cause }

module _ {S W : Type 0} (form : NormalForm S W) where
  -- nothing, an exchange beside the lists, or an entry of a list: its first, or one behind its first
  pub data Does (world after : World) : Type 0 where
    nothing : after.journal ≡ world.journal → after.changes ≡ world.changes → Does world after
    beside : (entry : Entry) (cause : Cause) → after.journal ≡ item_of Beside entry cause ∷ world.journal
        → after.changes ≡ with_change form.object (form.adds_beside world entry) world.changes → Does world after
    listed : (list : Listed) (j : ℕ) (entry : Entry) (cause : Cause) → slice_get list.entries j ≡ Some entry → (j ≡ 0) ⊎ Took world list 0 → world.words entry.target ≡ entry.from
        → after.journal ≡ item_of (By list j) entry cause ∷ world.journal → after.changes ≡ with_change form.object (listed_if (form.adds list j) list) world.changes → Does world after

  request_does : (request : Request) (world after : World) (seen : Seen) → Requested form request world after seen → Does world after
  request_does request world after seen (loaded at) = nothing refl refl
  request_does request world after seen (lost at from to differs) = nothing refl refl
  request_does request world after seen (won at from to same raised) = beside (record { target = at; from = from; to = to }) _ refl refl

  pub step_does : (world after : World) → IsStep form world after → Does world after
  step_does world after no_step = nothing refl refl
  step_does world after (elsewhere at word is) = nothing refl refl
  step_does world after (clears at is versioned listable) = nothing refl refl
  step_does world after (searches {seen = seen} s op since command asking knows r) = request_does (form.request_of s) world after seen r
  step_does world after (wraps {seen = seen} w list stop command asking follows r) = request_does (form.wrap_request_of w) world after seen r
  step_does world after (first list s since entry word offered fresh block needs at stood is) = listed list 0 entry _ at (inl refl) stood refl refl
  step_does world after (first_of_block list s since entry word offered fresh some unused filled at stood is) = listed list 0 entry _ at (inl refl) stood refl refl
  step_does world after (second list s since entry word offered took fails at stood is) = listed list 1 entry _ at (inr took) stood refl refl
