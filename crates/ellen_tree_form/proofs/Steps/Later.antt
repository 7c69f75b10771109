-- What every allowed step keeps, whoever makes it: each word of a client stays, has its bit cleared or gets a higher
-- version; words that are never exchanged stay; changes and journal grow in front; used blocks stay used.
use Rattle.std.proofs.Common.{◌≡◌, ℕ, ◌<◌, true, false, eqb, List, ◌∷◌, Option, refl, sym, ap, ◌∙◌, inl, inr, ◌⊎◌, arith}
use Rattle.std.specs.Prelude.{slice_get, Some, None}
use Rattle.std.proofs.lemmas.Bool.{true≢false, or_right}
use Rattle.word_fields.specs.Versioned.{versioned_version, cleared_word}
use Rattle.word_fields.proofs.ChangedWords.{version-cleared}
use Rattle.step_memory.specs.declared.steps.Request.{Request}
use Rattle.step_memory.specs.declared.steps.Seen.{Seen}
use Rattle.normal_traits.specs.declared.lists.Entry.{Entry}
use Rattle.normal_traits.specs.World.{Listed, Maker, Won, Change, World, Among, StandsOrPassed, is_word, no_root}
use Rattle.normal_traits.specs.World.Maker.{By, Beside}
use Rattle.normal_traits.specs.Steps.{with_word, with_change, listed_if, IsExchanged, IsOffered, Requested, IsStep, exchanged}
use Rattle.normal_traits.specs.Steps.Requested.{loaded, lost, won}
use Rattle.normal_traits.specs.Steps.IsStep.{nothing, elsewhere, clears, searches, wraps, first, first_of_block, second}
use Rattle.normal_traits.specs.Laws.{AsksWell}
use Rattle.ellen_tree_form.specs.declared.states.TreeSearch.{TreeSearch}
use Rattle.ellen_tree_form.specs.Words.{update_at, is_versioned}
use Rattle.ellen_tree_form.specs.Shape.{Shape}
use Rattle.ellen_tree_form.specs.Form.{tree_form}
use Rattle.ellen_tree_form.proofs.Plain.{offered_entries}
use Rattle.ellen_tree_form.proofs.Asks.{search_asks_well, wrap_asks_well, update_versioned}
use Rattle.normal_traits.proofs.Stays.{word_beside}
use Rattle.client_lemmas.proofs.Words.{Rises, rises_version, rises_seen, rises_at, beside_word}
use Rattle.client_lemmas.proofs.Entries.{the_entry, no_second}

pub record Later (world after : World) : Type 0 where
  pub rises : (place : ℕ) → is_word no_root world place ≡ true → Rises (world.words place) (after.words place)
  pub plain : (place : ℕ) → is_word no_root world place ≡ true → is_versioned place ≡ false → after.words place ≡ world.words place
  pub used : (block : ℕ) → world.used block ≡ true → after.used block ≡ true
  pub journal : (item : Won) → Among item world.journal → Among item after.journal
  pub changes : (after.changes ≡ world.changes) ⊎ ((change : Change) × (after.changes ≡ change ∷ world.changes))

-- a place of a versioned word is no other one
stays_plain : (words : ℕ → ℕ) (place word : ℕ) → is_versioned place ≡ true → (at : ℕ) → is_versioned at ≡ false → with_word place word words at ≡ words at
stays_plain words place word is at none = word_beside place word words at (λ e. true≢false (sym is ∙ ap is_versioned (sym e) ∙ none))

-- ---- steps

pub same_later : (world : World) → Later world world
same_later world = record { rises = λ place is. inl refl; plain = λ place is none. refl; used = λ block used. used; journal = λ item among. among; changes = inl refl }

grown : (added : Option Listed) (changes : List Change) → (with_change tree_form.object added changes ≡ changes) ⊎ ((change : Change) × (with_change tree_form.object added changes ≡ change ∷ changes))
grown None changes = inl refl
grown (Some list) changes = inr (_, refl)

exchanged_later : (world : World) (maker : Maker) (added : Option Listed) (entry : Entry) (word : ℕ) → is_versioned entry.target ≡ true → versioned_version (world.words entry.target) < versioned_version word
    → Later world (exchanged tree_form maker added entry word world)
exchanged_later world maker added entry word is raised = record {
  rises = λ place word'. rises_at world.words entry.target word (inr (inr raised)) place;
  plain = λ place word' none. stays_plain world.words entry.target word is place none;
  used = λ block used. used;
  journal = λ item among. inr among;
  changes = grown added world.changes;
}

pub requested_later : (world after : World) (seen : Seen) (request : Request) → AsksWell tree_form world request → Requested tree_form request world after seen → Later world after
requested_later world _ _ _ asks (loaded place) = same_later world
requested_later world _ _ _ asks (lost place from to differs) = same_later world
requested_later world _ _ _ asks (won place from to stood raised) =
    exchanged_later world Beside _ (record { target = place; from = from; to = to }) to asks.1 (omega (arith, raised, ap versioned_version stood))

-- the one entry of a list that was offered sets a flag
first_target : (world : World) (list : Listed) (search : TreeSearch) (since : ℕ) (entry : Entry) → IsOffered tree_form world list search since → slice_get list.entries 0 ≡ Some entry → (node : ℕ) × (entry.target ≡ update_at node)
first_target world list search since entry offered listed =
    let one = offered_entries world list search since offered in
    (one.0, sym (ap (λ (e : Entry). e.target) (the_entry list.entries entry _ listed one.2)))

flag_later : (world : World) (list : Listed) (search : TreeSearch) (since : ℕ) (entry : Entry) (word : ℕ) → IsOffered tree_form world list search since → slice_get list.entries 0 ≡ Some entry → world.words entry.target ≡ entry.from → IsExchanged entry word
    → Later world (exchanged tree_form (By list 0) (listed_if false list) entry word world)
flag_later world list search since entry word offered listed stood to =
    let target = first_target world list search since entry offered listed in
    exchanged_later world (By list 0) (listed_if false list) entry word (ap is_versioned target.1 ∙ update_versioned target.0)
    (omega (arith, to.raised, ap versioned_version stood, ap versioned_version to.to, version-cleared word))

pub later : (world after : World) → Shape world → IsStep tree_form world after → Later world after
later world after shape nothing = same_later world
later world after shape (elsewhere place word outside) =
    let apart : (at : ℕ) → is_word no_root world at ≡ true → with_word place word world.words at ≡ world.words at = beside_word no_root world place word outside in
    record { rises = λ at is. inl (apart at is); plain = λ at is none. apart at is; used = λ block used. used; journal = λ item among. among; changes = inl refl }
later world after shape (clears place inside versioned listable) = record {
  rises = λ at is. rises_at world.words place (cleared_word (world.words place)) (inr (inl refl)) at;
  plain = λ at is none. stays_plain world.words place (cleared_word (world.words place)) versioned at none;
  used = λ block used. used;
  journal = λ item among. among;
  changes = inl refl;
}
later world after shape (searches {seen = seen} search op since command asks knows requested) = requested_later world after seen (tree_form.request_of search) (search_asks_well world shape search op since asks knows) requested
later world after shape (wraps {seen = seen} help list stop command fits follows requested) = requested_later world after seen (tree_form.wrap_request_of help) (wrap_asks_well world shape list help follows) requested
later world after shape (first list search since entry word offered fresh none needs listed stood to) = absurd (true≢false (sym (offered_entries world list search since offered).3 ∙ needs))
later world after shape (first_of_block list search since entry word offered fresh some unused filled listed stood to) =
    let flag = flag_later world list search since entry word offered listed stood to in
    record {
      rises = flag.rises;
      plain = flag.plain;
      used = λ block used. or_right (eqb block list.block) (world.used block) used;
      journal = flag.journal;
      changes = flag.changes;
    }
later world after shape (second list search since entry word offered took untook listed stood to) = absurd (no_second list.entries _ entry (offered_entries world list search since offered).2 listed)

-- ---- what was seen

-- a place that is past a word stays past it
pub passed_on : {world after : World} (place word : ℕ) → is_word no_root world place ≡ true → Later world after → versioned_version word < versioned_version (world.words place) → versioned_version word < versioned_version (after.words place)
passed_on {world} {after} place word is l passed = omega (arith, passed, rises_version (world.words place) (after.words place) (l.rises place is))

-- a word that was seen with its bit clear still stands or is passed
pub seen_later : (world after : World) (place word : ℕ) → is_word no_root world place ≡ true → Later world after → StandsOrPassed world place word → StandsOrPassed after place word
seen_later world after place word is l seen clear = rises_seen (world.words place) (after.words place) word (l.rises place is) clear (seen clear)
