-- What an allowed step does to one word: it stays, its bit is cleared, or its version rises; a set bit is only
-- ever cleared.
use Rattle.std.proofs.Common.{◌≡◌, ◌∙◌, refl, sym, ap, ℕ, ◌<◌, Bool, true, inl, inr, slice_get, Some, arith}
use Rattle.std.proofs.lemmas.Bool.{cases_eq}
use Rattle.step_memory.specs.declared.steps.Request.{Request}
use Rattle.step_memory.specs.declared.steps.Request.TheVariants.{Load, Store, Exchange, Add}
use Rattle.step_memory.specs.declared.steps.Seen.{Seen}
use Rattle.word_fields.specs.Versioned.{versioned_bit, versioned_version, cleared_word}
use Rattle.word_fields.proofs.ChangedWords.{version-cleared}
use Rattle.normal_traits.specs.declared.lists.Entry.{Entry}
use Rattle.normal_traits.specs.World.{Listed, World, is_word}
use Rattle.normal_traits.specs.NormalForm.{NormalForm}
use Rattle.normal_traits.specs.Steps.{IsStep, IsOffered, IsExchanged, Requested, with_word}
use Rattle.normal_traits.specs.Steps.IsStep.{nothing, elsewhere, clears, searches, wraps, first, first_of_block, second}
use Rattle.normal_traits.specs.Steps.Requested.{loaded, lost, won}
use Rattle.normal_traits.specs.Laws.{Laws, AsksWell}
use Rattle.normal_traits.proofs.Stays.{entry_good, word_put, word_beside}
use Rattle.cas_executor_laws.specs.Entries.{Moves}
use Rattle.cas_executor_laws.specs.Entries.Moves.{kept, cleared, raised}
use Rattle.offered_blocks.proofs.Blocks.Places.{words_apart}

-- a word after a step: kept, cleared of its bit, or exchanged for one of a higher version where it stood with
-- its bit clear if it is one of a list's
pub data Goes (guarded : Bool) (old new : ℕ) : Type 0 where
  stays : new ≡ old → Goes guarded old new
  clears_bit : new ≡ cleared_word old → Goes guarded old new
  rises : versioned_version old < versioned_version new → (guarded ≡ true → versioned_bit old ≡ 0) → Goes guarded old new

pub moves_of : (guarded : Bool) (old new : ℕ) → Goes guarded old new → Moves old new
moves_of guarded old new (stays same) = kept same
moves_of guarded old new (clears_bit is) = cleared is
moves_of guarded old new (rises more clear) = raised more

module _ {S W : Type 0} (form : NormalForm S W) (laws : Laws form) (world : World) (place : ℕ) (here : is_word form.is_root world place ≡ true) where
  -- a word is put where another stood
  put_goes : (at word : ℕ) → versioned_version (world.words at) < versioned_version word → (form.is_listable at ≡ true → versioned_bit (world.words at) ≡ 0)
      → Goes (form.is_listable place) (world.words place) (with_word at word world.words place)
  put_goes at word more clear =
      elim (cases_eq place at) [
        | inl same ↦
            let put = word_put at word world.words place same in
            let v = ap versioned_version put in
            let stood = ap (λ p. versioned_version (world.words p)) same in
            rises (omega (arith, more, v, stood)) (λ listable. ap (λ p. versioned_bit (world.words p)) same ∙ clear (ap form.is_listable (sym same) ∙ listable))
        | inr apart ↦ stays (word_beside at word world.words place apart)
      ]

  request_goes : (request : Request) (after : World) (seen : Seen) → AsksWell form world request → Requested form request world after seen → Goes (form.is_listable place) (world.words place) (after.words place)
  request_goes (Load at) after seen asks (loaded at') = stays refl
  request_goes (Exchange at from to) after seen asks (lost at' from' to' differs) = stays refl
  request_goes (Exchange at from to) after seen asks (won at' from' to' same rise) =
      put_goes at to (let stood = ap versioned_version same in omega (arith, stood, rise)) (λ listable. ap versioned_bit same ∙ asks.2 listable)
  request_goes (Store at value) after seen asks r = absurd asks
  request_goes (Add at by) after seen asks r = absurd asks

  entry_goes : (list : Listed) (search : S) (since j word : ℕ) (entry : Entry) → form.shape world → IsOffered form world list search since → slice_get list.entries j ≡ Some entry
      → world.words entry.target ≡ entry.from → IsExchanged entry word → Goes (form.is_listable place) (world.words place) (with_word entry.target word world.words place)
  entry_goes list search since j word entry shape offered listed stood exchanged =
      let good = entry_good form laws world list search since j entry shape offered listed in
      let v = version-cleared word in
      let to = ap versioned_version exchanged.to in
      let before = ap versioned_version stood in
      put_goes entry.target word (omega (arith, v, to, before, exchanged.raised)) (λ listable. ap versioned_bit stood ∙ good.clear)

  pub step_goes : (after : World) → form.shape world → IsStep form world after → Goes (form.is_listable place) (world.words place) (after.words place)
  step_goes after shape nothing = stays refl
  step_goes after shape (elsewhere at word is) = stays (word_beside at word world.words place (words_apart form.is_root world place at here is))
  step_goes after shape (clears at is versioned listable) =
      elim (cases_eq place at) [
        | inl same ↦ clears_bit (word_put at _ world.words place same ∙ ap (λ p. cleared_word (world.words p)) (sym same))
        | inr apart ↦ stays (word_beside at _ world.words place apart)
      ]
  step_goes after shape (searches {seen = seen} s op since command asking knows r) = request_goes (form.request_of s) after seen (laws.of_world.search_asks_well world s op since command shape asking knows) r
  step_goes after shape (wraps {seen = seen} w list stop command asking follows r) = request_goes (form.wrap_request_of w) after seen (laws.of_world.wrap_asks_well world w list stop shape asking follows) r
  step_goes after shape (first list s since entry word offered fresh none needs listed at is) = entry_goes list s since 0 word entry shape offered listed at is
  step_goes after shape (first_of_block list s since entry word offered fresh some unused filled listed at is) = entry_goes list s since 0 word entry shape offered listed at is
  step_goes after shape (second list s since entry word offered took fails listed at is) = entry_goes list s since 1 word entry shape offered listed at is
