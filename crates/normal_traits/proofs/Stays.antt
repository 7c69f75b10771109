-- From the laws of any structure: a word that is never exchanged stays, and a version never falls, whatever
-- anyone does.
use Rattle.std.proofs.Common.{◌≡◌, ◌≢◌, ◌∙◌, refl, sym, ap, subst, ℕ, zero, suc, ◌≤◌, if◌then◌else◌, Bool, true, false, List, [], ◌∷◌, Option, slice_get, Some, None, All, inl, inr, arith}
use Rattle.std.proofs.lemmas.Bool.{cases_eq, eq-eqb, ne_eqb}
use Rattle.std.proofs.lemmas.List.Elements.{All-head, All-tail}
use Rattle.step_memory.specs.declared.steps.Request.{Request}
use Rattle.step_memory.specs.declared.steps.Request.TheVariants.{Load, Store, Exchange, Add}
use Rattle.step_memory.specs.declared.steps.Seen.{Seen}
use Rattle.word_fields.specs.Versioned.{versioned_version, cleared_word}
use Rattle.word_fields.proofs.ChangedWords.{version-cleared}
use Rattle.normal_traits.specs.declared.lists.Entry.{Entry}
use Rattle.normal_traits.specs.World.{World, Listed, is_word}
use Rattle.normal_traits.specs.NormalForm.{NormalForm}
use Rattle.normal_traits.specs.Steps.{IsStep, Requested, IsOffered, IsExchanged, with_word}
use Rattle.normal_traits.specs.Steps.Requested.{loaded, lost, won}
use Rattle.normal_traits.specs.Steps.IsStep.{nothing, elsewhere, clears, searches, wraps, first, first_of_block, second}
use Rattle.normal_traits.specs.Laws.{Laws, AsksWell, IsGoodEntry}

-- what holds of all holds of the one at a place
pub all_at : {X : Type 0} (P : X → Type 0) (xs : List X) (j : ℕ) (x : X) → All P xs → slice_get xs j ≡ Some x → P x
all_at P [] j x all e = absurd cc
all_at P (y ∷ ys) zero x all e = subst P (ap (some_or y) e) (All-head P y ys all)
  where
    some_or : {X : Type 0} → X → Option X → X
    some_or y None = y
    some_or y (Some x) = x
all_at P (y ∷ ys) (suc j) x all e = all_at P ys j x (All-tail P y ys all) e

-- a word that was put stands at its place, and the others stay
pub word_put : (place word : ℕ) (words : ℕ → ℕ) (at : ℕ) → at ≡ place → with_word place word words at ≡ word
word_put place word words at same = ap (λ b. if b then word else words at) (eq-eqb at place same)

pub word_beside : (place word : ℕ) (words : ℕ → ℕ) (at : ℕ) → at ≢ place → with_word place word words at ≡ words at
word_beside place word words at apart = ap (λ b. if b then word else words at) (ne_eqb at place apart)

-- a place that is a word isn't one that is none
words_apart : (is_root : ℕ → Bool) (world : World) (place at : ℕ) → is_word is_root world place ≡ true → is_word is_root world at ≡ false → place ≢ at
words_apart is_root world place at here is e = let is' : is_word is_root world place ≡ false = subst (λ p. is_word is_root world p ≡ false) (sym e) is in absurd cc

-- ---- versions

-- the version of a word at a place doesn't fall where a word of no lower version is put
version_put : (place word : ℕ) (words : ℕ → ℕ) (at : ℕ) → versioned_version (words place) ≤ versioned_version word → versioned_version (words at) ≤ versioned_version (with_word place word words at)
version_put place word words at more =
    elim (cases_eq at place) [
      | inl same ↦ omega (arith, ap versioned_version (word_put place word words at same), ap (λ p. versioned_version (words p)) same, more)
      | inr apart ↦ omega (arith, ap versioned_version (word_beside place word words at apart))
    ]

-- the exchanged word of an entry has a higher version than the word before it
raised_put : (entry : Entry) (word : ℕ) (words : ℕ → ℕ) (at : ℕ) → words entry.target ≡ entry.from → IsExchanged entry word
    → versioned_version (words at) ≤ versioned_version (with_word entry.target word words at)
raised_put entry word words at stood exchanged =
    version_put entry.target word words at (omega (arith, ap versioned_version stood, version-cleared word, ap versioned_version exchanged.to, exchanged.raised))

module _ {S W : Type 0} (form : NormalForm S W) where
  request_rises : (request : Request) (world after : World) (seen : Seen) (place : ℕ) → Requested form request world after seen → versioned_version (world.words place) ≤ versioned_version (after.words place)
  request_rises request world after seen place (loaded at) = omega arith
  request_rises request world after seen place (lost at from to differs) = omega arith
  request_rises request world after seen place (won at from to same raised) = version_put at to world.words place (omega (arith, ap versioned_version same, raised))

  -- the version of a client's word never falls
  pub passed_stays : (world after : World) (place : ℕ) → is_word form.is_root world place ≡ true → IsStep form world after → versioned_version (world.words place) ≤ versioned_version (after.words place)
  passed_stays world after place here nothing = omega arith
  passed_stays world after place here (elsewhere at word is) = omega (arith, ap versioned_version (word_beside at word world.words place (words_apart form.is_root world place at here is)))
  passed_stays world after place here (clears at is versioned listable) = version_put at (cleared_word (world.words at)) world.words place (omega (arith, version-cleared (world.words at)))
  passed_stays world after place here (searches {seen = seen} search op since command asking knows r) = request_rises (form.request_of search) world after seen place r
  passed_stays world after place here (wraps {seen = seen} wrap list stop command asking follows r) = request_rises (form.wrap_request_of wrap) world after seen place r
  passed_stays world after place here (first list search since entry word offered fresh block needs listed at exchanged) = raised_put entry word world.words place at exchanged
  passed_stays world after place here (first_of_block list search since entry word offered fresh some unused filled listed at exchanged) = raised_put entry word world.words place at exchanged
  passed_stays world after place here (second list search since entry word offered took fails listed at exchanged) = raised_put entry word world.words place at exchanged

-- ---- words that are never exchanged

module _ {S W : Type 0} (form : NormalForm S W) (laws : Laws form) where
  -- the entries of a held list are good
  pub entry_good : (world : World) (list : Listed) (search : S) (since j : ℕ) (entry : Entry) → form.shape world → IsOffered form world list search since → slice_get list.entries j ≡ Some entry → IsGoodEntry form world entry
  entry_good world list search since j entry shape offered listed =
      let good = laws.of_world.offers world search list.call.op since list.block offered.command shape offered.knows offered.ready offered.small in
      all_at (IsGoodEntry form world) (form.offer_of search list.call.op list.block).entries j entry good.entries (ap (λ (entries : List Entry). slice_get entries j) (sym offered.entries) ∙ listed)

  module _ (world : World) (place : ℕ) (fixed : form.is_versioned place ≡ false) where
    -- it isn't a place of an exchange
    apart : (at : ℕ) → form.is_versioned at ≡ true → place ≢ at
    apart at versioned e = let versioned' : form.is_versioned place ≡ true = subst (λ p. form.is_versioned p ≡ true) (sym e) versioned in absurd cc

    load_stays : (at : ℕ) (after : World) (seen : Seen) → Requested form (Load at) world after seen → after.words place ≡ world.words place
    load_stays at after seen (loaded at') = refl

    exchange_stays : (at from to : ℕ) (after : World) (seen : Seen) → form.is_versioned at ≡ true → Requested form (Exchange at from to) world after seen → after.words place ≡ world.words place
    exchange_stays at from to after seen versioned (lost at' from' to' differs) = refl
    exchange_stays at from to after seen versioned (won at' from' to' same raised) = word_beside at to world.words place (apart at versioned)

    request_stays : (request : Request) (after : World) (seen : Seen) → AsksWell form world request → Requested form request world after seen → after.words place ≡ world.words place
    request_stays (Load at) after seen asks r = load_stays at after seen r
    request_stays (Exchange at from to) after seen asks r = exchange_stays at from to after seen asks.1 r
    request_stays (Store at value) after seen asks r = absurd asks
    request_stays (Add at by) after seen asks r = absurd asks

    entry_stays : (list : Listed) (search : S) (since j word : ℕ) (entry : Entry) → form.shape world → IsOffered form world list search since → slice_get list.entries j ≡ Some entry → with_word entry.target word world.words place ≡ world.words place
    entry_stays list search since j word entry shape offered listed =
        word_beside entry.target word world.words place (apart entry.target (entry_good world list search since j entry shape offered listed).versioned)

    -- a client's word at such a place stays
    pub word_stays : (after : World) → form.shape world → is_word form.is_root world place ≡ true → IsStep form world after → after.words place ≡ world.words place
    word_stays after shape here nothing = refl
    word_stays after shape here (elsewhere at word is) = word_beside at word world.words place (words_apart form.is_root world place at here is)
    word_stays after shape here (clears at is versioned listable) = word_beside at _ world.words place (apart at versioned)
    word_stays after shape here (searches {seen = seen} search op since command asking knows r) = request_stays (form.request_of search) after seen (laws.of_world.search_asks_well world search op since command shape asking knows) r
    word_stays after shape here (wraps {seen = seen} wrap list stop command asking follows r) = request_stays (form.wrap_request_of wrap) after seen (laws.of_world.wrap_asks_well world wrap list stop shape asking follows) r
    word_stays after shape here (first list search since entry word offered fresh block needs listed at exchanged) = entry_stays list search since 0 word entry shape offered listed
    word_stays after shape here (first_of_block list search since entry word offered fresh some unused filled listed at exchanged) = entry_stays list search since 0 word entry shape offered listed
    word_stays after shape here (second list search since entry word offered took fails listed at exchanged) = entry_stays list search since 1 word entry shape offered listed
