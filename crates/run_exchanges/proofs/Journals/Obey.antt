-- The laws of the journal of every run.
use Rattle.std.specs.Prelude.{All, AllPairs}
use Rattle.std.proofs.Common.{◌≡◌, ◌≢◌, ◌∙◌, refl, sym, subst, ap, ℕ, ◌+◌, ◌<◌, ◌≤◌, Bool, true, List, [], ◌∷◌, slice_get, Some, arith}
use Rattle.std.proofs.lemmas.List.Elements.{All-nil, All-cons, All-weaker}
use Rattle.std.proofs.lemmas.List.Kept.{AllPairs-cons}
use Rattle.step_memory.specs.declared.steps.Request.{Request}
use Rattle.step_memory.specs.declared.steps.Seen.{Seen}
use Rattle.word_fields.specs.Versioned.{versioned_version}
use Rattle.word_fields.proofs.ChangedWords.{version-cleared}
use Rattle.normal_traits.specs.declared.lists.Entry.{Entry}
use Rattle.normal_traits.specs.World.{Listed, Maker, Won, World, is_word}
use Rattle.normal_traits.specs.NormalForm.{NormalForm}
use Rattle.normal_traits.specs.Steps.{IsStep, Requested, IsExchanged, IsOffered, with_word}
use Rattle.normal_traits.specs.Steps.Requested.{loaded, lost, won}
use Rattle.normal_traits.specs.Steps.IsStep.{nothing, elsewhere, clears, searches, wraps, first, first_of_block, second}
use Rattle.normal_traits.specs.Laws.{Laws, AsksWell}
use Rattle.normal_traits.proofs.Stays.{entry_good, passed_stays, word_put}
use Rattle.fast_slow_engine.specs.declared.setup.Setup.{Setup}
use Rattle.fast_slow_engine.specs.Runs.{Move, AreMoves}
use Rattle.run_laws.proofs.Pairs.{pairs_nil}
use Rattle.run_invariant.specs.RunGhosts.{world_of}
use Rattle.run_invariant.specs.Kept.{RunsAreKept}
use Rattle.run_invariant.proofs.Words.Grow.{world_grows}
use Rattle.run_invariant.proofs.Bounds.Causes.{journal_few}
use Rattle.run_invariant.proofs.Bounds.InKept.{used_within}
use Rattle.run_invariant.proofs.InRuns.MovesInRuns as moves_of
use Rattle.run_invariant.proofs.InRuns.MovesInRuns.{moved}
use Rattle.run_exchanges.specs.Journals.{JournalsObey}
use Rattle.offered_blocks.proofs.Blocks.Places.{word_grows}

-- a won exchange at a word of the client: its version is one higher, and the place is past the word before
record IsPast (is_root : ℕ → Bool) (world : World) (won : Won) : Type 0 where
  pub here : is_word is_root world won.place ≡ true
  pub past : versioned_version won.before < versioned_version (world.words won.place)
  pub raised : versioned_version won.after ≡ versioned_version won.before + 1

-- two won exchanges at one place were not of one word
abbrev AreOnce : Won → Won → Type 0
AreOnce a b = a.place ≡ b.place → a.before ≢ b.before

-- of all won exchanges
record ArePast (is_root : ℕ → Bool) (world : World) : Type 0 where
  pub each : All (IsPast is_root world) world.journal
  pub once : AllPairs AreOnce world.journal

-- a step that wins no exchange, or one at a word of the client that stands there
data Wins (is_root : ℕ → Bool) (world after : World) : Type 0 where
  none : after.journal ≡ world.journal → Wins is_root world after
  one : (won : Won) → after.journal ≡ won ∷ world.journal → is_word is_root world won.place ≡ true → world.words won.place ≡ won.before
      → versioned_version won.after ≡ versioned_version won.before + 1 → versioned_version (after.words won.place) ≡ versioned_version won.after → Wins is_root world after

module _ {S W : Type 0} (form : NormalForm S W) (laws : Laws form) where
  request_wins : (request : Request) (world after : World) (seen : Seen) → AsksWell form world request → Requested form request world after seen → Wins form.is_root world after
  request_wins request world after seen asks (loaded at) = none refl
  request_wins request world after seen asks (lost at from to differs) = none refl
  request_wins request world after seen asks (won at from to same raised) =
      one (record { place = at; before = from; after = to; maker = Maker.Beside; cause = _ }) refl asks.0 same raised (ap versioned_version (word_put at to world.words at refl))

  entry_wins : (world after : World) (list : Listed) (search : S) (since j word : ℕ) (entry : Entry) (made : Won) → form.shape world → IsOffered form world list search since → slice_get list.entries j ≡ Some entry
      → world.words entry.target ≡ entry.from → IsExchanged entry word → made.place ≡ entry.target → made.before ≡ entry.from → made.after ≡ entry.to
      → after.journal ≡ made ∷ world.journal → after.words ≡ with_word entry.target word world.words → Wins form.is_root world after
  entry_wins world after list search since j word entry made shape offered listed stands is place before to journal words =
      let good = entry_good form laws world list search since j entry shape offered listed in
      let stood : after.words made.place ≡ word = ap after.words place ∙ ap (λ (f : ℕ → ℕ). f entry.target) words ∙ word_put entry.target word world.words entry.target refl in
      one made journal (subst (λ p. is_word form.is_root world p ≡ true) (sym place) good.word) (ap world.words place ∙ stands ∙ sym before)
      (ap versioned_version to ∙ is.raised ∙ ap (λ w. versioned_version w + 1) (sym before))
      (ap versioned_version stood ∙ sym (version-cleared word) ∙ ap versioned_version (is.to ∙ sym to))

  wins : (world after : World) → form.shape world → IsStep form world after → Wins form.is_root world after
  wins world after shape nothing = none refl
  wins world after shape (elsewhere at word is) = none refl
  wins world after shape (clears at is versioned listable) = none refl
  wins world after shape (searches {seen = seen} s op since command asking knows r) = request_wins (form.request_of s) world after seen (laws.of_world.search_asks_well world s op since command shape asking knows) r
  wins world after shape (wraps {seen = seen} w list stop command asking follows r) = request_wins (form.wrap_request_of w) world after seen (laws.of_world.wrap_asks_well world w list stop shape asking follows) r
  wins world after shape (first list s since entry word offered fresh block needs listed at is) = entry_wins world after list s since 0 word entry _ shape offered listed at is refl refl refl refl refl
  wins world after shape (first_of_block list s since entry word offered fresh some unused filled listed at is) = entry_wins world after list s since 0 word entry _ shape offered listed at is refl refl refl refl refl
  wins world after shape (second list s since entry word offered took fails listed at is) = entry_wins world after list s since 1 word entry _ shape offered listed at is refl refl refl refl refl

  module _ (world after : World) (grows : (block : ℕ) → world.used block ≡ true → after.used block ≡ true) (step : IsStep form world after) where
    -- an earlier exchange stays past
    stays_past : (item : Won) → IsPast form.is_root world item → IsPast form.is_root after item
    stays_past item is = record { here = word_grows form.is_root world after grows item.place is.here; past = omega (arith, is.past, passed_stays form world after item.place is.here step); raised = is.raised }

    past_more : Wins form.is_root world after → ArePast form.is_root world → ArePast form.is_root after
    past_more (none same) on = record {
      each = subst (All (IsPast form.is_root after)) (sym same) (All-weaker (IsPast form.is_root world) (IsPast form.is_root after) stays_past world.journal on.each);
      once = subst (AllPairs AreOnce) (sym same) on.once;
    }
    past_more (one made journal here stands raised version) on = record {
      each = subst (All (IsPast form.is_root after)) (sym journal) (All-cons (IsPast form.is_root after) made world.journal
          (record { here = word_grows form.is_root world after grows made.place here; past = omega (arith, raised, version); raised = raised })
          (All-weaker (IsPast form.is_root world) (IsPast form.is_root after) stays_past world.journal on.each));
      once = subst (AllPairs AreOnce) (sym journal) (AllPairs-cons AreOnce made world.journal
          (All-weaker (IsPast form.is_root world) (AreOnce made) (λ (old : Won) is place same. omega (arith, is.past, ap versioned_version same, ap versioned_version stands, ap (λ p. versioned_version (world.words p)) place)) world.journal on.each)
          on.once);
    }

  -- ---- of every run

  module _ (kept : RunsAreKept form) where
    are_past : (setup : Setup) (moves : List Move) → AreMoves form setup moves → ArePast form.is_root (world_of form setup moves)
    are_past setup [] are = record { each = All-nil (IsPast form.is_root (world_of form setup [])); once = pairs_nil AreOnce }
    are_past setup (move ∷ older) are =
        let world = world_of form setup older in
        let after = world_of form setup (move ∷ older) in
        let step = moves_of.step form (moved form laws kept setup older move are) in
        past_more world after (world_grows form setup older move).used step (wins world after (kept setup older are.0).holds.shape step) (are_past setup older are.0)

    pub obeys : JournalsObey form
    obeys setup moves are =
        let world = world_of form setup moves in
        let is = kept setup moves are in
        let on = are_past setup moves are in
        let used = used_within form setup moves are is in
        record {
          once_from = on.once;
          raised = All-weaker (IsPast form.is_root world) (λ (won : Won). versioned_version won.after ≡ versioned_version won.before + 1) (λ item past. past.raised) world.journal on.each;
          causes = laws.of_world.causes_differ world is.holds.shape;
          bounded = All-weaker (λ (won : Won). (world.used won.cause.block ≡ true) × (won.cause.kind < 8)) (λ (won : Won). (won.cause.block ≤ setup.cap) × (won.cause.kind < 8)) (λ (won : Won) of. (used won.cause.block of.0, of.1)) world.journal (laws.of_world.causes_bounded world is.holds.shape);
          few = journal_few form world setup.cap laws is.holds.shape used;
        }
