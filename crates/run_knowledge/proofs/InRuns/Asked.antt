-- What a request does to a world with the words of a memory.
use Rattle.std.proofs.Common.{◌≡◌, ◌≢◌, ◌∙◌, refl, sym, subst, ap, ℕ, ◌<◌, ◌==◌, if◌then◌else◌, true, false, List, length, inl, inr, ◌⊎◌, arith}
use Rattle.std.proofs.lemmas.Bool.{cases_eq, lt-ltb}
use Rattle.std.proofs.lemmas.Bool.Decides.{nat_tests}
use Rattle.step_memory.specs.declared.steps.Request.{Request}
use Rattle.step_memory.specs.declared.steps.Request.TheVariants.{Load, Store, Exchange, Add}
use Rattle.step_memory.specs.declared.steps.Seen.{Seen}
use Rattle.step_memory.specs.Step.{requested_place, seen_at, seen_of, word_after, words_after}
use Rattle.normal_traits.specs.World.{World}
use Rattle.normal_traits.specs.NormalForm.{NormalForm}
use Rattle.normal_traits.specs.Steps.{Requested, put_word, with_word}
use Rattle.normal_traits.specs.Steps.Requested.{loaded, lost, won}
use Rattle.run_world.specs.Worlds.{asked_beside}
use Rattle.run_world.proofs.Words.Moved.{with_list}
use Rattle.run_world.proofs.Words.WordsAfterMoves.{word_in, words_move}
use Rattle.run_knowledge.specs.InMemory.{AsksInside}

-- a world with these words
abbrev pub of_words : (ℕ → ℕ) → World → World
of_words words world = record { words = words; changes = world.changes; used = world.used; journal = world.journal }

-- what a request tells of a word of the memory
pub seen_inside : (request : Request) (words : List ℕ) → requested_place request < length words → seen_at request (word_in words (requested_place request)) ≡ seen_of request words
unfolding seen_of
seen_inside request words inside =
    let past : Seen = record { before = 0; won = false } in
    ap (λ b. if b then seen_at request (word_in words (requested_place request)) else past) (sym (lt-ltb (requested_place request) (length words) inside))

module _ (words : List ℕ) (world : World) where
  abbrev pub here : World
  here = with_list words world

  abbrev pub made : Request → World
  made request = with_list (words_after request words) here

  -- a load leaves all as it was
  pub load_made : (at : ℕ) → made (Load at) ≡ here
  load_made at = ap (λ (f : ℕ → ℕ). of_words f here) ((words_move (Load at) words).kept refl)

  -- a store, and an addition, put a word
  pub store_made : (at word : ℕ) → at < length words → made (Store at word) ≡ put_word at word here
  store_made at word inside = ap (λ (f : ℕ → ℕ). of_words f here) ((words_move (Store at word) words).written inside)

  pub add_made : (at by : ℕ) → at < length words → made (Add at by) ≡ put_word at (word_after (Add at by) (word_in words at)) here
  add_made at by inside = ap (λ (f : ℕ → ℕ). of_words f here) ((words_move (Add at by) words).written inside)

  -- an exchange finds its word, and puts another, or leaves all as it was
  pub exchange_made : (at from to : ℕ) → at < length words
      → (((seen_of (Exchange at from to) words).won ≡ true) × (word_in words at ≡ from) × (made (Exchange at from to) ≡ put_word at to here))
      ⊎ (((seen_of (Exchange at from to) words).won ≡ false) × (word_in words at ≢ from) × (made (Exchange at from to) ≡ here))
  exchange_made at from to inside =
      let request = Exchange at from to in
      let word = word_in words at in
      elim (cases_eq word from) [
        | inl same ↦
            let test : (word == from) ≡ true = grind (arith, nat_tests) in
            inl (
              ap (λ (s : Seen). s.won) (sym (seen_inside request words inside)) ∙ test,
              same,
              ap (λ (f : ℕ → ℕ). of_words f here) ((words_move request words).written inside ∙ ap (λ b. with_word at (if b then to else word) (word_in words)) test),
            )
        | inr apart ↦
            let test : (word == from) ≡ false = grind (arith, nat_tests) in
            inr (
              ap (λ (s : Seen). s.won) (sym (seen_inside request words inside)) ∙ test,
              apart,
              ap (λ (f : ℕ → ℕ). of_words f here) ((words_move request words).kept (ap (λ b. if b then to else word) test)),
            )
      ]

-- ---- a request of a search or a wrap-up

module _ {S W : Type 0} (form : NormalForm S W) where
  -- the world after a request that saw this
  abbrev Asked : Request → World → (ℕ → ℕ) → Seen → Type 0
  Asked request world words seen = Requested form request world (of_words words (asked_beside form request seen world)) seen

  pub requested : (request : Request) (words : List ℕ) (world : World) → AsksInside request words
      → Asked request (with_list words world) (word_in (words_after request words)) (seen_of request words)
  requested (Load at) words world asks =
      subst (Asked (Load at) (with_list words world) (word_in (words_after (Load at) words))) (seen_inside (Load at) words asks)
      (subst (λ (f : ℕ → ℕ). Asked (Load at) (with_list words world) f (seen_at (Load at) (word_in words at))) (sym ((words_move (Load at) words).kept refl)) (loaded at))
  requested (Store at value) words world asks = absurd asks
  requested (Add at by) words world asks = absurd asks
  requested (Exchange at from to) words world asks =
      let request = Exchange at from to in
      let word = word_in words at in
      subst (Asked request (with_list words world) (word_in (words_after request words))) (seen_inside request words asks.0)
      (elim (cases_eq word from) [
        | inl same ↦
            let test : (word == from) ≡ true = grind (arith, nat_tests) in
            let after : with_word at to (word_in words) ≡ word_in (words_after request words) =
            sym ((words_move request words).written asks.0 ∙ ap (λ b. with_word at (if b then to else word) (word_in words)) test) in
            let ends : Asked request (with_list words world) (with_word at to (word_in words)) (record { before = from; won = true }) = won at from to same (asks.1 same) in
            let seen : Seen = record { before = from; won = true } in
            let told : seen ≡ seen_at request word =
            ap (λ n. let s : Seen = record { before = n; won = true } in s) (sym same) ∙ ap (λ b. let s : Seen = record { before = word; won = b } in s) (sym test) in
            subst (Asked request (with_list words world) (word_in (words_after request words))) told
            (subst (λ (f : ℕ → ℕ). Asked request (with_list words world) f seen) after ends)
        | inr apart ↦
            let test : (word == from) ≡ false = grind (arith, nat_tests) in
            let after : word_in words ≡ word_in (words_after request words) = sym ((words_move request words).kept (ap (λ b. if b then to else word) test)) in
            let seen : Seen = record { before = word; won = false } in
            let ends : Asked request (with_list words world) (word_in words) seen = lost at from to apart in
            let told : seen ≡ seen_at request word = ap (λ b. let s : Seen = record { before = word; won = b } in s) (sym test) in
            subst (Asked request (with_list words world) (word_in (words_after request words))) told
            (subst (λ (f : ℕ → ℕ). Asked request (with_list words world) f seen) after ends)
      ])
