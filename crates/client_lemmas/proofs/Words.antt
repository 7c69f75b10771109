-- Words: one that is put at a place, what becomes of a versioned word, and its parts.
use Rattle.std.proofs.Common.{◌≡◌, ◌≢◌, ℕ, ◌^◌, ◌≤◌, ◌<◌, Bool, true, false, refl, sym, ap, ◌∙◌, subst, inl, inr, ◌⊎◌, arith}
use Rattle.std.proofs.lemmas.Bool.{true≢false, cases_eq, eqb-false}
use Rattle.word_fields.specs.Versioned.{versioned_value, versioned_bit, versioned_version, cleared_word, is_modified}
use Rattle.word_fields.proofs.ChangedWords.{bit_below, version-cleared, cleared-clear}
use Rattle.normal_traits.specs.declared.lists.Entry.{Entry}
use Rattle.normal_traits.specs.World.{World, is_word}
use Rattle.normal_traits.specs.Steps.{IsExchanged, with_word}
use Rattle.normal_traits.proofs.Stays.{word_put, word_beside}

-- ---- a word that is put

-- it stands at its place; of another place `word_beside` says that its word stays
pub same_place : (place word : ℕ) (words : ℕ → ℕ) → with_word place word words place ≡ word
same_place place word words = word_put place word words place refl

-- a client's word stands at no place that isn't one
pub not_word : (is_root : ℕ → Bool) (world : World) (place at : ℕ) → is_word is_root world place ≡ false → is_word is_root world at ≡ true → at ≢ place
not_word is_root world place at none some e = true≢false (sym some ∙ ap (is_word is_root world) e ∙ none)

-- so a word that is put at no client's place leaves the client's words
pub beside_word : (is_root : ℕ → Bool) (world : World) (put word : ℕ) → is_word is_root world put ≡ false → (place : ℕ) → is_word is_root world place ≡ true → with_word put word world.words place ≡ world.words place
beside_word is_root world put word none place some = word_beside put word world.words place (not_word is_root world put place none some)

-- what holds of the word that is put and of each that stays holds of all
pub all_put : (P : ℕ → ℕ → Type 0) → ((word : ℕ) → P word word) → (words : ℕ → ℕ) (place word : ℕ) → P (words place) word → (at : ℕ) → P (words at) (with_word place word words at)
all_put P stay words place word new at = by_place (cases_eq at place)
  where
    by_place : (at ≡ place) ⊎ (at ≡ place → ⊥) → P (words at) (with_word place word words at)
    by_place (inl here) = subst (λ p. P (words p) (with_word place word words p)) (sym here) (subst (P (words place)) (sym (same_place place word words)) new)
    by_place (inr differs) = subst (P (words at)) (sym (word_beside place word words at differs)) (stay (words at))

-- ---- what becomes of a versioned word

-- it stays, has its bit cleared, or gets a higher version
abbrev pub Rises : ℕ → ℕ → Type 0
Rises word after = (after ≡ word) ⊎ ((after ≡ cleared_word word) ⊎ (versioned_version word < versioned_version after))

-- so its version never falls
pub rises_version : (word after : ℕ) → Rises word after → versioned_version word ≤ versioned_version after
rises_version word after (inl same) = omega (arith, ap versioned_version same)
rises_version word after (inr (inl cleared)) = omega (arith, ap versioned_version cleared, version-cleared word)
rises_version word after (inr (inr higher)) = omega arith

-- and a word that was seen there with its bit clear still stands, or is passed
pub rises_seen : (word after seen : ℕ) → Rises word after → versioned_bit seen ≡ 0 → (word ≡ seen) ⊎ (versioned_version seen < versioned_version word) → (after ≡ seen) ⊎ (versioned_version seen < versioned_version after)
rises_seen word after seen rises clear (inr past) = inr (omega (arith, rises_version word after rises))
rises_seen word after seen (inl same) clear (inl at) = inl (same ∙ at)
rises_seen word after seen (inr (inl cleared)) clear (inl at) = inl (cleared ∙ ap cleared_word at ∙ cleared-clear seen clear)
rises_seen word after seen (inr (inr higher)) clear (inl at) = inr (omega (arith, ap versioned_version at))

-- a word rises where each is left, or replaced by one that it may become
pub rises_at : (words : ℕ → ℕ) (place word : ℕ) → Rises (words place) word → (at : ℕ) → Rises (words at) (with_word place word words at)
rises_at = all_put Rises (λ word. inl refl)

-- an entry's exchanged word has risen
pub exchanged_rises : (world : World) (entry : Entry) (word : ℕ) → world.words entry.target ≡ entry.from → IsExchanged entry word → Rises (world.words entry.target) word
exchanged_rises world entry word same exchanged =
    inr (inr (omega (arith, ap versioned_version same, ap versioned_version exchanged.to, version-cleared word, exchanged.raised)))

-- ---- parts of a word

-- a word whose bit isn't set has it clear
pub clear_from : (word : ℕ) → is_modified word ≡ false → versioned_bit word ≡ 0
clear_from word e = omega (arith, bit_below word, eqb-false (versioned_bit word) 1 e)

-- a small number is the versioned word of itself, with a clear bit and version 0
pub value_small : (n : ℕ) → n < 2 ^ 24 → versioned_value n ≡ n
unfolding versioned_value
value_small n low = omega (arith, low)

pub zero_bit : versioned_bit 0 ≡ 0
unfolding versioned_bit
zero_bit = omega arith
