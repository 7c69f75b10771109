-- Two entries that took effect at one place with the same `to` are one entry.
use Rattle.std.proofs.Common.{◌≡◌, ◌∙◌, sym, ap, ℕ, Bool, true, false, Some, arith}
use Rattle.word_fields.specs.Versioned.{versioned_bit, versioned_version, marked_word, cleared_word}
use Rattle.word_fields.proofs.ChangedWords.{cleared-clear, cleared-marked}
use Rattle.normal_traits.specs.declared.lists.Entry.{Entry}
use Rattle.normal_traits.specs.World.{Listed, Won, World, Took}
use Rattle.normal_traits.specs.World.Maker.{By}
use Rattle.cas_executor_laws.specs.ExecRuns.{IsEntry}
use Rattle.cas_executor_laws.specs.Entries.{IsRaised}
use Rattle.offered_blocks.specs.Blocks.{JournalRises}

-- nothing is both true and false
pub both : {A : Type 0} (b : Bool) → b ≡ true → b ≡ false → A
both b t f = absurd cc

-- words with clear bits are told apart by the words with the bit set
pub marked_same : (a b : ℕ) → versioned_bit a ≡ 0 → versioned_bit b ≡ 0 → marked_word a ≡ marked_word b → a ≡ b
marked_same a b clear clear' same = sym (cleared-clear a clear) ∙ sym (cleared-marked a) ∙ ap cleared_word same ∙ cleared-marked b ∙ cleared-clear b clear'

some_entry : (a b : Entry) → Some a ≡ Some b → a ≡ b
some_entry a b e = cc

pub same_by : (list other : Listed) (i j : ℕ) → By list i ≡ By other j → (list ≡ other) × (i ≡ j)
same_by list other i j e = (cc, cc)

pub one_taken : (world : World) (list other : Listed) (i j : ℕ) (first second : Entry) → JournalRises world → Took world list i → Took world other j → IsEntry list.entries i first → IsEntry other.entries j second
    → IsRaised first → IsRaised second → first.target ≡ second.target → first.to ≡ second.to → (list ≡ other) × (i ≡ j)
one_taken world list other i j first second rises took took' listed listed' raised raised' target to =
    let a : took.entry ≡ first = some_entry took.entry first (sym took.listed ∙ listed) in
    let b : took'.entry ≡ second = some_entry took'.entry second (sym took'.listed ∙ listed') in
    let place : took.entry.target ≡ took'.entry.target = ap (λ (e : Entry). e.target) a ∙ target ∙ sym (ap (λ (e : Entry). e.target) b) in
    let va : versioned_version took.entry.from ≡ versioned_version first.from = ap (λ (e : Entry). versioned_version e.from) a in
    let vb : versioned_version took'.entry.from ≡ versioned_version second.from = ap (λ (e : Entry). versioned_version e.from) b in
    let v : versioned_version first.to ≡ versioned_version second.to = ap versioned_version to in
    let same = rises.one _ _ took.won took'.won place (omega (arith, va, vb, v, raised.version, raised'.version)) in
    same_by list other i j (ap (λ (w : Won). w.maker) same)
