-- What a request has exchanged, won or not, and what the journal tells of it.
use Rattle.std.proofs.Common.{◌≡◌, ◌≢◌, ◌∙◌, refl, sym, subst, ap, ℕ, ◌+◌, ◌<◌, ◌==◌, ◌||◌, ◌&&◌, not, nat_le, if◌then◌else◌, Bool, true, false, List, [], ◌∷◌, ◌++◌, map, ◌⊎◌, inl, inr, arith, ◌≤◌}
use Rattle.std.proofs.lemmas.Bool.Decides.{nat_tests}
use Rattle.step_memory.specs.declared.steps.Request.{Request}
use Rattle.step_memory.specs.declared.steps.Request.TheVariants.{Load, Store, Exchange, Add}
use Rattle.word_fields.specs.Versioned.{cleared_word, versioned_version}
use Rattle.normal_traits.specs.declared.lists.Entry.{Entry}
use Rattle.normal_traits.specs.World.{Cause, Maker, World}
use Rattle.run_exchanges.specs.Exchanges.{IsCleared, WonExchange, changes_version, exchanged_by, is_clients_place, told_exchange}
use Rattle.run_exchanges.proofs.Changes.Items.{item_of}
use Rattle.node_arena.specs.MemoryMap.{is_root_place, MayBeClients}

all_three : (a b c : Bool) → a ≡ true → b ≡ true → c ≡ true → (a && b && c) ≡ true
all_three true true c one two three = three
all_three true false c one two three = absurd cc
all_three false b c one two three = absurd cc

first_off : (a b c : Bool) → a ≡ false → (a && b && c) ≡ false
first_off true b c off = absurd cc
first_off false b c off = refl

second_off : (a b c : Bool) → b ≡ false → (a && b && c) ≡ false
second_off true true c off = absurd cc
second_off true false c off = refl
second_off false b c off = refl

third_off : (a b c : Bool) → c ≡ false → (a && b && c) ≡ false
third_off true true c off = off
third_off true false c off = refl
third_off false b c off = refl

or_first : (a b : Bool) → a ≡ true → (a || b) ≡ true
or_first true b on = refl
or_first false b on = absurd cc

or_second : (a b : Bool) → b ≡ true → (a || b) ≡ true
or_second true b on = refl
or_second false b on = on

none_of : (a b : Bool) → a ≡ false → b ≡ false → (a || b) ≡ false
none_of true b one two = absurd cc
none_of false b one two = two

root_of : (place : ℕ) → 20 ≤ place → place < 24 → is_root_place place ≡ true
root_of place from below = grind (arith, nat_tests, from, below)

-- a place of the client is one, and none below the roots is
clients : (place : ℕ) → MayBeClients place → is_clients_place place ≡ true
clients place (inl root) = or_first (is_root_place place) (nat_le 32 place) (root_of place root.0 root.1)
clients place (inr behind) = or_second (is_root_place place) (nat_le 32 place) (grind (arith, nat_tests, behind))

not_clients : (place : ℕ) → place < 20 → is_clients_place place ≡ false
not_clients place low = none_of (is_root_place place) (nat_le 32 place) (grind (arith, nat_tests, low)) (grind (arith, nat_tests, low))

raised_changes : (from to : ℕ) → versioned_version to ≡ versioned_version from + 1 → changes_version from to ≡ true
raised_changes from to raised = ap not (let off : (versioned_version to == versioned_version from) ≡ false = grind (arith, nat_tests, raised) in off)

same_changes : (from to : ℕ) → versioned_version to ≡ versioned_version from → changes_version from to ≡ false
same_changes from to same = ap not (let on : (versioned_version to == versioned_version from) ≡ true = grind (arith, nat_tests, same) in on)

if_one : (b : Bool) (e : WonExchange) → b ≡ true → (if b then e ∷ [] else []) ≡ e ∷ []
if_one true e on = refl
if_one false e on = absurd cc

if_none : (b : Bool) (e : WonExchange) → b ≡ false → (if b then e ∷ [] else []) ≡ []
if_none true e off = absurd cc
if_none false e off = refl

same_from : (at from to at' from' to' : ℕ) → Exchange at from to ≡ Exchange at' from' to' → (at ≡ at') × (from ≡ from') × (to ≡ to')
same_from at from to at' from' to' e = (cc, cc, cc)

module _ (is_versioned : ℕ → Bool) where
  -- what a move has asked, won or not, and what that did to the journal: it was no exchange, it was lost, it was none of a
  -- versioned word of the client, it cleared a bit, or the journal has it
  pub data Asked (request : Request) (won : Bool) (world after : World) : Type 0 where
    none : ((at from to : ℕ) → request ≢ Exchange at from to) → after.journal ≡ world.journal → Asked request won world after
    lost : won ≡ false → after.journal ≡ world.journal → Asked request won world after
    elsewhere : (at from to : ℕ) → request ≡ Exchange at from to → (at < 20) ⊎ (is_versioned at ≡ false) → after.journal ≡ world.journal → Asked request won world after
    clears : (at from to : ℕ) → request ≡ Exchange at from to → versioned_version to ≡ versioned_version from → IsCleared from to → after.journal ≡ world.journal → Asked request won world after
    wins : (maker : Maker) (entry : Entry) (cause : Cause) (to : ℕ) → request ≡ Exchange entry.target entry.from to → won ≡ true → MayBeClients entry.target → is_versioned entry.target ≡ true
        → versioned_version to ≡ versioned_version entry.from + 1 → cleared_word to ≡ entry.to → after.journal ≡ item_of maker entry cause ∷ world.journal → Asked request won world after

  -- ---- so the journal tells what was exchanged

  -- what the journal tells after a step is what that has exchanged, and what it told before
  abbrev pub TellsStep : Request → Bool → World → World → Type 0
  TellsStep request won world after = map told_exchange after.journal ≡ exchanged_by is_versioned request won ++ map told_exchange world.journal

  tells_none : (request : Request) (won : Bool) (world after : World) → exchanged_by is_versioned request won ≡ [] → after.journal ≡ world.journal → TellsStep request won world after
  tells_none request won world after nothing same = ap (λ j. map told_exchange j) same ∙ ap (λ (l : List WonExchange). l ++ map told_exchange world.journal) (sym nothing)

  not_exchanged : (request : Request) (won : Bool) → ((at from to : ℕ) → request ≢ Exchange at from to) → exchanged_by is_versioned request won ≡ []
  not_exchanged (Load at) won other = refl
  not_exchanged (Store at word) won other = refl
  not_exchanged (Exchange at from to) won other = absurd (other at from to refl)
  not_exchanged (Add at by) won other = refl

  lost_exchanged : (request : Request) (won : Bool) → won ≡ false → exchanged_by is_versioned request won ≡ []
  lost_exchanged (Load at) won off = refl
  lost_exchanged (Store at word) won off = refl
  lost_exchanged (Exchange at from to) won off = ap (λ b. exchanged_by is_versioned (Exchange at from to) b) off
  lost_exchanged (Add at by) won off = refl

  -- the tests of an exchange at other places, and of one that leaves the version
  untold : (at from to : ℕ) (won : Bool) → (is_clients_place at && is_versioned at && changes_version from to) ≡ false → exchanged_by is_versioned (Exchange at from to) won ≡ []
  untold at from to true off = if_none (is_clients_place at && is_versioned at && changes_version from to) _ off
  untold at from to false off = refl

  elsewhere_off : (at from to : ℕ) → (at < 20) ⊎ (is_versioned at ≡ false) → (is_clients_place at && is_versioned at && changes_version from to) ≡ false
  elsewhere_off at from to (inl low) = first_off (is_clients_place at) (is_versioned at) (changes_version from to) (not_clients at low)
  elsewhere_off at from to (inr plain) = second_off (is_clients_place at) (is_versioned at) (changes_version from to) plain

  exchanged_one : (at from to : ℕ) → MayBeClients at → is_versioned at ≡ true → versioned_version to ≡ versioned_version from + 1
      → exchanged_by is_versioned (Exchange at from to) true ≡ (let e : WonExchange = record { place = at; before = from; after = cleared_word to } in e ∷ [])
  exchanged_one at from to here versioned raised =
      if_one (is_clients_place at && is_versioned at && changes_version from to) _ (all_three (is_clients_place at) (is_versioned at) (changes_version from to) (clients at here) versioned (raised_changes from to raised))

  pub tells : (request : Request) (won : Bool) (world after : World) → Asked request won world after → TellsStep request won world after
  tells request won world after (none other same) = tells_none request won world after (not_exchanged request won other) same
  tells request won world after (lost off same) = tells_none request won world after (lost_exchanged request won off) same
  tells request won world after (elsewhere at from to is apart same) =
      tells_none request won world after (ap (λ r. exchanged_by is_versioned r won) is ∙ untold at from to won (elsewhere_off at from to apart)) same
  tells request won world after (clears at from to is version cleared same) =
      tells_none request won world after (ap (λ r. exchanged_by is_versioned r won) is ∙ untold at from to won (third_off (is_clients_place at) (is_versioned at) (changes_version from to) (same_changes from to version))) same
  tells request won world after (wins maker entry cause to is on here versioned raised clear journal) =
      ap (λ j. map told_exchange j) journal
      ∙ ap (λ w. (let e : WonExchange = record { place = entry.target; before = entry.from; after = w } in e ∷ map told_exchange world.journal)) (sym clear)
      ∙ ap (λ (l : List WonExchange). l ++ map told_exchange world.journal) (sym (exchanged_one entry.target entry.from to here versioned raised))
      ∙ ap (λ b. exchanged_by is_versioned (Exchange entry.target entry.from to) b ++ map told_exchange world.journal) (sym on)
      ∙ ap (λ r. exchanged_by is_versioned r won ++ map told_exchange world.journal) (sym is)

  -- ---- and what it doesn't tell has but cleared a bit

  not_both : {A : Type 0} (b : Bool) → b ≡ true → b ≡ false → A
  not_both true on off = absurd cc
  not_both false on off = absurd cc

  pub only_clears : (request : Request) (won : Bool) (world after : World) → Asked request won world after → (at from to : ℕ) → request ≡ Exchange at from to → won ≡ true → is_clients_place at ≡ true → is_versioned at ≡ true
      → versioned_version to ≡ versioned_version from → IsCleared from to
  only_clears request won world after (none other same) at from to asks on here versioned version = absurd (other at from to asks)
  only_clears request won world after (lost off same) at from to asks on here versioned version = not_both won on off
  only_clears request won world after (elsewhere at' from' to' is apart same) at from to asks on here versioned version =
      let at_is : at' ≡ at = (same_from at' from' to' at from to (sym is ∙ asks)).0 in
      elim apart [
        | inl low ↦ not_both (is_clients_place at) here (not_clients at (omega (arith, low, at_is)))
        | inr plain ↦ not_both (is_versioned at) versioned (ap is_versioned (sym at_is) ∙ plain)
      ]
  only_clears request won world after (clears at' from' to' is version' cleared same) at from to asks on here versioned version =
      let same' = same_from at' from' to' at from to (sym is ∙ asks) in
      subst (λ f. IsCleared f to) same'.1 (subst (IsCleared from') same'.2 cleared)
  only_clears request won world after (wins maker entry cause to' is on' here' versioned' raised clear journal) at from to asks on here versioned version =
      let same' = same_from entry.target entry.from to' at from to (sym is ∙ asks) in
      let low = ap versioned_version same'.1 in
      let high = ap versioned_version same'.2 in
      absurd (omega (arith, raised, version, low, high))
