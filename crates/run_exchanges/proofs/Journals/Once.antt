-- Each won exchange of a list is that of its entry, and no entry of lists of one identity has two.
use Rattle.std.proofs.Common.{◌≡◌, ◌≢◌, ◌∙◌, refl, sym, subst, ap, ℕ, suc, List, [], ◌∷◌, slice_get, Some, All, AllPairs, inl, inr, arith}
use Rattle.std.proofs.lemmas.List.Elements.{All-cons, All-nil}
use Rattle.normal_traits.specs.declared.lists.Entry.{Entry}
use Rattle.normal_traits.specs.World.{Among, Listed, Won}
use Rattle.normal_traits.specs.World.Maker.{By, Beside}
use Rattle.normal_traits.specs.NormalForm.{NormalForm}
use Rattle.normal_traits.specs.Laws.{Laws}
use Rattle.fast_slow_engine.specs.declared.setup.Setup.{Setup}
use Rattle.fast_slow_engine.specs.Runs.{Move, AreMoves}
use Rattle.run_laws.proofs.Pairs.{pairs_cons, pairs_nil}
use Rattle.run_invariant.specs.RunGhosts.{world_of}
use Rattle.run_invariant.specs.Kept.{RunsAreKept}
use Rattle.run_invariant.proofs.Names.Journal.{journal_identities}
use Rattle.run_invariant.proofs.InRuns.MovesInRuns.{moved}
use Rattle.run_exchanges.specs.Exchanges.{IsOfItsEntry}
use Rattle.run_exchanges.specs.Journals.{AreApart, WinsOnce}
use Rattle.run_exchanges.proofs.Changes.Adds.{Adds, none, aside, serves, adds, all_of}
use Rattle.run_exchanges.proofs.Changes.Items.{item_of}
use Rattle.run_exchanges.proofs.Journals.Obey.{obeys}

pub all_among : {X : Type 0} (P : X → Type 0) (xs : List X) → ((x : X) → Among x xs → P x) → All P xs
all_among P [] each = All-nil P
all_among P (x ∷ xs) each = All-cons P x xs (each x (inl refl)) (all_among P xs (λ y among. each y (inr among)))

pub no_maker : {A : Type 0} (list : Listed) (j : ℕ) → Beside ≡ By list j → A
no_maker list j e = absurd cc

pub same_maker : (list other : Listed) (i j : ℕ) → By list i ≡ By other j → (list ≡ other) × (i ≡ j)
same_maker list other i j e = (cc, cc)

same_entry : (a b : Entry) → Some a ≡ Some b → a ≡ b
same_entry a b e = cc

-- an item of an entry
item_entry : (list : Listed) (j : ℕ) (won : Won) (entry : Entry) → slice_get list.entries j ≡ Some entry → won.place ≡ entry.target → won.before ≡ entry.from → won.after ≡ entry.to → (other : Listed) (k : ℕ) → By list j ≡ By other k
    → slice_get other.entries k ≡ Some (record { target = won.place; from = won.before; to = won.after })
item_entry list j won entry at place before to other k same =
    let both = same_maker list other j k same in
    let there : slice_get other.entries k ≡ Some entry = subst (λ (l : Listed). slice_get l.entries k ≡ Some entry) both.0 (subst (λ i. slice_get list.entries i ≡ Some entry) both.1 at) in
    there ∙ (λ i. Some (record { target = sym place i; from = sym before i; to = sym to i }))

module _ {S W : Type 0} (form : NormalForm S W) (laws : Laws form) (kept : RunsAreKept form) where
  listed_more : {setup : Setup} {older : List Move} {move : Move} → Adds form setup older move → All IsOfItsEntry (world_of form setup older).journal → All IsOfItsEntry (world_of form setup (move ∷ older)).journal
  listed_more (none journal changes) old = subst (All IsOfItsEntry) (sym journal) old
  listed_more {setup} {older} {move} (aside entry cause list journal changes served) old =
      subst (All IsOfItsEntry) (sym journal) (All-cons IsOfItsEntry (item_of Beside entry cause) (world_of form setup older).journal (λ other j by. no_maker other j by) old)
  listed_more {setup} {older} {move} (serves list j entry cause keeper at behind journal changes has served) old =
      subst (All IsOfItsEntry) (sym journal) (All-cons IsOfItsEntry (item_of (By list j) entry cause) (world_of form setup older).journal
      (λ other k by. item_entry list j (item_of (By list j) entry cause) entry at refl refl refl other k by) old)

  -- each is the exchange of its entry
  pub each_entrys : (setup : Setup) (moves : List Move) → AreMoves form setup moves → All IsOfItsEntry (world_of form setup moves).journal
  each_entrys setup [] are = All-nil IsOfItsEntry
  each_entrys setup (move ∷ older) are = listed_more (adds form (moved form laws kept setup older move are)) (each_entrys setup older are.0)

  module _ (setup : Setup) (older : List Move) (move : Move) (are : AreMoves form setup (move ∷ older)) where
    -- two exchanges of one entry would be of one word at one place
    entry_once : (won mate : Won) (list other : Listed) (j : ℕ) (entry : Entry) → (world_of form setup (move ∷ older)).journal ≡ won ∷ (world_of form setup older).journal → slice_get list.entries j ≡ Some entry
        → won.place ≡ entry.target → won.before ≡ entry.from → Among mate (world_of form setup older).journal → mate.maker ≡ By other j → list ≡ other → ⊥
    entry_once won mate list other j entry journal at place before among maker same =
        let is = all_of IsOfItsEntry (world_of form setup older).journal mate (each_entrys setup older are.0) among other j maker in
        let one = same_entry entry (record { target = mate.place; from = mate.before; to = mate.after }) (sym (subst (λ (l : Listed). slice_get l.entries j ≡ Some entry) same at) ∙ is) in
        let pairs = subst (AllPairs (λ (a b : Won). a.place ≡ b.place → a.before ≢ b.before)) journal (obeys form laws kept setup (move ∷ older) are).once_from in
        all_of (λ (b : Won). won.place ≡ b.place → won.before ≢ b.before) (world_of form setup older).journal mate (λ k d inside. pairs 0 (suc k) d (omega arith) (omega (arith, inside))) among
        (place ∙ ap (λ (e : Entry). e.target) one) (before ∙ ap (λ (e : Entry). e.from) one)

    apart_more : Adds form setup older move → AllPairs AreApart (world_of form setup older).journal → AllPairs AreApart (world_of form setup (move ∷ older)).journal
    apart_more (none journal changes) old = subst (λ l. AllPairs AreApart l) (sym journal) old
    apart_more (aside entry cause list journal changes served) old =
        subst (λ l. AllPairs AreApart l) (sym journal) (pairs_cons AreApart (item_of Beside entry cause) (world_of form setup older).journal
        (all_among (AreApart (item_of Beside entry cause)) (world_of form setup older).journal (λ mate among one other j by maker. no_maker one j by)) old)
    apart_more (serves list k entry cause keeper at behind journal changes has served) old =
        subst (λ l. AllPairs AreApart l) (sym journal) (pairs_cons AreApart (item_of (By list k) entry cause) (world_of form setup older).journal
        (all_among (AreApart (item_of (By list k) entry cause)) (world_of form setup older).journal
        (λ mate among one other j by maker identity.
        (let both = same_maker list one k j by in
        let mine : list ≡ other = (journal_identities form setup older mate other j among maker).own keeper list has (ap (λ (l : Listed). l.identity) both.0 ∙ identity) in
        entry_once (item_of (By list k) entry cause) mate list other j entry journal (subst (λ i. slice_get list.entries i ≡ Some entry) both.1 at) refl refl among maker mine))) old)

  pub wins_once : WinsOnce form
  wins_once setup [] are = pairs_nil AreApart
  wins_once setup (move ∷ older) are = apart_more setup older move are (adds form (moved form laws kept setup older move are)) (wins_once setup older are.0)
