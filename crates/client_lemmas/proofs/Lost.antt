-- Lists whose first entry is lost for ever: a list that stopped at it is one, and stays one; it has made no change.
use Rattle.std.proofs.Common.{◌≡◌, ◌≢◌, ℕ, ◌<◌, List, length, Some, sym, ap, ◌∙◌, subst, inl, inr, ◌⊎◌, arith}
use Rattle.std.specs.Prelude.{slice_get}
use Rattle.word_fields.specs.Versioned.{versioned_version}
use Rattle.normal_traits.specs.declared.lists.Entry.{Entry}
use Rattle.normal_traits.specs.World.{Listed, Change, World, Among, Took, Failed, Stopped}
use Rattle.normal_traits.specs.NormalForm.{NormalForm}
use Rattle.normal_traits.specs.Steps.{IsOffered}
use Rattle.normal_traits.specs.Laws.{IsGoodEntry, IsGoodOffer}
use Rattle.normal_traits.proofs.Stays.{all_at}
use Rattle.client_lemmas.specs.Made.{AreMade}
use Rattle.client_lemmas.specs.Lost.{IsLost}
use Rattle.client_lemmas.proofs.Words.{rises_version}
use Rattle.client_lemmas.proofs.Places.{word_still}
use Rattle.client_lemmas.proofs.Entries.{same_entry}
use Rattle.client_lemmas.proofs.Later.{Later, FindsWord}

module _ {S W : Type 0} (form : NormalForm S W) where
  -- the first entry of a lost list can't win
  pub lost_first : (world : World) (list : Listed) (entry : Entry) → IsLost form.is_root form.is_versioned list world → slice_get list.entries 0 ≡ Some entry → world.words entry.target ≢ entry.from
  lost_first world list entry dead listed at =
      let same : dead.entry ≡ entry = same_entry list.entries 0 dead.entry entry dead.listed listed in
      let there : world.words dead.entry.target ≡ dead.entry.from = subst (λ (e : Entry). world.words e.target ≡ e.from) (sym same) at in
      omega (arith, dead.passed, ap versioned_version there)

  -- each change is of a list that took effect, so of no lost one
  pub lost_unchanged : (world : World) (list : Listed) (change : Change) → AreMade world → IsLost form.is_root form.is_versioned list world → Among change world.changes → change.list ≢ list
  lost_unchanged world list change made dead among same = dead.lost (subst (λ (other : Listed). Took world other 0) same (made.took change among))

  -- whatever anyone does a lost list stays so
  pub lost_later : (Extends : List Change → List Change → Type 0) (Moves : ℕ → ℕ → Type 0) (world after : World) (list : Listed) → Later form Extends Moves world after → IsLost form.is_root form.is_versioned list world → IsLost form.is_root form.is_versioned list after
  lost_later Extends Moves world after list kept dead =
      record {
        entry = dead.entry;
        listed = dead.listed;
        word = word_still form.is_root world after kept.used dead.entry.target dead.word;
        versioned = dead.versioned;
        passed = omega (arith, dead.passed, rises_version (world.words dead.entry.target) (after.words dead.entry.target) (kept.rises dead.entry.target dead.word dead.versioned));
        lost = λ t. by_took (kept.took list 0 t);
      }
    where
      by_took : ¬ (Took world list 0 ⊎ FindsWord world list 0)
      by_took (inl before) = dead.lost before
      by_took (inr found) = lost_first world list found.0 dead found.1 found.2

  -- a list of a good offer has an entry, and is lost where its first one failed
  module _ (world : World) (list : Listed) (search : S) (since : ℕ) (offered : IsOffered form world list search since) (good : IsGoodOffer form world list.block (form.offer_of search list.call.op list.block)) where
    pub some_entry : 0 < length list.entries
    some_entry = subst (λ (entries : List Entry). 0 < length entries) (sym offered.entries) good.some

    pub failed_lost : Failed world list 0 → IsLost form.is_root form.is_versioned list world
    failed_lost failed =
        let entry = all_at (IsGoodEntry form world) (form.offer_of search list.call.op list.block).entries 0 failed.entry good.entries (ap (λ (entries : List Entry). slice_get entries 0) (sym offered.entries) ∙ failed.listed) in
        record { entry = failed.entry; listed = failed.listed; word = entry.word; versioned = entry.versioned; passed = failed.passed; lost = failed.lost }

    pub stopped_lost : (stop : ℕ) → stop ≡ 0 → Stopped world list stop → IsLost form.is_root form.is_versioned list world
    stopped_lost stop none stopped = failed_lost (subst (Failed world list) none (stopped.failed (omega (arith, none, some_entry))))
