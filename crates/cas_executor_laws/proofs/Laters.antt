-- What any number of acts leaves of an entry.
use Rattle.std.proofs.Common.{◌∙◌, refl, sym, subst, ℕ, ◌+◌, if◌then◌else◌, List, [], ◌∷◌, ◌++◌}
use Rattle.normal_traits.specs.declared.lists.Entry.{Entry}
use Rattle.cas_executor_laws.specs.ExecRuns.{ExecSetup, Act, CanOpen, AreActs, IsEntry, stepped_by, wins, wins_by, world_of}
use Rattle.cas_executor_laws.specs.ExecRuns.Act.{Steps, Changes}
use Rattle.cas_executor_laws.specs.Entries.{View, Later}
use Rattle.cas_executor_laws.specs.Parts.{view_in}
use Rattle.cas_executor_laws.proofs.Memories.{memory_of}
use Rattle.cas_executor_laws.proofs.SitesInside.{site_of}
use Rattle.cas_executor_laws.proofs.Kept.{took_of, kept, run_later, change_later}

-- an entry of a world
abbrev pub seen_in : ExecSetup → List Act → ℕ → Entry → View
seen_in setup acts j entry = view_in (site_of setup) (memory_of (world_of setup acts).words) (took_of (wins setup acts)) j entry

later_same : (entry : Entry) (view : View) → Later entry view view
later_same entry view = record { decided = λ some. refl; taken = λ is. is; past = λ past. past; gone = λ past gone. gone; missed = λ past isnt. isnt }

later_more : (entry : Entry) (old mid new : View) → Later entry old mid → Later entry mid new → Later entry old new
later_more entry old mid new first second =
    record {
      decided = λ some. second.decided (λ e. some (sym (first.decided some) ∙ e)) ∙ first.decided some;
      taken = λ is. second.taken (first.taken is);
      past = λ past. second.past (first.past past);
      gone = λ past gone. second.gone (first.past past) (first.gone past gone);
      missed = λ past isnt. second.missed (first.past past) (first.missed past isnt);
    }

module _ (setup : ExecSetup) (can : CanOpen setup) where
  act_later : (act : Act) (older : List Act) → AreActs setup (act ∷ older) → (j : ℕ) (entry : Entry) → IsEntry setup.entries j entry → Later entry (seen_in setup older j entry) (seen_in setup (act ∷ older) j entry)
  act_later (Steps at) older are j entry listed =
      let state = world_of setup older in
      let count = wins setup older in
      subst (λ o. Later entry (view_in (site_of setup) (memory_of state.words) (took_of count) j entry)
      (view_in (site_of setup) (memory_of (stepped_by at o state).words) (took_of (λ i. if wins_by i o state.words then count i + 1 else count i)) j entry)) (sym are.1.here)
      (run_later setup can state count (kept setup can older are.0) at are.1.helper are.1.here are.1.running j entry listed)
  act_later (Changes at value) older are j entry listed = change_later setup can (world_of setup older) (wins setup older) (kept setup can older are.0) at value are.1 j entry listed

  pub acts_later : (newer older : List Act) → AreActs setup (newer ++ older) → (j : ℕ) (entry : Entry) → IsEntry setup.entries j entry → Later entry (seen_in setup older j entry) (seen_in setup (newer ++ older) j entry)
  acts_later [] older are j entry listed = later_same entry (seen_in setup older j entry)
  acts_later (act ∷ newer) older are j entry listed =
      later_more entry (seen_in setup older j entry) (seen_in setup (newer ++ older) j entry) (seen_in setup (act ∷ (newer ++ older)) j entry)
      (acts_later newer older are.0 j entry listed) (act_later act (newer ++ older) are j entry listed)
