-- Which block a machine must have in hand for its own call, by its phase.
use Rattle.std.specs.Prelude.{◌≡◌, true, false, ◌⊎◌, Option, Some, None}
use Rattle.lin_report.specs.declared.calls.Op.{Op}
use Rattle.normal_traits.specs.NormalForm.{NormalForm}
use Rattle.fast_slow_engine.specs.declared.phases.Phase.{Phase}
use Rattle.fast_slow_engine.specs.declared.phases.Phase.TheVariants as phase
use Rattle.fast_slow_engine.specs.declared.phases.Generating.TheVariants.{Search}
use Rattle.fast_slow_engine.specs.declared.phases.Applying.TheVariants.{Fill, Execute}
use Rattle.fast_slow_engine.specs.Mechs.{Mech}
use Rattle.helper_knowledge.specs.Carried.{OfSome}
use Rattle.run_world.specs.Ghosts.{Held}

-- the block of the held list is in hand
abbrev pub HasBlock : {S W : Type 0} → Mech S W → Option (Held S) → Type 0
HasBlock mech held = OfSome (λ (h : Held _). mech.hand ≡ Some h.list.block) held

-- the held list uses no block
abbrev pub UsesNone : {S : Type 0} → Option (Held S) → Type 0
UsesNone held = OfSome (λ (h : Held _). h.list.block ≡ 0) held

module _ {S W : Type 0} (form : NormalForm S W) where
  -- no entry of the list that its own seat executes took effect yet, or its operation needs no block
  abbrev pub IsUnspent : Op → Phase S W → Type 0
  IsUnspent op (phase.Apply run stores Execute) = (run.next ≡ 0) ⊎ (form.needs_block op ≡ false)
  IsUnspent op _ = Unit {0}

  -- a list that is executed has the block in hand where its operation needs one, and else none
  pub record ExecutesWith (mech : Mech S W) (held : Option (Held S)) : Type 0 where
    pub needed : form.needs_block mech.op ≡ true → HasBlock mech held
    pub other : form.needs_block mech.op ≡ false → UsesNone held

  -- for its own call a machine asks for a block where one is needed and none is in hand; it is filled before the first
  -- entry of its list, and stays in hand while that is executed
  abbrev pub BlockIn : Phase S W → Mech S W → Option (Held S) → Type 0
  BlockIn (phase.Generate search Search) mech held = Unit {0}
  BlockIn (phase.Generate search _) mech held = (form.needs_block mech.op ≡ true) × (mech.hand ≡ None)
  BlockIn (phase.Apply run stores (Fill made)) mech held = (form.needs_block mech.op ≡ true) × (run.next ≡ 0) × HasBlock mech held
  BlockIn (phase.Apply run stores Execute) mech held = ExecutesWith mech held
  BlockIn _ mech held = Unit {0}
