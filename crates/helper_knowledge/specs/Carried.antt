-- What a helper carries beside what its machine holds.
use Rattle.std.specs.Prelude.{ℕ, Option, Some, None}
use Rattle.normal_traits.specs.World.{Called}
use Rattle.normal_traits.specs.NormalForm.{NormalForm}
use Rattle.offered_blocks.specs.Blocks.{Offer}

-- how many changes there were when its search began, and the list that it fills its block for, from the naming of the
-- list to the exchange by which a record names the block
pub record Carried (S : Type 0) : Type 0 where
  pub since : ℕ
  pub filled : Option (Offer S)

-- of one that is there
abbrev pub OfSome : {A : Type 0} → (A → Type 0) → Option A → Type 0
OfSome P None = ⊥
OfSome P (Some x) = P x

-- the list that a ready search makes for a call and a block
abbrev pub list_named : {S W : Type 0} → NormalForm S W → ℕ → S → ℕ → Called → ℕ → Offer S
list_named form identity search since call block =
    record { list = record { identity = identity; call = call; block = block; entries = (form.offer_of search call.op block).entries }; offering = search; since = since }
