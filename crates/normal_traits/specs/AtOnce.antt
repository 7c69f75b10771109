-- Structures whose lists make their changes at once.
use Rattle.std.specs.Prelude.{◌≡◌, true}
use Rattle.normal_traits.specs.World.{Listed}
use Rattle.normal_traits.specs.NormalForm.{NormalForm}

-- the first entry of each list makes the change of its call; so a list that won anything has changed the object,
-- and a call that changed nothing has won no exchange of a list. A structure whose list may back out has it not.
abbrev pub ChangesAtOnce : {S W : Type 0} → NormalForm S W → Type 0
ChangesAtOnce form = (list : Listed) → form.adds list 0 ≡ true
