-- The changes of a run as a history of its object.
use Rattle.std.specs.Prelude.{List, [], ◌∷◌, ◌++◌}
use Rattle.normal_traits.specs.World as world
use Rattle.placing_law.specs.Placing.{ObjectChange}

-- a change of the world as one of the object: the operation of its list's call
abbrev pub placed : world.Change → ObjectChange
placed change = record { seat = change.list.call.seat; number = change.list.call.number; op = change.list.call.op }

-- the changes of a world, the oldest first
abbrev pub history_of : List world.Change → List ObjectChange
history_of [] = []
history_of (change ∷ older) = history_of older ++ placed change ∷ []
