-- The command that this step begins is read off the machine and the view.
use Rattle.shared_memory.specs.Views.{command_of}
use Rattle.shared_memory.proofs.port.Shared.finish.Given as goal

abbrev pub ghosts-next_as : goal.ghosts-next_as
ghosts-next_as g a = record { command = command_of a.port.now.view.machine a.machine.now }
