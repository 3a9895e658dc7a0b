-- A command, by its texts.
use Rattle.registry.specs.Step.{Change, Publish, Unyank, Yank}
use Rattle.registry.specs.declared.commands.Command.{Command}
use Rattle.registry.specs.declared.commands.Command.TheVariants as command

abbrev pub change_of : Command → Change
change_of (command.Publish name version needs) = Publish name version needs
change_of (command.Yank name version) = Yank name version
change_of (command.Unyank name version) = Unyank name version
