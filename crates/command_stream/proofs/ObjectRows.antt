-- The rows of the commands on objects.
use Rattle.std.proofs.Common.{List, refl, lit<}
use Rattle.gl_numbers.specs.Fields.{Value}
use Rattle.command_stream.specs.declared.operation.Operation.TheVariants.{Object}
use Rattle.command_stream.specs.declared.object_commands.ObjectOperation.{ObjectOperation}
use Rattle.command_stream.specs.declared.object_commands.ObjectOperation.TheVariants as op
use Rattle.command_stream.specs.declared.object_commands.ObjectCommand.{ObjectCommand}
use Rattle.command_stream.specs.declared.object_commands.ObjectCommand.TheVariants.{MakeBuffer, DropBuffer}
use Rattle.command_stream.specs.ObjectCommands.{object_numbered}
use Rattle.command_stream.proofs.Numbered.{IsInTable, word_at}

-- each is in the table
pub object-in-table : (operation : ObjectOperation) → IsInTable (Object operation)
unfolding object_numbered
object-in-table op.MakeBuffer = record { numbered = refl; word = lit< tt }
object-in-table op.DropBuffer = record { numbered = refl; word = lit< tt }

-- the command of an operation with these values
abbrev pub object_in : ObjectOperation → List Value → ObjectCommand
object_in op.MakeBuffer values = MakeBuffer (word_at values 0)
object_in op.DropBuffer values = DropBuffer (word_at values 0)
