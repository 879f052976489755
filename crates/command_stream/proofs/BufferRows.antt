-- The rows of the commands on buffers.
use Rattle.std.proofs.Common.{ℕ, List, refl, lit<}
use Rattle.gl_numbers.specs.Fields.{Value}
use Rattle.command_stream.specs.declared.operation.Operation.TheVariants.{Buffer}
use Rattle.command_stream.specs.declared.buffer_commands.BufferOperation.{BufferOperation}
use Rattle.command_stream.specs.declared.buffer_commands.BufferOperation.TheVariants as op
use Rattle.command_stream.specs.declared.buffer_commands.BufferCommand.{BufferCommand}
use Rattle.command_stream.specs.declared.buffer_commands.BufferCommand.TheVariants.{BindBuffer, BufferSize, BufferBytes}
use Rattle.command_stream.specs.ObjectCommands.{object_numbered}
use Rattle.command_stream.specs.BufferCommands.{buffer_numbered}
use Rattle.command_stream.proofs.Numbered.{IsInTable, word_at}

-- each is in the table
pub buffer-in-table : (operation : BufferOperation) → IsInTable (Buffer operation)
unfolding object_numbered buffer_numbered
buffer-in-table op.BindBuffer = record { numbered = refl; word = lit< tt }
buffer-in-table op.BufferSize = record { numbered = refl; word = lit< tt }
buffer-in-table op.BufferBytes = record { numbered = refl; word = lit< tt }

-- the command of an operation with these values and this tail
abbrev pub buffer_in : BufferOperation → List Value → List ℕ → BufferCommand
buffer_in op.BindBuffer values tail = BindBuffer (word_at values 0) (word_at values 1)
buffer_in op.BufferSize values tail = BufferSize (word_at values 0) (word_at values 1) (word_at values 2)
buffer_in op.BufferBytes values tail = BufferBytes (word_at values 0) (word_at values 1) (record { ref_ptr = (0, 0); now = tail })
