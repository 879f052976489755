-- The commands on buffers: their rows of the table, and what each says (OpenGL ES 2.0 section 2.9).
use Rattle.std.specs.Prelude.{ℕ, Option, List, [], ◌∷◌, ◌==◌, codes}
use Rattle.std.specs.List.{find}
use Rattle.gl_numbers.specs.declared.fields.Letter.TheVariants.{U}
use Rattle.gl_numbers.specs.declared.fields.Tail.TheVariants.{Nothing, Bytes}
use Rattle.gl_numbers.specs.Fields.{TableRow, Parts, Word}
use Rattle.command_stream.specs.declared.operation.Operation.{Operation}
use Rattle.command_stream.specs.declared.operation.Operation.TheVariants.{Buffer}
use Rattle.command_stream.specs.declared.buffer_commands.BufferOperation.{BufferOperation}
use Rattle.command_stream.specs.declared.buffer_commands.BufferOperation.TheVariants as op
use Rattle.command_stream.specs.declared.buffer_commands.BufferCommand.{BufferCommand}
use Rattle.command_stream.specs.declared.buffer_commands.BufferCommand.TheVariants.{BindBuffer, BufferSize, BufferBytes}

-- the row of each operation: number, name, fields and tail
abbrev pub buffer_row : BufferOperation → TableRow
buffer_row op.BindBuffer = record { number = 11; name = codes "BindBuffer"; letters = U ∷ U ∷ []; tail = Nothing }
buffer_row op.BufferSize = record { number = 12; name = codes "BufferSize"; letters = U ∷ U ∷ U ∷ []; tail = Nothing }
buffer_row op.BufferBytes = record { number = 13; name = codes "BufferBytes"; letters = U ∷ U ∷ []; tail = Bytes }

-- what each command says
abbrev pub buffer_parts : BufferCommand → Parts Operation
buffer_parts (BindBuffer target name) =
    record { operation = Buffer op.BindBuffer; values = Word target ∷ Word name ∷ []; tail = [] }
buffer_parts (BufferSize target usage size) =
    record { operation = Buffer op.BufferSize; values = Word target ∷ Word usage ∷ Word size ∷ []; tail = [] }
buffer_parts (BufferBytes target offset bytes) =
    record { operation = Buffer op.BufferBytes; values = Word target ∷ Word offset ∷ []; tail = bytes.now }

-- all operations on buffers
abbrev pub buffer_operations : List BufferOperation
buffer_operations = op.BindBuffer ∷ op.BufferSize ∷ op.BufferBytes ∷ []

-- the operation on buffers that has this number, if one has
unfoldable pub buffer_numbered : ℕ → Option BufferOperation
buffer_numbered n = find (λ operation. (buffer_row operation).number == n) buffer_operations
