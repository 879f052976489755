-- The command table: the row of each operation, the operation of each number, and the lengths that a body may have.
use Rattle.std.specs.Prelude.{ℕ, Bool, false, Option}
use Rattle.std.specs.Option.{option_map, option_or, option_map_or}
use Rattle.gl_numbers.specs.Fields as Fields
use Rattle.command_stream.specs.declared.operation.Operation.{Operation}
use Rattle.command_stream.specs.declared.operation.Operation.TheVariants.{Object, Buffer}
use Rattle.command_stream.specs.ObjectCommands.{object_row, object_numbered}
use Rattle.command_stream.specs.BufferCommands.{buffer_row, buffer_numbered}

-- the most bytes of a body: 16 MiB of data, and 64 bytes for the fields before them
abbrev pub body_max : ℕ
body_max = 16777280

-- the row of each operation
abbrev pub row_of : Operation → Fields.TableRow
row_of (Object operation) = object_row operation
row_of (Buffer operation) = buffer_row operation

-- the number in a command's header
abbrev pub number_of : Operation → ℕ
number_of operation = (row_of operation).number

-- the operation that has this number, if the table has one
abbrev pub operation_numbered : ℕ → Option Operation
operation_numbered n = option_or (option_map Object (object_numbered n)) (option_map Buffer (buffer_numbered n))

-- whether the operation's body may have this length
abbrev pub allows : Operation → ℕ → Bool
allows operation len = Fields.allows body_max (row_of operation) len

-- whether a command of this number may have a body of this length
abbrev pub has_shape : ℕ → ℕ → Bool
has_shape n len = option_map_or (λ operation. allows operation len) (operation_numbered n) false
