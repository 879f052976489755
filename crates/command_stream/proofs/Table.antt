-- What holds of every row of the command table, and of every command.
use Rattle.std.proofs.Common.{◌≡◌, ℕ, ◌<◌, ◌≤◌, ◌^◌, length, true, false, ap, ◌∙◌}
use Rattle.std.specs.Option.{option_map_or}
use Rattle.gl_numbers.proofs.OneRecord.{allows-fits}
use Rattle.gl_numbers.proofs.FieldsOfCommands.{allows-most}
use Rattle.command_stream.specs.declared.operation.Operation.{Operation}
use Rattle.command_stream.specs.declared.operation.Operation.TheVariants.{Object, Buffer}
use Rattle.command_stream.specs.declared.command.Command.{Command}
use Rattle.command_stream.specs.Operations.{row_of, number_of, allows, has_shape, body_max}
use Rattle.command_stream.specs.Commands.{parts_of, op_of, body_of, Fits}
use Rattle.command_stream.proofs.Numbered.{IsInTable}
use Rattle.command_stream.proofs.ObjectRows.{object-in-table}
use Rattle.command_stream.proofs.BufferRows.{buffer-in-table}

-- each operation is in the table
pub in-table : (operation : Operation) → IsInTable operation
in-table (Object operation) = object-in-table operation
in-table (Buffer operation) = buffer-in-table operation

-- each operation's number is a word
pub number-fits : (operation : Operation) → number_of operation < 2 ^ 32
number-fits operation = (in-table operation).word

-- a command's number is a word
pub op-fits : (c : Command) → op_of c < 2 ^ 32
op-fits c = number-fits (parts_of c).operation

-- the table allows what the row of an operation allows
pub shape-allowed : (operation : Operation) (len : ℕ) → allows operation len ≡ true → has_shape (number_of operation) len ≡ true
shape-allowed operation len a = ap (λ found. option_map_or (λ o. allows o len) found false) (in-table operation).numbered ∙ a

-- no body is longer than a command's may be
pub allows-within : (operation : Operation) (len : ℕ) → allows operation len ≡ true → len ≤ body_max
allows-within operation len a = allows-most body_max (row_of operation) len a

-- each command's header is one of the table
pub shape-of : (c : Command) → Fits c → has_shape (op_of c) (length (body_of c)) ≡ true
shape-of c fits = shape-allowed (parts_of c).operation (length (body_of c)) (allows-fits row_of body_max (parts_of c) fits)
