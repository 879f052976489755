-- The commands on objects: their rows of the table, and what each says (OpenGL ES 2.0 section 2.9).
use Rattle.std.specs.Prelude.{ℕ, Option, List, [], ◌∷◌, ◌==◌, codes}
use Rattle.std.specs.List.{find}
use Rattle.gl_numbers.specs.declared.fields.Letter.TheVariants.{U}
use Rattle.gl_numbers.specs.declared.fields.Tail.TheVariants.{Nothing}
use Rattle.gl_numbers.specs.Fields.{TableRow, Parts, Word}
use Rattle.command_stream.specs.declared.operation.Operation.{Operation}
use Rattle.command_stream.specs.declared.operation.Operation.TheVariants.{Object}
use Rattle.command_stream.specs.declared.object_commands.ObjectOperation.{ObjectOperation}
use Rattle.command_stream.specs.declared.object_commands.ObjectOperation.TheVariants as op
use Rattle.command_stream.specs.declared.object_commands.ObjectCommand.{ObjectCommand}
use Rattle.command_stream.specs.declared.object_commands.ObjectCommand.TheVariants.{MakeBuffer, DropBuffer}

-- the row of each operation: number, name, fields and tail
abbrev pub object_row : ObjectOperation → TableRow
object_row op.MakeBuffer = record { number = 1; name = codes "MakeBuffer"; letters = U ∷ []; tail = Nothing }
object_row op.DropBuffer = record { number = 6; name = codes "DropBuffer"; letters = U ∷ []; tail = Nothing }

-- what each command says
abbrev pub object_parts : ObjectCommand → Parts Operation
object_parts (MakeBuffer name) = record { operation = Object op.MakeBuffer; values = Word name ∷ []; tail = [] }
object_parts (DropBuffer name) = record { operation = Object op.DropBuffer; values = Word name ∷ []; tail = [] }

-- all operations on objects
abbrev pub object_operations : List ObjectOperation
object_operations = op.MakeBuffer ∷ op.DropBuffer ∷ []

-- the operation on objects that has this number, if one has
unfoldable pub object_numbered : ℕ → Option ObjectOperation
object_numbered n = find (λ operation. (object_row operation).number == n) object_operations
