-- Calls about an object as a whole: the rows of their records, and what each call says (this project's own format).
use Rattle.std.specs.Prelude.{ℕ, Option, List, [], ◌∷◌, codes}
use Rattle.gl_numbers.specs.declared.fields.Letter.TheVariants.{H}
use Rattle.gl_numbers.specs.declared.fields.Tail.TheVariants.{Nothing}
use Rattle.gl_numbers.specs.Fields.{TableRow, row, Word, Parts, says, numbered}
use Rattle.call_records.specs.declared.object_calls.New.TheVariants as New
use Rattle.call_records.specs.declared.object_calls.ObjectKind.TheVariants as Kind
use Rattle.call_records.specs.declared.object_calls.ObjectCall.{ObjectCall}
use Rattle.call_records.specs.declared.object_calls.ObjectCall.TheVariants.{Create, Delete, IsKind}
use Rattle.call_records.specs.declared.object_calls.ObjectOperation.{ObjectOperation}
use Rattle.call_records.specs.declared.object_calls.ObjectOperation.TheVariants.{CreateBuffer, DeleteBuffer, IsBuffer}

-- the rows: the number, the name, the fields' letters in order, and what follows the fields
abbrev pub object_row : ObjectOperation → TableRow
object_row CreateBuffer = row 1 (codes "createBuffer") [] Nothing
object_row DeleteBuffer = row 7 (codes "deleteBuffer") (H ∷ []) Nothing
object_row IsBuffer = row 13 (codes "isBuffer") (H ∷ []) Nothing

-- the operations of these rows
abbrev pub object_operations : List ObjectOperation
object_operations = CreateBuffer ∷ DeleteBuffer ∷ IsBuffer ∷ []

-- the operation of a number, if one of these has it
unfoldable pub object_numbered : ℕ → Option ObjectOperation
object_numbered n = numbered object_row object_operations n

-- what a call says: its operation, the values of its fields in order, and its tail
abbrev pub object_parts : ObjectCall → Parts ObjectOperation
object_parts (Create New.Buffer) = says CreateBuffer [] []
object_parts (Delete Kind.Buffer handle) = says DeleteBuffer (Word handle ∷ []) []
object_parts (IsKind Kind.Buffer handle) = says IsBuffer (Word handle ∷ []) []
