-- Calls about the buffer that is bound to a target: the rows of their records, and what each call says (this project's own format).
use Rattle.std.specs.Prelude.{ℕ, Option, List, [], ◌∷◌, codes}
use Rattle.gl_numbers.specs.declared.fields.Letter.TheVariants.{U, H, L}
use Rattle.gl_numbers.specs.declared.fields.Tail.TheVariants as Tail
use Rattle.gl_numbers.specs.Fields.{TableRow, row, Word, Long, Parts, says, numbered}
use Rattle.call_records.specs.declared.buffer_calls.Fill.TheVariants.{Size, Bytes}
use Rattle.call_records.specs.declared.buffer_calls.BufferCall.{BufferCall}
use Rattle.call_records.specs.declared.buffer_calls.BufferCall.TheVariants.{BindBuffer, BufferData, BufferSubData, GetBufferParameter}
use Rattle.call_records.specs.declared.buffer_calls.BufferOperation.{BufferOperation}
use Rattle.call_records.specs.declared.buffer_calls.BufferOperation.TheVariants as Op

-- the rows: the number, the name, the fields' letters in order, and what follows the fields
abbrev pub buffer_row : BufferOperation → TableRow
buffer_row Op.BindBuffer = row 19 (codes "bindBuffer") (U ∷ H ∷ []) Tail.Nothing
buffer_row Op.BufferSize = row 20 (codes "bufferSize") (U ∷ U ∷ L ∷ []) Tail.Nothing
buffer_row Op.BufferData = row 21 (codes "bufferData") (U ∷ U ∷ []) Tail.Bytes
buffer_row Op.BufferSubData = row 22 (codes "bufferSubData") (U ∷ L ∷ []) Tail.Bytes
buffer_row Op.GetBufferParameter = row 23 (codes "getBufferParameter") (U ∷ U ∷ []) Tail.Nothing

-- the operations of these rows
abbrev pub buffer_operations : List BufferOperation
buffer_operations = Op.BindBuffer ∷ Op.BufferSize ∷ Op.BufferData ∷ Op.BufferSubData ∷ Op.GetBufferParameter ∷ []

-- the operation of a number, if one of these has it
unfoldable pub buffer_numbered : ℕ → Option BufferOperation
buffer_numbered n = numbered buffer_row buffer_operations n

-- what a call says: its operation, the values of its fields in order, and its tail
abbrev pub buffer_parts : BufferCall → Parts BufferOperation
buffer_parts (BindBuffer target handle) = says Op.BindBuffer (Word target ∷ Word handle ∷ []) []
buffer_parts (BufferData target usage (Size size)) = says Op.BufferSize (Word target ∷ Word usage ∷ Long size ∷ []) []
buffer_parts (BufferData target usage (Bytes tail)) = says Op.BufferData (Word target ∷ Word usage ∷ []) tail.now
buffer_parts (BufferSubData target offset tail) = says Op.BufferSubData (Word target ∷ Long offset ∷ []) tail.now
buffer_parts (GetBufferParameter target name) = says Op.GetBufferParameter (Word target ∷ Word name ∷ []) []
