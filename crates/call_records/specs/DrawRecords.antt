-- Calls that draw, or ask that what was drawn be done: the rows of their records, and what each call says (this project's own
-- format).
use Rattle.std.specs.Prelude.{ℕ, true, false, Option, List, [], ◌∷◌, codes}
use Rattle.gl_numbers.specs.declared.fields.Tail.TheVariants.{Nothing}
use Rattle.gl_numbers.specs.Fields.{TableRow, row, Parts, says, numbered}
use Rattle.call_records.specs.declared.draw_calls.DrawCall.{DrawCall}
use Rattle.call_records.specs.declared.draw_calls.DrawCall.TheVariants.{Finish}
use Rattle.call_records.specs.declared.draw_calls.DrawOperation.{DrawOperation}
use Rattle.call_records.specs.declared.draw_calls.DrawOperation.TheVariants as Op

-- the rows: the number, the name, the fields' letters in order, and what follows the fields
abbrev pub draw_row : DrawOperation → TableRow
draw_row Op.Flush = row 88 (codes "flush") [] Nothing
draw_row Op.Finish = row 89 (codes "finish") [] Nothing

-- the operations of these rows
abbrev pub draw_operations : List DrawOperation
draw_operations = Op.Flush ∷ Op.Finish ∷ []

-- the operation of a number, if one of these has it
unfoldable pub draw_numbered : ℕ → Option DrawOperation
draw_numbered n = numbered draw_row draw_operations n

-- what a call says: its operation, the values of its fields in order, and its tail
abbrev pub draw_parts : DrawCall → Parts DrawOperation
draw_parts (Finish false) = says Op.Flush [] []
draw_parts (Finish true) = says Op.Finish [] []
