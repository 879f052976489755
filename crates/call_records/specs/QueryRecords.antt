-- Calls that ask for state: the rows of their records, and what each call says (this project's own format).
use Rattle.std.specs.Prelude.{ℕ, Option, List, [], ◌∷◌, codes}
use Rattle.gl_numbers.specs.declared.fields.Letter.TheVariants.{U}
use Rattle.gl_numbers.specs.declared.fields.Tail.TheVariants.{Nothing}
use Rattle.gl_numbers.specs.Fields.{TableRow, row, Word, Parts, says, numbered}
use Rattle.call_records.specs.declared.query_calls.QueryCall.{QueryCall}
use Rattle.call_records.specs.declared.query_calls.QueryCall.TheVariants.{IsEnabled, GetError, GetParameter}
use Rattle.call_records.specs.declared.query_calls.QueryOperation.{QueryOperation}
use Rattle.call_records.specs.declared.query_calls.QueryOperation.TheVariants as Op

-- the rows: the number, the name, the fields' letters in order, and what follows the fields
abbrev pub query_row : QueryOperation → TableRow
query_row Op.IsEnabled = row 67 (codes "isEnabled") (U ∷ []) Nothing
query_row Op.GetError = row 86 (codes "getError") [] Nothing
query_row Op.GetParameter = row 87 (codes "getParameter") (U ∷ []) Nothing

-- the operations of these rows
abbrev pub query_operations : List QueryOperation
query_operations = Op.IsEnabled ∷ Op.GetError ∷ Op.GetParameter ∷ []

-- the operation of a number, if one of these has it
unfoldable pub query_numbered : ℕ → Option QueryOperation
query_numbered n = numbered query_row query_operations n

-- what a call says: its operation, the values of its fields in order, and its tail
abbrev pub query_parts : QueryCall → Parts QueryOperation
query_parts (IsEnabled capability) = says Op.IsEnabled (Word capability ∷ []) []
query_parts GetError = says Op.GetError [] []
query_parts (GetParameter name) = says Op.GetParameter (Word name ∷ []) []
