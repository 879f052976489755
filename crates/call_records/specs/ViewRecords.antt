-- Calls about what is drawn at all, and where: the rows of their records, and what each call says (this project's own format).
use Rattle.std.specs.Prelude.{ℕ, true, false, Option, List, [], ◌∷◌, codes}
use Rattle.gl_numbers.specs.declared.fields.Letter.TheVariants.{U, I}
use Rattle.gl_numbers.specs.declared.fields.Tail.TheVariants.{Nothing}
use Rattle.gl_numbers.specs.Fields.{TableRow, row, Word, Int, Parts, says, numbered}
use Rattle.call_records.specs.declared.view_calls.ViewCall.{ViewCall}
use Rattle.call_records.specs.declared.view_calls.ViewCall.TheVariants.{Capability, CullFace, FrontFace, Viewport, Scissor}
use Rattle.call_records.specs.declared.view_calls.ViewOperation.{ViewOperation}
use Rattle.call_records.specs.declared.view_calls.ViewOperation.TheVariants as Op

-- the rows: the number, the name, the fields' letters in order, and what follows the fields
abbrev pub view_row : ViewOperation → TableRow
view_row Op.Enable = row 65 (codes "enable") (U ∷ []) Nothing
view_row Op.Disable = row 66 (codes "disable") (U ∷ []) Nothing
view_row Op.CullFace = row 77 (codes "cullFace") (U ∷ []) Nothing
view_row Op.FrontFace = row 78 (codes "frontFace") (U ∷ []) Nothing
view_row Op.Viewport = row 79 (codes "viewport") (I ∷ I ∷ I ∷ I ∷ []) Nothing
view_row Op.Scissor = row 80 (codes "scissor") (I ∷ I ∷ I ∷ I ∷ []) Nothing

-- the operations of these rows
abbrev pub view_operations : List ViewOperation
view_operations = Op.Enable ∷ Op.Disable ∷ Op.CullFace ∷ Op.FrontFace ∷ Op.Viewport ∷ Op.Scissor ∷ []

-- the operation of a number, if one of these has it
unfoldable pub view_numbered : ℕ → Option ViewOperation
view_numbered n = numbered view_row view_operations n

-- what a call says: its operation, the values of its fields in order, and its tail
abbrev pub view_parts : ViewCall → Parts ViewOperation
view_parts (Capability capability true) = says Op.Enable (Word capability ∷ []) []
view_parts (Capability capability false) = says Op.Disable (Word capability ∷ []) []
view_parts (CullFace sides) = says Op.CullFace (Word sides ∷ []) []
view_parts (FrontFace winding) = says Op.FrontFace (Word winding ∷ []) []
view_parts (Viewport x y width height) = says Op.Viewport (Int x ∷ Int y ∷ Int width ∷ Int height ∷ []) []
view_parts (Scissor x y width height) = says Op.Scissor (Int x ∷ Int y ∷ Int width ∷ Int height ∷ []) []
