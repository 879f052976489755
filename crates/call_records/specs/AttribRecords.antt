-- Calls about a vertex attribute: the rows of their records, and what each call says (this project's own format).
use Rattle.std.specs.Prelude.{ℕ, Bool, if◌then◌else◌, Option, List, [], ◌∷◌, codes}
use Rattle.gl_numbers.specs.declared.fields.Letter.TheVariants.{U, B, F, I, L}
use Rattle.gl_numbers.specs.declared.fields.Tail.TheVariants.{Nothing}
use Rattle.gl_numbers.specs.Fields.{TableRow, row, Word, Int, Long, Parts, says, numbered}
use Rattle.call_records.specs.declared.attrib_calls.AttribCall.{AttribCall}
use Rattle.call_records.specs.declared.attrib_calls.AttribCall.TheVariants.{AttribArray, VertexAttribPointer, VertexAttrib, GetVertexAttrib, GetVertexAttribOffset}
use Rattle.call_records.specs.declared.attrib_calls.AttribOperation.{AttribOperation}
use Rattle.call_records.specs.declared.attrib_calls.AttribOperation.TheVariants as Op

-- the rows: the number, the name, the fields' letters in order, and what follows the fields
abbrev pub attrib_row : AttribOperation → TableRow
attrib_row Op.EnableVertexAttribArray = row 24 (codes "enableVertexAttribArray") (U ∷ []) Nothing
attrib_row Op.DisableVertexAttribArray = row 25 (codes "disableVertexAttribArray") (U ∷ []) Nothing
attrib_row Op.VertexAttribPointer = row 26 (codes "vertexAttribPointer") (U ∷ I ∷ U ∷ B ∷ I ∷ L ∷ []) Nothing
attrib_row Op.VertexAttrib = row 27 (codes "vertexAttrib") (U ∷ F ∷ F ∷ F ∷ F ∷ []) Nothing
attrib_row Op.GetVertexAttrib = row 28 (codes "getVertexAttrib") (U ∷ U ∷ []) Nothing
attrib_row Op.GetVertexAttribOffset = row 29 (codes "getVertexAttribOffset") (U ∷ U ∷ []) Nothing

-- the operations of these rows
abbrev pub attrib_operations : List AttribOperation
attrib_operations =
    Op.EnableVertexAttribArray ∷ Op.DisableVertexAttribArray ∷ Op.VertexAttribPointer ∷ Op.VertexAttrib
    ∷ Op.GetVertexAttrib ∷ Op.GetVertexAttribOffset ∷ []

-- the operation of a number, if one of these has it
unfoldable pub attrib_numbered : ℕ → Option AttribOperation
attrib_numbered n = numbered attrib_row attrib_operations n

-- the operation that enables an array, or disables it
abbrev pub array_operation : Bool → AttribOperation
array_operation on = if on then Op.EnableVertexAttribArray else Op.DisableVertexAttribArray

-- what a call says: its operation, the values of its fields in order, and its tail
abbrev pub attrib_parts : AttribCall → Parts AttribOperation
attrib_parts (AttribArray index on) = says (array_operation on) (Word index ∷ []) []
attrib_parts (VertexAttribPointer index size kind normalized stride offset) =
    says Op.VertexAttribPointer
    (Word index ∷ Int size ∷ Word kind ∷ Word normalized ∷ Int stride ∷ Long offset ∷ []) []
attrib_parts (VertexAttrib index x y z w) =
    says Op.VertexAttrib (Word index ∷ Word x ∷ Word y ∷ Word z ∷ Word w ∷ []) []
attrib_parts (GetVertexAttrib index name) = says Op.GetVertexAttrib (Word index ∷ Word name ∷ []) []
attrib_parts (GetVertexAttribOffset index name) = says Op.GetVertexAttribOffset (Word index ∷ Word name ∷ []) []
