-- Calls about textures and how their texels are given: the rows of their records, and what each call says (this project's own
-- format).
use Rattle.std.specs.Prelude.{ℕ, Option, List, [], ◌∷◌, codes}
use Rattle.gl_numbers.specs.declared.fields.Letter.TheVariants.{U, I}
use Rattle.gl_numbers.specs.declared.fields.Tail.TheVariants.{Nothing}
use Rattle.gl_numbers.specs.Fields.{TableRow, row, Word, Int, Parts, says, numbered}
use Rattle.call_records.specs.declared.texture_calls.TextureCall.{TextureCall}
use Rattle.call_records.specs.declared.texture_calls.TextureCall.TheVariants.{PixelStorei}
use Rattle.call_records.specs.declared.texture_calls.TextureOperation.{TextureOperation}
use Rattle.call_records.specs.declared.texture_calls.TextureOperation.TheVariants as Op

-- the rows: the number, the name, the fields' letters in order, and what follows the fields
abbrev pub texture_row : TextureOperation → TableRow
texture_row Op.PixelStorei = row 56 (codes "pixelStorei") (U ∷ I ∷ []) Nothing

-- the operations of these rows
abbrev pub texture_operations : List TextureOperation
texture_operations = Op.PixelStorei ∷ []

-- the operation of a number, if one of these has it
unfoldable pub texture_numbered : ℕ → Option TextureOperation
texture_numbered n = numbered texture_row texture_operations n

-- what a call says: its operation, the values of its fields in order, and its tail
abbrev pub texture_parts : TextureCall → Parts TextureOperation
texture_parts (PixelStorei name value) = says Op.PixelStorei (Word name ∷ Int value ∷ []) []
