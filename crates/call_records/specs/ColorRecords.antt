-- Calls about how colours are blended, written and cleared: the rows of their records, and what each call says (this project's own
-- format).
use Rattle.std.specs.Prelude.{ℕ, Option, List, [], ◌∷◌, codes}
use Rattle.gl_numbers.specs.declared.fields.Letter.TheVariants.{U, B, F}
use Rattle.gl_numbers.specs.declared.fields.Tail.TheVariants.{Nothing}
use Rattle.gl_numbers.specs.Fields.{TableRow, row, Word, Parts, says, numbered}
use Rattle.call_records.specs.declared.color_calls.ColorCall.{ColorCall}
use Rattle.call_records.specs.declared.color_calls.ColorCall.TheVariants.{BlendColor, BlendEquationSeparate, BlendFuncSeparate, ColorMask, ClearColor}
use Rattle.call_records.specs.declared.color_calls.ColorOperation.{ColorOperation}
use Rattle.call_records.specs.declared.color_calls.ColorOperation.TheVariants as Op

-- the rows: the number, the name, the fields' letters in order, and what follows the fields
abbrev pub color_row : ColorOperation → TableRow
color_row Op.BlendColor = row 68 (codes "blendColor") (F ∷ F ∷ F ∷ F ∷ []) Nothing
color_row Op.BlendEquationSeparate = row 69 (codes "blendEquationSeparate") (U ∷ U ∷ []) Nothing
color_row Op.BlendFuncSeparate = row 70 (codes "blendFuncSeparate") (U ∷ U ∷ U ∷ U ∷ []) Nothing
color_row Op.ColorMask = row 71 (codes "colorMask") (B ∷ B ∷ B ∷ B ∷ []) Nothing
color_row Op.ClearColor = row 81 (codes "clearColor") (F ∷ F ∷ F ∷ F ∷ []) Nothing

-- the operations of these rows
abbrev pub color_operations : List ColorOperation
color_operations = Op.BlendColor ∷ Op.BlendEquationSeparate ∷ Op.BlendFuncSeparate ∷ Op.ColorMask ∷ Op.ClearColor ∷ []

-- the operation of a number, if one of these has it
unfoldable pub color_numbered : ℕ → Option ColorOperation
color_numbered n = numbered color_row color_operations n

-- what a call says: its operation, the values of its fields in order, and its tail
abbrev pub color_parts : ColorCall → Parts ColorOperation
color_parts (BlendColor red green blue alpha) = says Op.BlendColor (Word red ∷ Word green ∷ Word blue ∷ Word alpha ∷ []) []
color_parts (BlendEquationSeparate rgb alpha) = says Op.BlendEquationSeparate (Word rgb ∷ Word alpha ∷ []) []
color_parts (BlendFuncSeparate src_rgb dst_rgb src_alpha dst_alpha) =
    says Op.BlendFuncSeparate (Word src_rgb ∷ Word dst_rgb ∷ Word src_alpha ∷ Word dst_alpha ∷ []) []
color_parts (ColorMask red green blue alpha) = says Op.ColorMask (Word red ∷ Word green ∷ Word blue ∷ Word alpha ∷ []) []
color_parts (ClearColor red green blue alpha) = says Op.ClearColor (Word red ∷ Word green ∷ Word blue ∷ Word alpha ∷ []) []
