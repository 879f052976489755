-- Calls about how depths and stencil values are tested, written and cleared: the rows of their records, and what each call says
-- (this project's own format).
use Rattle.std.specs.Prelude.{ℕ, Option, List, [], ◌∷◌, codes}
use Rattle.gl_numbers.specs.declared.fields.Letter.TheVariants.{U, B, I}
use Rattle.gl_numbers.specs.declared.fields.Tail.TheVariants.{Nothing}
use Rattle.gl_numbers.specs.Fields.{TableRow, row, Word, Int, Parts, says, numbered}
use Rattle.call_records.specs.declared.depth_stencil_calls.DepthStencilCall.{DepthStencilCall}
use Rattle.call_records.specs.declared.depth_stencil_calls.DepthStencilCall.TheVariants.{DepthFunc, DepthMask, StencilFuncSeparate, StencilMaskSeparate, StencilOpSeparate, ClearStencil}
use Rattle.call_records.specs.declared.depth_stencil_calls.DepthStencilOperation.{DepthStencilOperation}
use Rattle.call_records.specs.declared.depth_stencil_calls.DepthStencilOperation.TheVariants as Op

-- the rows: the number, the name, the fields' letters in order, and what follows the fields
abbrev pub depth_stencil_row : DepthStencilOperation → TableRow
depth_stencil_row Op.DepthFunc = row 72 (codes "depthFunc") (U ∷ []) Nothing
depth_stencil_row Op.DepthMask = row 73 (codes "depthMask") (B ∷ []) Nothing
depth_stencil_row Op.StencilFuncSeparate = row 74 (codes "stencilFuncSeparate") (U ∷ U ∷ I ∷ U ∷ []) Nothing
depth_stencil_row Op.StencilMaskSeparate = row 75 (codes "stencilMaskSeparate") (U ∷ U ∷ []) Nothing
depth_stencil_row Op.StencilOpSeparate = row 76 (codes "stencilOpSeparate") (U ∷ U ∷ U ∷ U ∷ []) Nothing
depth_stencil_row Op.ClearStencil = row 82 (codes "clearStencil") (I ∷ []) Nothing

-- the operations of these rows
abbrev pub depth_stencil_operations : List DepthStencilOperation
depth_stencil_operations =
    Op.DepthFunc ∷ Op.DepthMask ∷ Op.StencilFuncSeparate ∷ Op.StencilMaskSeparate ∷ Op.StencilOpSeparate ∷ Op.ClearStencil ∷ []

-- the operation of a number, if one of these has it
unfoldable pub depth_stencil_numbered : ℕ → Option DepthStencilOperation
depth_stencil_numbered n = numbered depth_stencil_row depth_stencil_operations n

-- what a call says: its operation, the values of its fields in order, and its tail
abbrev pub depth_stencil_parts : DepthStencilCall → Parts DepthStencilOperation
depth_stencil_parts (DepthFunc func) = says Op.DepthFunc (Word func ∷ []) []
depth_stencil_parts (DepthMask flag) = says Op.DepthMask (Word flag ∷ []) []
depth_stencil_parts (StencilFuncSeparate face func reference mask) =
    says Op.StencilFuncSeparate (Word face ∷ Word func ∷ Int reference ∷ Word mask ∷ []) []
depth_stencil_parts (StencilMaskSeparate face mask) = says Op.StencilMaskSeparate (Word face ∷ Word mask ∷ []) []
depth_stencil_parts (StencilOpSeparate face fail depth_fail depth_pass) =
    says Op.StencilOpSeparate (Word face ∷ Word fail ∷ Word depth_fail ∷ Word depth_pass ∷ []) []
depth_stencil_parts (ClearStencil value) = says Op.ClearStencil (Int value ∷ []) []
