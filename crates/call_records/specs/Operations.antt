-- The record table over all subjects: the rows of the operations, and the operation of a number (this project's own format).
use Rattle.std.specs.Prelude.{ℕ, Bool, false, Option, Some, None, ◌==◌, if◌then◌else◌, is_some, ◌||◌}
use Rattle.gl_numbers.specs.Fields.{TableRow, allows}
use Rattle.call_records.specs.Numbers.{body_max, closing_number}
use Rattle.call_records.specs.declared.operations.Operation.{Operation}
use Rattle.call_records.specs.declared.operations.Operation.TheVariants.{Object, Buffer, Attrib, Texture, Query, Color, DepthStencil, View, Draw}
use Rattle.call_records.specs.ObjectRecords.{object_row, object_numbered}
use Rattle.call_records.specs.BufferRecords.{buffer_row, buffer_numbered}
use Rattle.call_records.specs.AttribRecords.{attrib_row, attrib_numbered}
use Rattle.call_records.specs.TextureRecords.{texture_row, texture_numbered}
use Rattle.call_records.specs.QueryRecords.{query_row, query_numbered}
use Rattle.call_records.specs.ColorRecords.{color_row, color_numbered}
use Rattle.call_records.specs.DepthStencilRecords.{depth_stencil_row, depth_stencil_numbered}
use Rattle.call_records.specs.ViewRecords.{view_row, view_numbered}
use Rattle.call_records.specs.DrawRecords.{draw_row, draw_numbered}

-- the row of an operation
abbrev pub row_of : Operation → TableRow
row_of (Object operation) = object_row operation
row_of (Buffer operation) = buffer_row operation
row_of (Attrib operation) = attrib_row operation
row_of (Texture operation) = texture_row operation
row_of (Query operation) = query_row operation
row_of (Color operation) = color_row operation
row_of (DepthStencil operation) = depth_stencil_row operation
row_of (View operation) = view_row operation
row_of (Draw operation) = draw_row operation

-- the operation of one subject, if there is one, else that of the others
abbrev pub or_else : {O : Type 0} → (O → Operation) → Option O → Option Operation → Option Operation
or_else subject (Some operation) others = Some (subject operation)
or_else subject None others = others

-- the operation of a number, if the table has one
unfoldable pub operation_numbered : ℕ → Option Operation
operation_numbered n =
    or_else Object (object_numbered n) (or_else Buffer (buffer_numbered n) (or_else Attrib (attrib_numbered n)
    (or_else Texture (texture_numbered n) (or_else Query (query_numbered n) (or_else Color (color_numbered n)
    (or_else DepthStencil (depth_stencil_numbered n) (or_else View (view_numbered n) (or_else Draw (draw_numbered n) None))))))))

-- whether a body of this length is one of the operation's, if there is one
abbrev pub allows_body : Option Operation → ℕ → Bool
allows_body None len = false
allows_body (Some operation) len = allows body_max (row_of operation) len

-- whether a record's header may have this number: a call's, or that of the closing record
abbrev pub is_known : ℕ → Bool
is_known n = (n == closing_number) || is_some (operation_numbered n)

-- whether a record of this number may have a body of this length; the closing record has none
abbrev pub has_shape : ℕ → ℕ → Bool
has_shape n len = if n == closing_number then len == 0 else allows_body (operation_numbered n) len
