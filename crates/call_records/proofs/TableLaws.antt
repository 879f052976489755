-- Laws of the record table. What is so of each row is computed, an operation and then the others of its subject; the rest
-- follows for all rows.
use Rattle.std.proofs.Common.{◌≡◌, ℕ, ◌<◌, ◌^◌, Some, None, true, false, refl, sym, ap, ◌∙◌, lit<}
use Rattle.std.specs.Prelude.{◌==◌}
use Rattle.std.proofs.lemmas.Bool.{ne_eqb}
use Rattle.gl_numbers.specs.Fields.{allows}
use Rattle.call_records.specs.declared.operations.TheConstants.{CLOSE, BODY_MAX}
use Rattle.call_records.specs.declared.operations.Operation.{Operation}
use Rattle.call_records.specs.declared.operations.Operation.TheVariants.{Object, Buffer, Attrib, Texture, Query, Color, DepthStencil, View, Draw}
use Rattle.call_records.specs.declared.object_calls.ObjectOperation.TheVariants.{CreateBuffer}
use Rattle.call_records.specs.declared.buffer_calls.BufferOperation.TheVariants.{BindBuffer}
use Rattle.call_records.specs.declared.attrib_calls.AttribOperation.TheVariants.{EnableVertexAttribArray}
use Rattle.call_records.specs.declared.texture_calls.TextureOperation.TheVariants.{PixelStorei}
use Rattle.call_records.specs.declared.query_calls.QueryOperation.TheVariants.{GetError}
use Rattle.call_records.specs.declared.color_calls.ColorOperation.TheVariants.{BlendColor}
use Rattle.call_records.specs.declared.depth_stencil_calls.DepthStencilOperation.TheVariants.{DepthFunc}
use Rattle.call_records.specs.declared.view_calls.ViewOperation.TheVariants.{Enable}
use Rattle.call_records.specs.declared.draw_calls.DrawOperation.TheVariants.{Flush}
use Rattle.call_records.specs.ObjectRecords.{object_numbered}
use Rattle.call_records.specs.BufferRecords.{buffer_numbered}
use Rattle.call_records.specs.AttribRecords.{attrib_numbered}
use Rattle.call_records.specs.TextureRecords.{texture_numbered}
use Rattle.call_records.specs.QueryRecords.{query_numbered}
use Rattle.call_records.specs.ColorRecords.{color_numbered}
use Rattle.call_records.specs.DepthStencilRecords.{depth_stencil_numbered}
use Rattle.call_records.specs.ViewRecords.{view_numbered}
use Rattle.call_records.specs.DrawRecords.{draw_numbered}
use Rattle.call_records.specs.Operations.{row_of, operation_numbered, is_known, has_shape}

-- each number is a word
pub number_fits : (operation : Operation) → (row_of operation).number < 2 ^ 32
number_fits (Object CreateBuffer) = lit< tt
number_fits (Object _) = lit< tt
number_fits (Buffer BindBuffer) = lit< tt
number_fits (Buffer _) = lit< tt
number_fits (Attrib EnableVertexAttribArray) = lit< tt
number_fits (Attrib _) = lit< tt
number_fits (Texture PixelStorei) = lit< tt
number_fits (Query GetError) = lit< tt
number_fits (Query _) = lit< tt
number_fits (Color BlendColor) = lit< tt
number_fits (Color _) = lit< tt
number_fits (DepthStencil DepthFunc) = lit< tt
number_fits (DepthStencil _) = lit< tt
number_fits (View Enable) = lit< tt
number_fits (View _) = lit< tt
number_fits (Draw Flush) = lit< tt
number_fits (Draw _) = lit< tt

-- each number is of one operation
pub told : (operation : Operation) → operation_numbered (row_of operation).number ≡ Some operation
unfolding operation_numbered object_numbered buffer_numbered attrib_numbered texture_numbered query_numbered color_numbered depth_stencil_numbered view_numbered draw_numbered
told (Object CreateBuffer) = refl
told (Object _) = refl
told (Buffer BindBuffer) = refl
told (Buffer _) = refl
told (Attrib EnableVertexAttribArray) = refl
told (Attrib _) = refl
told (Texture PixelStorei) = refl
told (Query GetError) = refl
told (Query _) = refl
told (Color BlendColor) = refl
told (Color _) = refl
told (DepthStencil DepthFunc) = refl
told (DepthStencil _) = refl
told (View Enable) = refl
told (View _) = refl
told (Draw Flush) = refl
told (Draw _) = refl

-- no operation has the closing record's number
none-closes : operation_numbered CLOSE ≡ None
unfolding operation_numbered object_numbered buffer_numbered attrib_numbered texture_numbered query_numbered color_numbered depth_stencil_numbered view_numbered draw_numbered
none-closes = refl

pub not_close : (operation : Operation) → (row_of operation).number ≡ CLOSE → ⊥
not_close operation e = absurd (let no : Some operation ≡ None = sym (told operation) ∙ ap operation_numbered e ∙ none-closes in cc)

not-zero : (operation : Operation) → ((row_of operation).number == 0) ≡ false
not-zero operation = ne_eqb (row_of operation).number 0 (not_close operation)

-- each operation is known
pub known : (operation : Operation) → is_known (row_of operation).number ≡ true
known operation = rw (not-zero operation, told operation) refl

-- a record has the lengths that its row allows
pub shape : (operation : Operation) (len : ℕ) → has_shape (row_of operation).number len ≡ allows BODY_MAX (row_of operation) len
shape operation len = rw (not-zero operation, told operation) refl
