-- The page's machine: one step for each call, by the call's row.
use Rattle.std.specs.Prelude.{◌≡◌, Bool, true, None, ◌==◌}
use Rattle.gl_numbers.specs.Errors.{out_of_memory}
use Rattle.call_records.specs.declared.calls.Call.{Call}
use Rattle.call_records.specs.declared.calls.Call.TheVariants.{Object, Buffer, Attrib, Texture, Query, Raster, Draw}
use Rattle.call_records.specs.declared.replies.Reply.{Reply}
use Rattle.gl_model.specs.PageState.{PageState}
use Rattle.gl_context.specs.Row.{Row, Stepped, refusal_of, step_by}
use Rattle.gl_context.specs.ObjectRows.{object_row}
use Rattle.gl_context.specs.BufferRows.{buffer_row}
use Rattle.gl_context.specs.AttribRows.{attrib_row}
use Rattle.gl_context.specs.TextureRows.{texture_row}
use Rattle.gl_context.specs.QueryRows.{query_row}
use Rattle.gl_context.specs.RasterRows.{raster_row}
use Rattle.gl_context.specs.DrawRows.{draw_row}

-- the row of a call
abbrev pub row_of : PageState → Call → Row
row_of w (Object call) = object_row w call
row_of w (Buffer call) = buffer_row w call
row_of w (Attrib call) = attrib_row w call
row_of w (Texture call) = texture_row w call
row_of w (Query call) = query_row w call
row_of w (Raster call) = raster_row w call
row_of w (Draw call) = draw_row w call

-- the step of a call, and whether memory ran out
abbrev pub step : PageState → Call → Bool → Stepped
step w call out_of_memory = step_by w (row_of w call) out_of_memory

-- memory may run out at a row: no rule refuses it, and it is one of those that take memory
pub record MayRunOut (row : Row) : Type 0 where
  pub unrefused : refusal_of row ≡ None
  pub kind : row.may_run_out ≡ true

-- memory may run out at a call
abbrev pub MayBeOutOfMemory : PageState → Call → Type 0
MayBeOutOfMemory w call = MayRunOut (row_of w call)

-- a reply that says that memory ran out
abbrev pub is_out_of_memory : Reply → Bool
is_out_of_memory reply = reply.raised == out_of_memory
