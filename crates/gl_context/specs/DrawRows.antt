-- The calls that draw, or ask that what was drawn be done (WebGL 1.0 section 5.14.11; OpenGL ES 2.0 section 5.1): a row each.
use Rattle.std.specs.Prelude.{[]}
use Rattle.call_records.specs.declared.draw_calls.DrawCall.{DrawCall}
use Rattle.call_records.specs.declared.draw_calls.DrawCall.TheVariants.{Finish}
use Rattle.gl_model.specs.PageState.{PageState}
use Rattle.gl_context.specs.Row.{Row, acting}

-- flush and finish: nothing, since each command is sent at once
abbrev pub finish_row : PageState → Row
finish_row w = acting [] w []

-- the row of each of these calls
abbrev pub draw_row : PageState → DrawCall → Row
draw_row w (Finish waits) = finish_row w
