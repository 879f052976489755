-- The calls that set raster state (WebGL 1.0 sections 5.14.3 and 5.14.4): one row for all of them. Each is refused by the rules of its
-- words, whatever the state is, and sends nothing: the driver gets raster state where something is drawn.
use Rattle.std.specs.Prelude.{[]}
use Rattle.call_records.specs.declared.raster_calls.RasterCall.{RasterCall}
use Rattle.raster_state.specs.Rules.{raster_rules}
use Rattle.raster_state.specs.Effects.{raster_effect}
use Rattle.gl_model.specs.PageState.{PageState}
use Rattle.gl_context.specs.Row.{Row, acting}

-- a call that sets raster state
abbrev pub raster_row : PageState → RasterCall → Row
raster_row w call = acting (raster_rules call) (record w { raster = raster_effect call w.raster }) []
