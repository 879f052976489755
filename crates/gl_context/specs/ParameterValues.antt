-- What getParameter returns (WebGL 1.0 section 5.14.3; OpenGL ES 2.0 section 6.2), by the part of the state that has it.
use Rattle.std.specs.Prelude.{ℕ, ℤ, map, unwrap_or}
use Rattle.std.specs.Int.{cast_unsigned, w32}
use Rattle.gl_numbers.specs.BufferBindings.{binding}
use Rattle.gl_numbers.specs.Parameters.{limit_value}
use Rattle.gl_numbers.specs.declared.parameters.RasterParameter.{RasterParameter}
use Rattle.gl_numbers.specs.declared.parameters.RasterParameter.TheVariants.{CullSide, Winding, DepthMask, DepthFunc, ClearStencil, Viewport, Scissor, ClearColor, ColorMask, BlendColor}
use Rattle.gl_numbers.specs.declared.parameters.Parameter.{Parameter}
use Rattle.gl_numbers.specs.declared.parameters.Parameter.TheVariants.{Bound, Pixel, Raster, Limit}
use Rattle.call_records.specs.declared.replies.Value as Values
use Rattle.call_records.specs.declared.replies.Value.TheVariants as Value
use Rattle.raster_state.specs.declared.words.RasterWords.{RasterWords}
use Rattle.gl_model.specs.PageState.{PageState}
use Rattle.gl_model.specs.PixelStore.{pixel_word}
use Rattle.gl_context.specs.Row.{number_of_truth}

-- the word of the same 32 bits as a number with a sign
unfoldable pub word_of : ℤ → ℕ
word_of number = cast_unsigned w32 number

-- raster state: 1 is true and 0 is false, and a number with a sign is the word of the same bits
abbrev pub raster_value : RasterParameter → RasterWords → Values.Value
raster_value CullSide raster = Value.Number raster.cull_side
raster_value Winding raster = Value.Number raster.winding
raster_value DepthMask raster = Value.Number (number_of_truth raster.depth_mask)
raster_value DepthFunc raster = Value.Number raster.depth_func
raster_value ClearStencil raster = Value.Number (word_of raster.clear_stencil)
raster_value Viewport raster = Value.List (map word_of raster.viewport)
raster_value Scissor raster = Value.List (map word_of raster.scissor)
raster_value ClearColor raster = Value.List raster.clear_color
raster_value ColorMask raster = Value.List (map number_of_truth raster.color_mask)
raster_value BlendColor raster = Value.List raster.blend_color

-- what the page's state has for a parameter; no buffer is 0
abbrev pub parameter_value : PageState → Parameter → Values.Value
parameter_value w (Bound target) = Value.Number (unwrap_or (binding w.buffers.bound target) 0)
parameter_value w (Pixel parameter) = Value.Number (pixel_word parameter w.pixels)
parameter_value w (Raster parameter) = raster_value parameter w.raster
parameter_value w (Limit limit) = Value.Number (limit_value limit)
