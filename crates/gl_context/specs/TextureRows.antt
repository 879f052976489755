-- The calls on textures and how their texels are given (WebGL 1.0 section 5.14.8; OpenGL ES 2.0 section 3.6.1): a row each.
use Rattle.std.specs.Prelude.{ℕ, ℤ, [], ◌∷◌}
use Rattle.gl_numbers.specs.PixelWords.{pixel_parameter_of}
use Rattle.call_records.specs.declared.texture_calls.TextureCall.{TextureCall}
use Rattle.call_records.specs.declared.texture_calls.TextureCall.TheVariants.{PixelStorei}
use Rattle.gl_model.specs.PageState.{PageState}
use Rattle.gl_model.specs.PixelStore.{bad_pixel_parameter, bad_pixel_value, changed_pixel}
use Rattle.gl_context.specs.Row.{Row, acting}

-- pixelStorei
abbrev pub pixel_row : PageState → ℕ → ℤ → Row
pixel_row w name value =
    acting (bad_pixel_parameter name ∷ bad_pixel_value (pixel_parameter_of name) value ∷ [])
    (record w { pixels = changed_pixel (pixel_parameter_of name) value w.pixels }) []

-- the row of each call on textures
abbrev pub texture_row : PageState → TextureCall → Row
texture_row w (PixelStorei name value) = pixel_row w name value
