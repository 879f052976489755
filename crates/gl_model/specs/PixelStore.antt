-- Pixel store: how the texels that the page gives and reads lie in memory, and how colours are taken (WebGL 1.0 section 5.14.8;
-- OpenGL ES 2.0 sections 3.6.1 and 4.3.1).
use Rattle.std.specs.Prelude.{ℕ, ℤ, pos, negsuc, Bool, true, false, not, ◌||◌, ◌==◌, if◌then◌else◌, Option, Some, None, is_some}
use Rattle.std.specs.Option.{option_map_or}
use Rattle.std.specs.Ordering.{int_eq}
use Rattle.gl_numbers.specs.BufferRules.{whole}
use Rattle.gl_numbers.specs.PixelWords.{pixel_parameter_of, browser_default}
use Rattle.gl_numbers.specs.Refusals.{Rule, when, invalid_enum, invalid_value}
use Rattle.gl_numbers.specs.declared.pixel_words.PixelParameter.{PixelParameter}
use Rattle.gl_numbers.specs.declared.pixel_words.PixelParameter.TheVariants.{UnpackAlignment, PackAlignment, FlipY, PremultiplyAlpha, ColorspaceConversion}

-- the multiples of bytes at which rows begin, given and read; whether rows are taken from the last to the first, and colours
-- multiplied by their alpha value; and how colour spaces are converted, 0 for not at all
pub record PixelStore : Type 0 where
  pub unpack_alignment : ℕ
  pub pack_alignment : ℕ
  pub flip_y : Bool
  pub premultiply_alpha : Bool
  pub colorspace_conversion : ℕ

-- the pixel store at the start (OpenGL ES 2.0 section 6.2; WebGL 1.0 section 5.14.8)
abbrev pub first_pixels : PixelStore
first_pixels = record {
  unpack_alignment = 4;
  pack_alignment = 4;
  flip_y = false;
  premultiply_alpha = false;
  colorspace_conversion = browser_default;
}

-- whether a number is an alignment in bytes: 1, 2, 4 or 8 (OpenGL ES 2.0 section 3.6.1)
abbrev pub is_alignment : ℤ → Bool
is_alignment (pos n) = n == 1 || n == 2 || n == 4 || n == 8
is_alignment (negsuc n) = false

-- whether a number says how colour spaces are converted: 0 (NONE) or BROWSER_DEFAULT_WEBGL (WebGL 1.0 section 5.14.8)
abbrev pub is_conversion : ℤ → Bool
is_conversion (pos n) = n == 0 || n == browser_default
is_conversion (negsuc n) = false

-- whether a parameter takes a value; one that is true or false takes any
abbrev pub takes_value : PixelParameter → ℤ → Bool
takes_value UnpackAlignment value = is_alignment value
takes_value PackAlignment value = is_alignment value
takes_value FlipY value = true
takes_value PremultiplyAlpha value = true
takes_value ColorspaceConversion value = is_conversion value

-- the word is nothing that pixelStorei sets (WebGL 1.0 section 5.14.3)
abbrev pub bad_pixel_parameter : ℕ → Rule
bad_pixel_parameter word = when (not (is_some (pixel_parameter_of word))) invalid_enum

-- the parameter, if there is one, doesn't take the value (OpenGL ES 2.0 section 3.6.1; WebGL 1.0 section 5.14.8)
abbrev pub bad_pixel_value : Option PixelParameter → ℤ → Rule
bad_pixel_value parameter value = when (option_map_or (λ p. not (takes_value p value)) parameter false) invalid_value

-- the pixel store after a parameter took a value; 0 is false, and any other number is true
abbrev pub with_pixel : PixelParameter → ℤ → PixelStore → PixelStore
with_pixel UnpackAlignment value pixels = record pixels { unpack_alignment = whole value }
with_pixel PackAlignment value pixels = record pixels { pack_alignment = whole value }
with_pixel FlipY value pixels = record pixels { flip_y = not (int_eq value (pos 0)) }
with_pixel PremultiplyAlpha value pixels = record pixels { premultiply_alpha = not (int_eq value (pos 0)) }
with_pixel ColorspaceConversion value pixels = record pixels { colorspace_conversion = whole value }

-- the same, where there is a parameter
abbrev pub changed_pixel : Option PixelParameter → ℤ → PixelStore → PixelStore
changed_pixel None value pixels = pixels
changed_pixel (Some parameter) value pixels = with_pixel parameter value pixels

-- what getParameter returns of the pixel store; 1 is true, 0 is false
abbrev pub pixel_word : PixelParameter → PixelStore → ℕ
pixel_word UnpackAlignment pixels = pixels.unpack_alignment
pixel_word PackAlignment pixels = pixels.pack_alignment
pixel_word FlipY pixels = if pixels.flip_y then 1 else 0
pixel_word PremultiplyAlpha pixels = if pixels.premultiply_alpha then 1 else 0
pixel_word ColorspaceConversion pixels = pixels.colorspace_conversion
