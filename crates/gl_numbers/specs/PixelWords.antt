-- The words of pixel store, which pixelStorei sets (WebGL 1.0 section 5.14.8; OpenGL ES 2.0 sections 3.6.1 and 4.3.1).
use Rattle.std.specs.Prelude.{ℕ, Option, Some, None, ◌==◌, if◌then◌else◌}
use Rattle.gl_numbers.specs.declared.pixel_words.PixelParameter.{PixelParameter}
use Rattle.gl_numbers.specs.declared.pixel_words.PixelParameter.TheVariants.{UnpackAlignment, PackAlignment, FlipY, PremultiplyAlpha, ColorspaceConversion}

-- the word of what pixelStorei sets: UNPACK_ALIGNMENT 0x0CF5, PACK_ALIGNMENT 0x0D05, UNPACK_FLIP_Y_WEBGL 0x9240,
-- UNPACK_PREMULTIPLY_ALPHA_WEBGL 0x9241, UNPACK_COLORSPACE_CONVERSION_WEBGL 0x9243
abbrev pub pixel_parameter_word : PixelParameter → ℕ
pixel_parameter_word UnpackAlignment = 3317
pixel_parameter_word PackAlignment = 3333
pixel_parameter_word FlipY = 37440
pixel_parameter_word PremultiplyAlpha = 37441
pixel_parameter_word ColorspaceConversion = 37443

-- what a word says that is set, if it is one of these
unfoldable pub pixel_parameter_of : ℕ → Option PixelParameter
pixel_parameter_of n =
    if n == pixel_parameter_word UnpackAlignment then Some UnpackAlignment
    else (if n == pixel_parameter_word PackAlignment then Some PackAlignment
    else (if n == pixel_parameter_word FlipY then Some FlipY
    else (if n == pixel_parameter_word PremultiplyAlpha then Some PremultiplyAlpha
    else (if n == pixel_parameter_word ColorspaceConversion then Some ColorspaceConversion else None))))

-- BROWSER_DEFAULT_WEBGL, 0x9244: the colour space of an image is converted as the browser does by default
abbrev pub browser_default : ℕ
browser_default = 37444
