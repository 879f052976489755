-- How texels lie in memory (OpenGL ES 2.0 section 3.6.2, and 3.7.1 for the pairs of format and type).
use Rattle.std.specs.Prelude.{ℕ, Bool, true, false, IsTrue}
use Rattle.gl_numbers.specs.declared.texture_words.Format.{Format}
use Rattle.gl_numbers.specs.declared.texture_words.Format.TheVariants.{Alpha, Rgb, Rgba, Luminance, LuminanceAlpha}
use Rattle.gl_numbers.specs.declared.texture_words.TexelType.{TexelType}
use Rattle.gl_numbers.specs.declared.texture_words.TexelType.TheVariants.{UnsignedByte, UnsignedShort4444, UnsignedShort5551, UnsignedShort565}
use Rattle.texel_rules.specs.declared.layouts.Layout.{Layout}

-- whether a type goes with a format: bytes with each, four channels of 16 bits with RGBA, three with RGB
abbrev pub goes_with : TexelType → Format → Bool
goes_with UnsignedByte format = true
goes_with UnsignedShort4444 Rgba = true
goes_with UnsignedShort5551 Rgba = true
goes_with UnsignedShort565 Rgb = true
goes_with kind format = false

-- whether the format and the type of a layout go together
abbrev pub is_allowed : Layout → Bool
is_allowed layout = goes_with layout.kind layout.format

-- the format and the type of a layout go together
abbrev pub IsAllowed : Layout → Type 0
IsAllowed layout = IsTrue (is_allowed layout)

-- how many channels a format has
abbrev pub channels : Format → ℕ
channels Alpha = 1
channels Luminance = 1
channels LuminanceAlpha = 2
channels Rgb = 3
channels Rgba = 4

-- how many bytes a texel has: one for each channel, or two for all
abbrev pub bytes_of : TexelType → Format → ℕ
bytes_of UnsignedByte format = channels format
bytes_of kind format = 2

-- how many bytes a texel of a layout has
abbrev pub texel_bytes : Layout → ℕ
texel_bytes layout = bytes_of layout.kind layout.format
