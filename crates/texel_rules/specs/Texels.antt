-- Texels taken apart into channels, multiplied by their alpha and packed again (OpenGL ES 2.0 section 3.6.2, WebGL 1.0 section
-- 5.14.8).
use Rattle.std.specs.Prelude.{ℕ, ◌+◌, ◌*◌, ◌/◌, ◌%◌, ◌^◌, ◌<◌, Bool, true, false, if◌then◌else◌, List, [], ◌∷◌, slice_index}
use Rattle.gl_numbers.specs.declared.texture_words.Format.{Format}
use Rattle.gl_numbers.specs.declared.texture_words.Format.TheVariants.{Alpha, Rgb, Rgba, Luminance, LuminanceAlpha}
use Rattle.gl_numbers.specs.declared.texture_words.TexelType.{TexelType}
use Rattle.gl_numbers.specs.declared.texture_words.TexelType.TheVariants.{UnsignedByte, UnsignedShort4444, UnsignedShort5551, UnsignedShort565}
use Rattle.texel_rules.specs.declared.layouts.Layout.{Layout}
use Rattle.texel_rules.specs.declared.layouts.Texel.{Texel}

-- a texel, written as its channels
abbrev pub texel : ℕ → ℕ → ℕ → ℕ → Texel
texel r g b a = record { r = r; g = g; b = b; a = a }

-- the word of 16 bits that two bytes are, the low one first
abbrev pub word_of : List ℕ → ℕ
word_of bytes = slice_index bytes 0 + 2 ^ 8 * slice_index bytes 1

-- the two bytes of a word of 16 bits, the low one first
abbrev pub le16 : ℕ → List ℕ
le16 word = word % 2 ^ 8 ∷ word / 2 ^ 8 ∷ []

-- a field of a word: as many bits as its width, from the bit `low` on
abbrev pub field : ℕ → ℕ → ℕ → ℕ
field word low width = word / 2 ^ low % 2 ^ width

-- a texel of one byte for each channel
abbrev pub texel_of_bytes : Format → List ℕ → Texel
texel_of_bytes Alpha bytes = texel 0 0 0 (slice_index bytes 0)
texel_of_bytes Luminance bytes = texel (slice_index bytes 0) 0 0 0
texel_of_bytes LuminanceAlpha bytes = texel (slice_index bytes 0) 0 0 (slice_index bytes 1)
texel_of_bytes Rgb bytes = texel (slice_index bytes 0) (slice_index bytes 1) (slice_index bytes 2) 0
texel_of_bytes Rgba bytes = texel (slice_index bytes 0) (slice_index bytes 1) (slice_index bytes 2) (slice_index bytes 3)

-- a texel of a type: of bytes, or the fields of a word, red in its highest bits
abbrev pub texel_by : TexelType → Format → List ℕ → Texel
texel_by UnsignedByte format bytes = texel_of_bytes format bytes
texel_by UnsignedShort4444 format bytes =
    texel (field (word_of bytes) 12 4) (field (word_of bytes) 8 4) (field (word_of bytes) 4 4) (field (word_of bytes) 0 4)
texel_by UnsignedShort5551 format bytes =
    texel (field (word_of bytes) 11 5) (field (word_of bytes) 6 5) (field (word_of bytes) 1 5) (field (word_of bytes) 0 1)
texel_by UnsignedShort565 format bytes = texel (field (word_of bytes) 11 5) (field (word_of bytes) 5 6) (field (word_of bytes) 0 5) 0

-- the texel that lies in these bytes
abbrev pub texel_of : Layout → List ℕ → Texel
texel_of layout bytes = texel_by layout.kind layout.format bytes

-- the bytes of a texel of one byte for each channel
abbrev pub packed_bytes : Format → Texel → List ℕ
packed_bytes Alpha t = t.a ∷ []
packed_bytes Luminance t = t.r ∷ []
packed_bytes LuminanceAlpha t = t.r ∷ t.a ∷ []
packed_bytes Rgb t = t.r ∷ t.g ∷ t.b ∷ []
packed_bytes Rgba t = t.r ∷ t.g ∷ t.b ∷ t.a ∷ []

-- the bytes of a texel of a type
abbrev pub packed_by : TexelType → Format → Texel → List ℕ
packed_by UnsignedByte format t = packed_bytes format t
packed_by UnsignedShort4444 format t = le16 (t.r * 2 ^ 12 + t.g * 2 ^ 8 + t.b * 2 ^ 4 + t.a)
packed_by UnsignedShort5551 format t = le16 (t.r * 2 ^ 11 + t.g * 2 ^ 6 + t.b * 2 + t.a)
packed_by UnsignedShort565 format t = le16 (t.r * 2 ^ 11 + t.g * 2 ^ 5 + t.b)

-- the bytes in which a texel lies
abbrev pub packed : Layout → Texel → List ℕ
packed layout t = packed_by layout.kind layout.format t

-- the channels of a texel lie within these widths, in bits
pub record IsWithin (r g b a : ℕ) (t : Texel) : Type 0 where
  pub red : t.r < 2 ^ r
  pub green : t.g < 2 ^ g
  pub blue : t.b < 2 ^ b
  pub alpha : t.a < 2 ^ a

-- the channels of a texel lie within the widths of its type
abbrev pub IsTexelBy : TexelType → Texel → Type 0
IsTexelBy UnsignedByte t = IsWithin 8 8 8 8 t
IsTexelBy UnsignedShort4444 t = IsWithin 4 4 4 4 t
IsTexelBy UnsignedShort5551 t = IsWithin 5 5 5 1 t
IsTexelBy UnsignedShort565 t = IsWithin 5 6 5 8 t

-- the channels of a texel lie within their widths
abbrev pub IsTexel : Layout → Texel → Type 0
IsTexel layout t = IsTexelBy layout.kind t

-- the largest alpha of a type, which stands for 1
abbrev pub full_alpha : TexelType → ℕ
full_alpha UnsignedByte = 255
full_alpha UnsignedShort4444 = 15
full_alpha UnsignedShort5551 = 1
full_alpha UnsignedShort565 = 1

-- a colour times an alpha of which `full` stands for 1, rounded to the nearest
abbrev pub scaled : ℕ → ℕ → ℕ → ℕ
scaled full colour alpha = (colour * alpha + full / 2) / full

-- whether a format has an alpha, and channels that it multiplies: those of RGBA and the luminance of LUMINANCE_ALPHA
abbrev pub is_premultiplied : Format → Bool
is_premultiplied Rgba = true
is_premultiplied LuminanceAlpha = true
is_premultiplied format = false

-- the texel with its colours multiplied by its alpha, where the format has both
abbrev pub premultiplied_by : ℕ → Format → Texel → Texel
premultiplied_by full Rgba t = texel (scaled full t.r t.a) (scaled full t.g t.a) (scaled full t.b t.a) t.a
premultiplied_by full LuminanceAlpha t = record t { r = scaled full t.r t.a }
premultiplied_by full format t = t

-- the texel premultiplied (UNPACK_PREMULTIPLY_ALPHA_WEBGL, WebGL 1.0 section 5.14.8)
abbrev pub premultiplied : Layout → Texel → Texel
premultiplied layout t = premultiplied_by (full_alpha layout.kind) layout.format t

-- the bytes of a texel taken apart, premultiplied where that is on, and packed again
abbrev pub converted : Layout → Bool → List ℕ → List ℕ
converted layout premultiply bytes =
    packed layout (if premultiply then premultiplied layout (texel_of layout bytes) else texel_of layout bytes)
