-- The words of texture parameters and of their values (OpenGL ES 2.0 section 3.7.4).
use Rattle.std.specs.Prelude.{ℕ, Bool, ◌==◌, ◌||◌}

-- TEXTURE_MAG_FILTER, 0x2800
abbrev pub texture_mag_filter : ℕ
texture_mag_filter = 10240

-- TEXTURE_MIN_FILTER, 0x2801
abbrev pub texture_min_filter : ℕ
texture_min_filter = 10241

-- TEXTURE_WRAP_S, 0x2802
abbrev pub texture_wrap_s : ℕ
texture_wrap_s = 10242

-- TEXTURE_WRAP_T, 0x2803
abbrev pub texture_wrap_t : ℕ
texture_wrap_t = 10243

-- whether the word is a parameter of textures
abbrev pub is_texture_parameter : ℕ → Bool
is_texture_parameter n = (n == texture_mag_filter) || (n == texture_min_filter) || (n == texture_wrap_s) || (n == texture_wrap_t)

-- NEAREST, 0x2600
abbrev pub nearest : ℕ
nearest = 9728

-- LINEAR, 0x2601
abbrev pub linear : ℕ
linear = 9729

-- NEAREST_MIPMAP_NEAREST, 0x2700; the three other filters that read several levels follow it
abbrev pub nearest_mipmap_nearest : ℕ
nearest_mipmap_nearest = 9984

-- NEAREST_MIPMAP_LINEAR, 0x2702
abbrev pub nearest_mipmap_linear : ℕ
nearest_mipmap_linear = 9986

-- REPEAT, 0x2901
abbrev pub repeat : ℕ
repeat = 10497

-- CLAMP_TO_EDGE, 0x812F
abbrev pub clamp_to_edge : ℕ
clamp_to_edge = 33071

-- MIRRORED_REPEAT, 0x8370
abbrev pub mirrored_repeat : ℕ
mirrored_repeat = 33648

-- whether the word is a magnification filter
abbrev pub is_magnification : ℕ → Bool
is_magnification n = (n == nearest) || (n == linear)

-- whether the word is a minification filter that reads other levels than the base: 0x2700 to 0x2703
abbrev pub is_mipmap_filter : ℕ → Bool
is_mipmap_filter n = (n == nearest_mipmap_nearest) || (n == 9985) || (n == nearest_mipmap_linear) || (n == 9987)

-- whether the word is a minification filter
abbrev pub is_minification : ℕ → Bool
is_minification n = is_magnification n || is_mipmap_filter n

-- whether the word is a wrap
abbrev pub is_wrap : ℕ → Bool
is_wrap n = (n == repeat) || (n == clamp_to_edge) || (n == mirrored_repeat)
