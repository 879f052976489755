-- The words of attachment points, of formats of renderbuffers and of a framebuffer's status (OpenGL ES 2.0 sections 4.4.3 and
-- 4.4.5, WebGL 1.0 section 6.6).
use Rattle.std.specs.Prelude.{ℕ, Bool, Option, Some, None, ◌==◌, ◌||◌, if◌then◌else◌}
use Rattle.gl_numbers.specs.declared.framebuffer_words.Point.{Point}
use Rattle.gl_numbers.specs.declared.framebuffer_words.Point.TheVariants.{Color, Depth, Stencil, DepthStencil}

-- the word of a point: COLOR_ATTACHMENT0 0x8CE0, DEPTH_ATTACHMENT 0x8D00, STENCIL_ATTACHMENT 0x8D20, DEPTH_STENCIL_ATTACHMENT 0x821A
abbrev pub point_word : Point → ℕ
point_word Color = 36064
point_word Depth = 36096
point_word Stencil = 36128
point_word DepthStencil = 33306

-- the point of a word, if it is one
abbrev pub point_of : ℕ → Option Point
point_of n =
    if n == point_word Color then Some Color
    else (if n == point_word Depth then Some Depth
    else (if n == point_word Stencil then Some Stencil
    else (if n == point_word DepthStencil then Some DepthStencil else None)))

-- RGBA4, 0x8056
abbrev pub rgba4 : ℕ
rgba4 = 32854

-- RGB5_A1, 0x8057
abbrev pub rgb5_a1 : ℕ
rgb5_a1 = 32855

-- RGB565, 0x8D62
abbrev pub rgb565 : ℕ
rgb565 = 36194

-- DEPTH_COMPONENT16, 0x81A5
abbrev pub depth_component16 : ℕ
depth_component16 = 33189

-- STENCIL_INDEX8, 0x8D48
abbrev pub stencil_index8 : ℕ
stencil_index8 = 36168

-- DEPTH_STENCIL, 0x84F9
abbrev pub depth_stencil : ℕ
depth_stencil = 34041

-- whether the word is a format of renderbuffers
abbrev pub is_renderbuffer_format : ℕ → Bool
is_renderbuffer_format n =
    (n == rgba4) || (n == rgb5_a1) || (n == rgb565) || (n == depth_component16) || (n == stencil_index8) || (n == depth_stencil)

-- FRAMEBUFFER_COMPLETE, 0x8CD5
abbrev pub framebuffer_complete : ℕ
framebuffer_complete = 36053

-- FRAMEBUFFER_INCOMPLETE_ATTACHMENT, 0x8CD6
abbrev pub incomplete_attachment : ℕ
incomplete_attachment = 36054

-- FRAMEBUFFER_INCOMPLETE_MISSING_ATTACHMENT, 0x8CD7
abbrev pub missing_attachment : ℕ
missing_attachment = 36055

-- FRAMEBUFFER_INCOMPLETE_DIMENSIONS, 0x8CD9
abbrev pub incomplete_dimensions : ℕ
incomplete_dimensions = 36057

-- FRAMEBUFFER_UNSUPPORTED, 0x8CDD
abbrev pub framebuffer_unsupported : ℕ
framebuffer_unsupported = 36061
