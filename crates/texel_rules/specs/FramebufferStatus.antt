-- The status of a framebuffer (OpenGL ES 2.0 section 4.4.5, WebGL 1.0 section 6.6).
use Rattle.std.specs.Prelude.{ℕ, Bool, false, ◌==◌, ◌&&◌, ◌||◌, not, if◌then◌else◌, Option, Some, None, is_some}
use Rattle.gl_numbers.specs.declared.framebuffer_words.Point.{Point}
use Rattle.gl_numbers.specs.declared.framebuffer_words.Point.TheVariants.{Color, Depth, Stencil, DepthStencil}
use Rattle.gl_numbers.specs.declared.texture_words.Format.TheVariants.{Rgb, Rgba}
use Rattle.gl_numbers.specs.declared.texture_words.TexelType.TheVariants.{UnsignedByte, UnsignedShort4444, UnsignedShort5551, UnsignedShort565}
use Rattle.gl_numbers.specs.TextureWords.{format_word, texel_type_word}
use Rattle.gl_numbers.specs.FramebufferWords.{depth_component16, depth_stencil, framebuffer_complete, framebuffer_unsupported, incomplete_attachment, incomplete_dimensions, missing_attachment, rgb565, rgb5_a1, rgba4, stencil_index8}

-- an image that is attached: a texture's, with the words of its format and type, or a renderbuffer, with its format
pub record AttachedImage : Type 0 where
  pub is_texture : Bool
  pub width : ℕ
  pub height : ℕ
  pub format : ℕ
  pub kind : ℕ

-- the images of a framebuffer, by point
pub record Attached : Type 0 where
  pub color : Option AttachedImage
  pub depth : Option AttachedImage
  pub stencil : Option AttachedImage
  pub depth_stencil : Option AttachedImage

-- whether a colour image may have these words of format and type: those of textures
abbrev pub is_color_texture : ℕ → ℕ → Bool
is_color_texture format kind =
    ((kind == texel_type_word UnsignedByte) && ((format == format_word Rgba) || (format == format_word Rgb)))
    || ((format == format_word Rgba) && ((kind == texel_type_word UnsignedShort4444) || (kind == texel_type_word UnsignedShort5551)))
    || ((format == format_word Rgb) && (kind == texel_type_word UnsignedShort565))

-- whether a renderbuffer of this format is a colour image
abbrev pub is_color_renderbuffer : ℕ → Bool
is_color_renderbuffer format = (format == rgba4) || (format == rgb5_a1) || (format == rgb565)

-- whether an image is fit for a point, by its format and type
abbrev pub is_fit : Point → AttachedImage → Bool
is_fit Color image = if image.is_texture then is_color_texture image.format image.kind else is_color_renderbuffer image.format
is_fit Depth image = not image.is_texture && (image.format == depth_component16)
is_fit Stencil image = not image.is_texture && (image.format == stencil_index8)
is_fit DepthStencil image = not image.is_texture && (image.format == depth_stencil)

-- whether what is attached at a point spoils it: an image without texels, or one that is unfit
abbrev pub spoils : Point → Option AttachedImage → Bool
spoils point None = false
spoils point (Some image) = (image.width == 0) || (image.height == 0) || not (is_fit point image)

-- whether images are attached at two points, and differ in width or height
abbrev pub differ : Option AttachedImage → Option AttachedImage → Bool
differ (Some a) (Some b) = not (a.width == b.width) || not (a.height == b.height)
differ a b = false

-- whether no image is attached
abbrev pub is_bare : Attached → Bool
is_bare images =
    not (is_some images.color) && not (is_some images.depth) && not (is_some images.stencil) && not (is_some images.depth_stencil)

-- whether images are attached at two of the points of depth, stencil, and depth and stencil
abbrev pub has_pair : Attached → Bool
has_pair images =
    (is_some images.depth && is_some images.stencil) || (is_some images.depth && is_some images.depth_stencil)
    || (is_some images.stencil && is_some images.depth_stencil)

-- whether an image has no texels or is unfit for its point
abbrev pub has_unfit : Attached → Bool
has_unfit images =
    spoils Color images.color || spoils Depth images.depth || spoils Stencil images.stencil || spoils DepthStencil images.depth_stencil

-- whether two images differ in width or height
abbrev pub has_sizes : Attached → Bool
has_sizes images =
    differ images.color images.depth || differ images.color images.stencil || differ images.color images.depth_stencil
    || differ images.depth images.stencil || differ images.depth images.depth_stencil || differ images.stencil images.depth_stencil

-- the status of a framebuffer: that of the first rule that applies
abbrev pub framebuffer_status : Attached → ℕ
framebuffer_status images =
    if is_bare images then missing_attachment
    else (if has_pair images then framebuffer_unsupported
    else (if has_unfit images then incomplete_attachment
    else (if has_sizes images then incomplete_dimensions else framebuffer_complete)))
