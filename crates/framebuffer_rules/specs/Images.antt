-- Images as the status of a framebuffer sees them (OpenGL ES 2.0 section 4.4.5).
use Rattle.std.specs.Prelude.{ℕ, if◌then◌else◌, Option, Some, None, List, slice_index_or}
use Rattle.std.specs.Option.{option_map}
use Rattle.gl_numbers.specs.declared.framebuffer_words.Point.{Point}
use Rattle.gl_numbers.specs.declared.framebuffer_words.Point.TheVariants.{Color}
use Rattle.gl_numbers.specs.FramebufferWords.{framebuffer_complete, incomplete_attachment, incomplete_dimensions}
use Rattle.texel_rules.specs.FramebufferStatus.{Attached, AttachedImage, differ, spoils}
use Rattle.framebuffer_rules.specs.declared.images.ImageInfo.{ImageInfo}

-- an image as the status sees it
abbrev pub image_of : ImageInfo → AttachedImage
image_of info = record { is_texture = info.texture; width = info.width; height = info.height; format = info.format; kind = info.kind }

-- the images at the four points
abbrev pub four_attached : Option ImageInfo → Option ImageInfo → Option ImageInfo → Option ImageInfo → Attached
four_attached color depth stencil depth_stencil = record {
  color = option_map image_of color;
  depth = option_map image_of depth;
  stencil = option_map image_of stencil;
  depth_stencil = option_map image_of depth_stencil;
}

-- the images of a list: colour, depth, stencil, depth and stencil
abbrev pub attached_at : List (Option ImageInfo) → Attached
attached_at images =
    four_attached
    (slice_index_or images 0 None)
    (slice_index_or images 1 None)
    (slice_index_or images 2 None)
    (slice_index_or images 3 None)

-- the status where one image is attached
abbrev pub alone_status : Point → AttachedImage → ℕ
alone_status point image = if spoils point (Some image) then incomplete_attachment else framebuffer_complete

-- the status where a colour image and one other are attached
abbrev pub together_status : AttachedImage → Point → AttachedImage → ℕ
together_status color point other =
    if spoils Color (Some color) then incomplete_attachment
    else (if spoils point (Some other) then incomplete_attachment
    else (if differ (Some color) (Some other) then incomplete_dimensions else framebuffer_complete))
