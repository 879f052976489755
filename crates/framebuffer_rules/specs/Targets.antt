-- Renderbuffers and framebuffers by handle (OpenGL ES 2.0 sections 4.4.1 and 4.4.3), what each call refuses and what it does.
use Rattle.std.specs.Prelude.{◌≡◌, ℕ, ℤ, pos, negsuc, Bool, true, false, not, ◌||◌, nat_le, if◌then◌else◌, Option, Some, None, Result, Ok, Err, List, [], ◌∷◌}
use Rattle.std.specs.Option.{option_map, option_and_then}
use Rattle.std.specs.Ordering.{nat_cmp}
use Rattle.std.specs.FinMap.{FinMap, empty, from_entries, get, insert, remove}
use Rattle.gl_numbers.specs.declared.kinds.Kind.{Kind}
use Rattle.gl_numbers.specs.declared.kinds.Kind.TheVariants.{Renderbuffer, Framebuffer}
use Rattle.gl_numbers.specs.declared.errors.GlError.{GlError}
use Rattle.gl_numbers.specs.declared.framebuffer_words.Point.{Point}
use Rattle.gl_numbers.specs.declared.framebuffer_words.Point.TheVariants.{Color, Depth, Stencil, DepthStencil}
use Rattle.gl_numbers.specs.FramebufferWords.{is_renderbuffer_format, rgba4}
use Rattle.gl_numbers.specs.Limits.{image_side_max}
use Rattle.gl_numbers.specs.Refusals.{Rule, first_refusal, invalid_enum, invalid_value, when}
use Rattle.framebuffer_rules.specs.declared.images.Image.{Image}
use Rattle.framebuffer_rules.specs.declared.images.ImageInfo.{ImageInfo}
use Rattle.framebuffer_rules.specs.declared.targets.Storage.{Storage}
use Rattle.framebuffer_rules.specs.declared.targets.Attachments.{Attachments}

-- the renderbuffers and framebuffers that are there, by handle
pub record Stored : Type 0 where
  pub renderbuffers : FinMap nat_cmp Storage
  pub framebuffers : FinMap nat_cmp Attachments

-- what two lists of entries store
abbrev pub stored_in : List (ℕ × Storage) → List (ℕ × Attachments) → Stored
stored_in renderbuffers framebuffers = record { renderbuffers = from_entries renderbuffers; framebuffers = from_entries framebuffers }

-- nothing is made
abbrev pub no_targets : Stored
no_targets = record { renderbuffers = empty; framebuffers = empty }

-- a new renderbuffer: RGBA4 without texels (OpenGL ES 2.0 section 4.4.3)
abbrev pub new_storage : Storage
new_storage = record { format = rgba4; width = 0; height = 0 }

-- a new framebuffer: nothing is attached (OpenGL ES 2.0 section 4.4.1)
abbrev pub nothing_attached : Attachments
nothing_attached = record { color = None; depth = None; stencil = None; depth_stencil = None }

-- whether objects of a kind are targets: renderbuffers and framebuffers
abbrev pub is_target : Kind → Bool
is_target Renderbuffer = true
is_target Framebuffer = true
is_target kind = false

-- a new object of a kind; objects of other kinds are no targets
abbrev pub added : Kind → ℕ → Stored → Stored
added Renderbuffer h s = record s { renderbuffers = insert s.renderbuffers h new_storage }
added Framebuffer h s = record s { framebuffers = insert s.framebuffers h nothing_attached }
added kind h s = s

-- whether a side of a renderbuffer is allowed, in texels: from 0 to 2,048
abbrev pub is_side : ℤ → Bool
is_side (pos n) = nat_le n image_side_max
is_side (negsuc n) = false

-- an allowed side as a number
abbrev pub side : ℤ → ℕ
side (pos n) = n
side (negsuc n) = 0

-- a side as a number, if it is allowed
abbrev pub side_of : ℤ → Option ℕ
side_of z = if is_side z then Some (side z) else None

-- renderbufferStorage: the format is none of a renderbuffer's (OpenGL ES 2.0 section 4.4.3)
abbrev pub unknown_format : ℕ → Rule
unknown_format format = when (not (is_renderbuffer_format format)) invalid_enum

-- renderbufferStorage: a side is negative or above the largest (OpenGL ES 2.0 section 4.4.3)
abbrev pub bad_side : ℤ → ℤ → Rule
bad_side width height = when (not (is_side width) || not (is_side height)) invalid_value

-- what renderbufferStorage is refused for
abbrev pub storage_refusal : ℕ → ℤ → ℤ → Option GlError
storage_refusal format width height = first_refusal (unknown_format format ∷ bad_side width height ∷ [])

-- the renderbuffer has this format and these sides
abbrev pub with_storage : ℕ → ℕ → ℤ → ℤ → Stored → Stored
with_storage h format width height s =
    record s { renderbuffers = insert s.renderbuffers h (record { format = format; width = side width; height = side height }) }

-- what is attached at a point
abbrev pub at_point : Point → Attachments → Option Image
at_point Color images = images.color
at_point Depth images = images.depth
at_point Stencil images = images.stencil
at_point DepthStencil images = images.depth_stencil

-- an image, or none, is attached at a point
abbrev pub put_at : Point → Option Image → Attachments → Attachments
put_at Color image images = record images { color = image }
put_at Depth image images = record images { depth = image }
put_at Stencil image images = record images { stencil = image }
put_at DepthStencil image images = record images { depth_stencil = image }

-- the framebuffers with the attachments of one changed, as they were found
abbrev pub changed_at : FinMap nat_cmp Attachments → ℕ → (Attachments → Attachments) → Option Attachments → FinMap nat_cmp Attachments
changed_at framebuffers h change None = framebuffers
changed_at framebuffers h change (Some images) = insert framebuffers h (change images)

-- an image, or none, is attached to a framebuffer that is there (framebufferTexture2D, framebufferRenderbuffer)
abbrev pub with_image : ℕ → Point → Option Image → Stored → Stored
with_image framebuffer point image s =
    record s { framebuffers = changed_at s.framebuffers framebuffer (put_at point image) (get s.framebuffers framebuffer) }

-- what is attached to a framebuffer at a point
abbrev pub image_at : Stored → ℕ → Point → Option Image
image_at s framebuffer point = option_and_then (at_point point) (get s.framebuffers framebuffer)

-- a renderbuffer as an image
abbrev pub info_of : Storage → ImageInfo
info_of storage = record { texture = false; width = storage.width; height = storage.height; format = storage.format; kind = 0 }

-- the renderbuffer of a handle as an image, if it is there
abbrev pub info_at : Stored → ℕ → Option ImageInfo
info_at s h = option_map info_of (get s.renderbuffers h)

-- the object of a handle is gone; a framebuffer lets go of what is attached to it
abbrev pub without : ℕ → Stored → Stored
without h s = record { renderbuffers = remove s.renderbuffers h; framebuffers = remove s.framebuffers h }

-- a call returns its refusal, if it has one
abbrev pub Answers : Option GlError → Result (Unit {0}) GlError → Type 0
Answers refusal (Ok _) = refusal ≡ None
Answers refusal (Err e) = refusal ≡ Some e
