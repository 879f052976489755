-- The page's state (WebGL 1.0 section 5; OpenGL ES 2.0 chapters 2 to 4 and 6): the objects that were given handles, what each
-- kind of object holds, what is bound, the vertex attributes, the pixel store, the error flags, and the raster state.
use Rattle.std.specs.Prelude.{ℕ, Bool, true, false, not, ◌&&◌, ◌||◌, if◌then◌else◌, List, [], nat_lt}
use Rattle.std.specs.Option.{option_map_or}
use Rattle.gl_numbers.specs.ByHandle.{object_at}
use Rattle.gl_numbers.specs.declared.kinds.Kind as Kinds
use Rattle.gl_numbers.specs.declared.kinds.Kind.TheVariants as kind
use Rattle.attrib_state.specs.Attributes.{Attributes, first_attributes}
use Rattle.raster_state.specs.FirstWords.{first_words}
use Rattle.raster_state.specs.declared.words.RasterWords.{RasterWords}
use Rattle.gl_model.specs.Errors.{ErrorSet, no_errors}
use Rattle.gl_model.specs.BufferState.{BufferState, no_buffers}
use Rattle.gl_model.specs.PixelStore.{PixelStore, first_pixels}

-- an object that the page made: its kind, and whether it was marked by a delete
pub record Object : Type 0 where
  pub kind : Kinds.Kind
  pub marked : Bool

-- the page's state: the object of handle h stands at place h - 1; the buffers are those by handle, the attributes those by index
pub record PageState : Type 0 where
  pub objects : List Object
  pub buffers : BufferState
  pub attributes : Attributes
  pub pixels : PixelStore
  pub errors : ErrorSet
  pub raster : RasterWords

-- the page's state at the start
abbrev pub first_page : PageState
first_page = record {
  objects = [];
  buffers = no_buffers;
  attributes = first_attributes;
  pixels = first_pixels;
  errors = no_errors;
  raster = first_words;
}

-- an object that was just made
abbrev pub new_object : Kinds.Kind → Object
new_object kind = record { kind = kind; marked = false }

-- an object that is marked
abbrev pub mark : Object → Object
mark o = record o { marked = true }

-- whether two kinds are one
abbrev pub same_kind : Kinds.Kind → Kinds.Kind → Bool
same_kind kind.Buffer kind.Buffer = true
same_kind kind.Texture kind.Texture = true
same_kind kind.Renderbuffer kind.Renderbuffer = true
same_kind kind.Framebuffer kind.Framebuffer = true
same_kind kind.Shader kind.Shader = true
same_kind kind.Program kind.Program = true
same_kind _ _ = false

-- how many objects and bindings hold an object so that it outlives its delete (OpenGL ES 2.0 appendix C); nothing holds a buffer so
abbrev pub holders : PageState → ℕ → ℕ
holders w handle = 0

-- whether objects of a kind are there after their delete while they are held; buffers and framebuffers aren't (OpenGL ES 2.0 appendix C)
abbrev pub outlives : Kinds.Kind → Bool
outlives kind.Buffer = false
outlives kind.Framebuffer = false
outlives _ = true

-- whether an object, of which there are so many holders, is there
abbrev pub is_there : ℕ → Object → Bool
is_there held o = if outlives o.kind then not o.marked || nat_lt 0 held else not o.marked

-- whether the object of a handle is there
abbrev pub is_held : PageState → ℕ → Bool
is_held w handle = option_map_or (is_there (holders w handle)) (object_at w.objects handle) false

-- whether a handle was given to an object of a kind
abbrev pub was_given : PageState → Kinds.Kind → ℕ → Bool
was_given w kind handle = option_map_or (λ o. same_kind kind o.kind) (object_at w.objects handle) false

-- whether a handle names one of these objects that is of a kind and wasn't deleted
abbrev pub lives : List Object → Kinds.Kind → ℕ → Bool
lives objects kind handle = option_map_or (λ o. same_kind kind o.kind && not o.marked) (object_at objects handle) false

-- whether a handle names an object of a kind that wasn't deleted (WebGL 1.0 section 5.14.5, isBuffer and its kin)
abbrev pub is_live : PageState → Kinds.Kind → ℕ → Bool
is_live w kind handle = lives w.objects kind handle

-- a shader or program that is marked stays an argument while it is there; any other object that is marked is none
abbrev pub stays_argument : Kinds.Kind → Bool
stays_argument kind.Shader = true
stays_argument kind.Program = true
stays_argument _ = false

-- whether a handle is a valid argument of a call on a kind of object (WebGL 1.0 section 5.14): it names one that isn't gone
abbrev pub is_argument : PageState → Kinds.Kind → ℕ → Bool
is_argument w kind handle = if stays_argument kind then was_given w kind handle && is_held w handle else is_live w kind handle
