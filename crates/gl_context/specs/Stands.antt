-- What stands for what: what the context keeps, the page's state, and the driver's state. Each is a record of parts, a part for
-- each subject, over its own parts of the states.
use Rattle.std.specs.Prelude.{◌≡◌, ℕ, ◌<◌, ◌≤◌, Bool, false, Option, None, Some, is_some, IfSome, List, [], length}
use Rattle.std.specs.Option.{option_map, option_and_then}
use Rattle.std.specs.FinMap.{get}
use Rattle.gl_numbers.specs.BufferBindings.{binding}
use Rattle.gl_numbers.specs.ByHandle.{object_at}
use Rattle.gl_numbers.specs.Limits.{buffer_bytes_max, handles_max}
use Rattle.gl_numbers.specs.declared.buffer_words.BufferTarget.{BufferTarget}
use Rattle.gl_numbers.specs.declared.buffer_words.BufferTarget.TheVariants.{Array, ElementArray}
use Rattle.gl_numbers.specs.declared.kinds.Kind.TheVariants as kind
use Rattle.object_names.specs.Objects as Names
use Rattle.buffer_store.specs.StoredBuffer.{StoredBuffer}
use Rattle.buffer_store.specs.Stored.{Stored}
use Rattle.attrib_state.specs.Attributes.{Attributes}
use Rattle.raster_state.specs.declared.words.RasterWords.{RasterWords}
use Rattle.gl_model.specs.Errors.{ErrorSet}
use Rattle.gl_model.specs.Buffers.{Buffer}
use Rattle.gl_model.specs.BufferState.{BufferState}
use Rattle.gl_model.specs.PixelStore.{PixelStore}
use Rattle.gl_model.specs.PageState.{PageState, Object, holders, lives}
use Rattle.gl_model.specs.DriverState.{DriverState}

-- what a context keeps: the names, the buffers with what is bound, the attributes, the pixel store, the error flags, the raster
-- state, and whether a write failed
pub record Kept : Type 0 where
  pub names : Names.Given
  pub buffers : Stored
  pub attributes : Attributes
  pub pixels : PixelStore
  pub errors : ErrorSet
  pub raster : RasterWords
  pub failed : Bool

-- how an object with so many holders is named
abbrev pub named : ℕ → Object → Names.Object
named held o = record { kind = o.kind; marked = o.marked; holds = held }

-- the names are those of the page's objects, each with its holders
pub record KeepsNames (names : Names.Given) (objects : List Object) (held : ℕ → ℕ) : Type 0 where
  pub count : length names.objects ≡ length objects
  pub each : (handle : ℕ) → object_at names.objects handle ≡ option_map (named (held handle)) (object_at objects handle)

-- of a buffer's bytes those of indices are kept
abbrev pub kept_bytes : Option BufferTarget → List ℕ → List ℕ
kept_bytes (Some ElementArray) bytes = bytes
kept_bytes (Some Array) bytes = []
kept_bytes None bytes = []

-- how a buffer is stored
abbrev pub stored_buffer : Buffer → StoredBuffer
stored_buffer b =
    record { first_target = b.first_target; size = length b.bytes; usage = b.usage; bytes = kept_bytes b.first_target b.bytes }

-- the stored buffers are the page's, with what is bound
pub record KeepsBuffers (stored : Stored) (s : BufferState) : Type 0 where
  pub each : (handle : ℕ) → get stored.buffers handle ≡ option_map stored_buffer (s.contents handle)
  pub bound : stored.bound ≡ s.bound

-- what is kept is that part of the page's state
pub record Keeps (kept : Kept) (w : PageState) : Type 0 where
  pub names : KeepsNames kept.names w.objects (holders w)
  pub buffers : KeepsBuffers kept.buffers w.buffers
  pub attributes : kept.attributes ≡ w.attributes
  pub pixels : kept.pixels ≡ w.pixels
  pub errors : kept.errors ≡ w.errors
  pub raster : kept.raster ≡ w.raster

-- a buffer has no more bytes than a buffer may, and none before it was first bound
pub record IsSoundBuffer (b : Buffer) : Type 0 where
  pub size : length b.bytes ≤ buffer_bytes_max
  pub unbound : b.first_target ≡ None → b.bytes ≡ []

-- what is bound to a target is a buffer that was first bound to it (WebGL 1.0 section 6.1)
abbrev pub IsBoundTo : BufferState → BufferTarget → Option ℕ → Type 0
IsBoundTo s target bound = IfSome bound (λ number. option_and_then (λ b. b.first_target) (s.contents number) ≡ Some target)

-- what all buffers keep true
pub record AreSoundBuffers (s : BufferState) : Type 0 where
  pub each : (number : ℕ) → IfSome (s.contents number) IsSoundBuffer
  pub bound : (target : BufferTarget) → IsBoundTo s target (binding s.bound target)

-- what all objects keep true: no more handles than are given, and a buffer for each object that is one and is there
pub record AreSoundObjects (given : List Object) (s : BufferState) : Type 0 where
  pub count : length given ≤ handles_max
  pub buffers : (handle : ℕ) → is_some (s.contents handle) ≡ lives given kind.Buffer handle

-- what the parts of a page's state keep true: the objects that were given handles, and the buffers
pub record AreSound (given : List Object) (s : BufferState) : Type 0 where
  pub objects : AreSoundObjects given s
  pub buffers : AreSoundBuffers s

-- what every page's state keeps true
abbrev pub IsSound : PageState → Type 0
IsSound w = AreSound w.objects w.buffers

-- the driver's name of a buffer
abbrev pub buffer_name : ℕ → ℕ
buffer_name handle = Names.driver_name kind.Buffer handle

-- the driver's buffers are the page's under their names, with the same content, and the same are bound
pub record AgreesOnBuffers (page driver : BufferState) : Type 0 where
  pub made : (handle : ℕ) → driver.contents (buffer_name handle) ≡ page.contents handle
  pub others : (name : ℕ) → name < 2 → driver.contents name ≡ None
  pub array : driver.bound.array ≡ option_map buffer_name page.bound.array
  pub element_array : driver.bound.element_array ≡ option_map buffer_name page.bound.element_array

-- the parts of the driver's state are those of the page's: the buffers
pub record PartsAgree (page driver : BufferState) : Type 0 where
  pub buffers : AgreesOnBuffers page driver

-- the driver's state is the page's
abbrev pub Agrees : PageState → DriverState → Type 0
Agrees w g = PartsAgree w.buffers g.buffers

-- what is kept stands for the page's state, and the driver's state agrees with it
pub record Stands (kept : Kept) (w : PageState) (g : DriverState) : Type 0 where
  pub working : kept.failed ≡ false
  pub keeps : Keeps kept w
  pub sound : IsSound w
  pub agrees : Agrees w g
