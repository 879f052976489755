-- One law for each part of the states: where it was changed, what is kept, sound and agreed on of the other parts stands.
use Rattle.std.proofs.Common.{◌≡◌, List}
use Rattle.object_names.specs.Objects as Names
use Rattle.buffer_store.specs.Stored.{Stored}
use Rattle.attrib_state.specs.Attributes.{Attributes}
use Rattle.gl_model.specs.Errors.{ErrorSet}
use Rattle.gl_model.specs.BufferState.{BufferState}
use Rattle.gl_model.specs.PageState.{PageState, Object, holders}
use Rattle.gl_model.specs.DriverState.{DriverState}
use Rattle.gl_context.specs.Stands.{Kept, KeepsNames, KeepsBuffers, Keeps, AreSoundObjects, AreSoundBuffers, IsSound, AgreesOnBuffers, Agrees}

-- the objects that were given handles, and the buffers with them
pub keeps-objects : (kept : Kept) (w : PageState) (names : Names.Given) (stored : Stored) (objects : List Object) (s : BufferState) → Keeps kept w
    → KeepsNames names objects (holders (record w { objects = objects; buffers = s })) → KeepsBuffers stored s
    → Keeps (record kept { names = names; buffers = stored }) (record w { objects = objects; buffers = s })
keeps-objects kept w names stored objects s k named bufs =
    record { names = named; buffers = bufs; attributes = k.attributes; pixels = k.pixels; errors = k.errors; raster = k.raster }

-- the buffers
pub keeps-buffers : (kept : Kept) (w : PageState) (stored : Stored) (s : BufferState) → Keeps kept w → KeepsBuffers stored s
    → Keeps (record kept { buffers = stored }) (record w { buffers = s })
keeps-buffers kept w stored s k bufs =
    record { names = k.names; buffers = bufs; attributes = k.attributes; pixels = k.pixels; errors = k.errors; raster = k.raster }

-- the vertex attributes
pub keeps-attributes : (kept : Kept) (w : PageState) (stored attributes : Attributes) → Keeps kept w → stored ≡ attributes
    → Keeps (record kept { attributes = stored }) (record w { attributes = attributes })
keeps-attributes kept w stored attributes k same =
    record { names = k.names; buffers = k.buffers; attributes = same; pixels = k.pixels; errors = k.errors; raster = k.raster }

-- the error flags
pub keeps-errors : (kept : Kept) (w : PageState) (stored errors : ErrorSet) → Keeps kept w → stored ≡ errors
    → Keeps (record kept { errors = stored }) (record w { errors = errors })
keeps-errors kept w stored errors k same =
    record { names = k.names; buffers = k.buffers; attributes = k.attributes; pixels = k.pixels; errors = same; raster = k.raster }

-- the objects that were given handles, and the buffers with them
pub sound-objects : (w : PageState) (objects : List Object) (s : BufferState) → IsSound w → AreSoundObjects objects s → AreSoundBuffers s
    → IsSound (record w { objects = objects; buffers = s })
sound-objects w objects s sound given bufs = record { objects = given; buffers = bufs }

-- the buffers, by page and driver
pub agrees-buffers : (w : PageState) (g : DriverState) (page driver : BufferState) → Agrees w g → AgreesOnBuffers page driver
    → Agrees (record w { buffers = page }) (record g { buffers = driver })
agrees-buffers w g page driver agrees bufs = record { buffers = bufs }
