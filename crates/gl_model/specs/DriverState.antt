-- The driver's state: objects by name and what is bound (OpenGL ES 2.0 sections 2.9 and 6.1).
use Rattle.gl_model.specs.BufferState.{BufferState, no_buffers}

-- the driver's state: the buffers by name
pub record DriverState : Type 0 where
  pub buffers : BufferState

-- the driver's state at the start: no object is made, nothing is bound
abbrev pub first_driver : DriverState
first_driver = record { buffers = no_buffers }
