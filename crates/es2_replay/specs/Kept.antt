-- What the machine keeps, and the driver's state that it stands for (OpenGL ES 2.0 section 2.9).
use Rattle.std.specs.Prelude.{ℕ}
use Rattle.gl_numbers.specs.BufferBindings.{Bindings}
use Rattle.gl_model.specs.DriverState.{DriverState}
use Rattle.es2_replay.specs.Named.{Names, named}

-- what the machine keeps: the buffers that are made with their names, what is bound, and how many commands were applied
pub record Kept : Type 0 where
  pub made : Names
  pub bound : Bindings
  pub count : ℕ

-- the driver's state that is kept
abbrev pub state_of : Kept → DriverState
state_of kept = record { buffers = record { contents = named kept.made; bound = kept.bound } }
