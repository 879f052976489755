-- The driver's machine: a command is refused by the first of its rules that applies, else it fetches, acts and may make a Shot
-- (OpenGL ES 2.0). What each command does stands with its subject.
use Rattle.std.specs.Prelude.{Bool, false, Option, None, List}
use Rattle.gl_numbers.specs.declared.errors.GlError.{GlError}
use Rattle.gl_numbers.specs.Refusals.{Rule, first_refusal}
use Rattle.command_stream.specs.declared.command.Command.{Command}
use Rattle.command_stream.specs.declared.command.Command.TheVariants.{Object, Buffer}
use Rattle.gl_model.specs.ObjectCommands.{object_rules, object_effect}
use Rattle.gl_model.specs.BufferCommands.{buffer_rules, buffer_effect}
use Rattle.gl_model.specs.DriverState.{DriverState}
use Rattle.gl_model.specs.Shot.{Shot}

-- why a command stops the driver: a GL error, or a fetch outside a buffer
pub data Fault : Type 0 where
  gl_error : GlError → Fault
  outside_fetch : Fault

-- the rules that refuse a command, in their order
abbrev pub rules : DriverState → Command → List Rule
rules g (Object command) = object_rules g command
rules g (Buffer command) = buffer_rules g command

-- why a command is refused, if it is
abbrev pub refusal : DriverState → Command → Option GlError
refusal g command = first_refusal (rules g command)

-- whether a command that isn't refused fetches a byte that isn't there; none of these fetches
abbrev pub outside : DriverState → Command → Bool
outside g command = false

-- what a command does that isn't refused
abbrev pub effect : DriverState → Command → DriverState
effect g (Object command) = object_effect g command
effect g (Buffer command) = buffer_effect g command

-- the Shot that a command makes; none of these makes one
abbrev pub shot : DriverState → Command → Option Shot
shot g command = None
