-- What the machine does at a command, and what it returns.
use Rattle.std.specs.Prelude.{◌≡◌, Bool, true, false, Option, Some, None, Result, Ok, Err, IsTrue}
use Rattle.std.specs.Option.{option_map}
use Rattle.gl_numbers.specs.Errors.{code_of}
use Rattle.gl_numbers.specs.declared.errors.GlError.{GlError}
use Rattle.gl_numbers.specs.declared.errors.Memory.{Memory as NoMemory}
use Rattle.command_stream.specs.declared.command.Command.{Command}
use Rattle.command_stream.specs.declared.command.Command.TheVariants.{Object, Buffer}
use Rattle.command_stream.specs.declared.object_commands.ObjectCommand.{ObjectCommand}
use Rattle.command_stream.specs.declared.object_commands.ObjectCommand.TheVariants.{MakeBuffer, DropBuffer}
use Rattle.command_stream.specs.declared.buffer_commands.BufferCommand.{BufferCommand}
use Rattle.command_stream.specs.declared.buffer_commands.BufferCommand.TheVariants.{BindBuffer, BufferSize, BufferBytes}
use Rattle.gl_model.specs.DriverState.{DriverState}
use Rattle.gl_model.specs.DriverStep.{gl_error, outside_fetch, effect, shot}
use Rattle.gl_model.specs.Replay.{fault_of}
use Rattle.gl_model.specs.Shot as Model
use Rattle.es2_replay.specs.declared.faults.Fault.{Fault}
use Rattle.es2_replay.specs.declared.faults.Fault.TheVariants.{Gl, Outside, Memory}
use Rattle.es2_replay.specs.declared.faults.Shot.{Shot}

-- the kind of what the driver makes; no command that is built makes anything
abbrev pub kind_of : Model.Shot → Shot
kind_of made = elim made [ ]

-- whether a command that makes or drops an object takes memory
abbrev pub object_takes_memory : ObjectCommand → Bool
object_takes_memory (MakeBuffer name) = true
object_takes_memory (DropBuffer name) = false

-- whether a command on a buffer takes memory
abbrev pub buffer_takes_memory : BufferCommand → Bool
buffer_takes_memory (BindBuffer target name) = false
buffer_takes_memory (BufferSize target usage size) = true
buffer_takes_memory (BufferBytes target offset bytes) = false

-- whether a command takes memory
abbrev pub takes_memory : Command → Bool
takes_memory (Object command) = object_takes_memory command
takes_memory (Buffer command) = buffer_takes_memory command

-- a command that nothing refuses acted as the driver's, or ran out of memory
abbrev pub Acts : DriverState → Command → DriverState → Result Unit NoMemory → Type 0
Acts g command new (Ok done) = new ≡ effect g command
Acts g command new (Err memory) = IsTrue (takes_memory command)

-- the result of a command is that of the driver's step from the state g, which leaves the state new
abbrev pub Applies : DriverState → Command → DriverState → Result (Option Shot) Fault → Type 0
Applies g command new (Ok made) = (fault_of g command ≡ None) × (new ≡ effect g command) × (made ≡ option_map kind_of (shot g command))
Applies g command new (Err (Gl code)) = (error : GlError) × (fault_of g command ≡ Some (gl_error error)) × (code ≡ code_of error)
Applies g command new (Err Outside) = fault_of g command ≡ Some outside_fetch
Applies g command new (Err Memory) = (fault_of g command ≡ None) × IsTrue (takes_memory command)
