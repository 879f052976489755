-- The commands on buffers (OpenGL ES 2.0 section 2.9): what each is refused for, and what it does.
use Rattle.std.specs.Prelude.{List, replicate}
use Rattle.gl_numbers.specs.Refusals.{Rule}
use Rattle.command_stream.specs.declared.buffer_commands.BufferCommand.{BufferCommand}
use Rattle.command_stream.specs.declared.buffer_commands.BufferCommand.TheVariants.{BindBuffer, BufferSize, BufferBytes}
use Rattle.gl_model.specs.BufferState.{bind_buffer, fill_buffer, patch_buffer}
use Rattle.gl_model.specs.BufferRefusals.{bind_rules, size_rules, part_rules}
use Rattle.gl_model.specs.DriverState.{DriverState}

-- the rules that refuse a command, in their order: those of the call of the same sense
abbrev pub buffer_rules : DriverState → BufferCommand → List Rule
buffer_rules g (BindBuffer target name) = bind_rules g.buffers target name
buffer_rules g (BufferSize target usage size) = size_rules g.buffers target usage size
buffer_rules g (BufferBytes target offset bytes) = part_rules g.buffers target offset bytes.now

-- what a command does that isn't refused
abbrev pub buffer_effect : DriverState → BufferCommand → DriverState
buffer_effect g (BindBuffer target name) = record g { buffers = bind_buffer target name g.buffers }
buffer_effect g (BufferSize target usage size) = record g { buffers = fill_buffer target usage (replicate size 0) g.buffers }
buffer_effect g (BufferBytes target offset bytes) = record g { buffers = patch_buffer target offset bytes.now g.buffers }
