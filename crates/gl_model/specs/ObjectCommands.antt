-- The commands that make and drop objects (OpenGL ES 2.0 section 2.9 and appendix C): what each is refused for, and what it
-- does.
use Rattle.std.specs.Prelude.{ℕ, Bool, not, ◌||◌, is_some, List, [], ◌∷◌, ◌==◌}
use Rattle.gl_numbers.specs.Refusals.{Rule, when, invalid_operation}
use Rattle.command_stream.specs.declared.object_commands.ObjectCommand.{ObjectCommand}
use Rattle.command_stream.specs.declared.object_commands.ObjectCommand.TheVariants.{MakeBuffer, DropBuffer}
use Rattle.gl_model.specs.BufferState.{make_buffer, drop_buffer}
use Rattle.gl_model.specs.DriverState.{DriverState}

-- a name under which no object can be made: 0, or one that is in use
abbrev pub bad_new_name : ℕ → Bool → Rule
bad_new_name name in_use = when ((name == 0) || in_use) invalid_operation

-- a name under which nothing is made
abbrev pub name_not_made : Bool → Rule
name_not_made in_use = when (not in_use) invalid_operation

-- the rules that refuse a command, in their order
abbrev pub object_rules : DriverState → ObjectCommand → List Rule
object_rules g (MakeBuffer name) = bad_new_name name (is_some (g.buffers.contents name)) ∷ []
object_rules g (DropBuffer name) = name_not_made (is_some (g.buffers.contents name)) ∷ []

-- what a command does that isn't refused
abbrev pub object_effect : DriverState → ObjectCommand → DriverState
object_effect g (MakeBuffer name) = record g { buffers = make_buffer name g.buffers }
object_effect g (DropBuffer name) = record g { buffers = drop_buffer name g.buffers }
