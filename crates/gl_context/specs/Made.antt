-- What the calls do to the stores that send a command: what they return, and what is to be sent.
use Rattle.std.specs.Prelude.{ℕ, Option, Some, None, List, [], ◌∷◌}
use Rattle.std.specs.Borrow.{Bor}
use Rattle.call_records.specs.declared.replies.Value.TheVariants.{Nothing, Number}
use Rattle.command_stream.specs.declared.command.Command.TheVariants.{Object, Buffer}
use Rattle.command_stream.specs.declared.object_commands.ObjectCommand.TheVariants.{MakeBuffer, DropBuffer}
use Rattle.command_stream.specs.declared.buffer_commands.BufferCommand.TheVariants.{BindBuffer}
use Rattle.buffer_store.specs.declared.content.Content.{Content}
use Rattle.gl_context.specs.BufferRows.{part_sent}
use Rattle.gl_context.specs.Filled.{content_sent}
use Rattle.gl_context.specs.Deeds.{Deed}

-- a new buffer: its handle, and the driver's name of it
abbrev pub made_buffer : ℕ × ℕ → Deed
made_buffer made = record { value = Number made.0; commands = Object (MakeBuffer made.1) ∷ [] }

-- a buffer that was deleted, by the driver's name of it; there may have been none
abbrev pub dropped_buffer : Option ℕ → Deed
dropped_buffer (Some name) = record { value = Nothing; commands = Object (DropBuffer name) ∷ [] }
dropped_buffer None = record { value = Nothing; commands = [] }

-- a target to which a buffer of the driver's was bound, or none where its name is 0
abbrev pub bound_buffer : ℕ → ℕ → Deed
bound_buffer target name = record { value = Nothing; commands = Buffer (BindBuffer target name) ∷ [] }

-- the buffer that is bound to a target got a content
abbrev pub filled_buffer : ℕ → ℕ → Content → Deed
filled_buffer target usage content = record { value = Nothing; commands = content_sent target usage content }

-- bytes were written into the buffer that is bound to a target, from an offset on
abbrev pub patched_buffer : ℕ → Bor (List ℕ) → ℕ → Deed
patched_buffer target bytes offset = record { value = Nothing; commands = part_sent target offset bytes }
