-- What a bufferData fills a buffer with, as the store of buffers takes it, and the commands for it.
use Rattle.std.specs.Prelude.{◌≡◌, ℕ, ◌+◌, ◌≤◌, Option, Some, None, List, [], ◌∷◌, length, true, false}
use Rattle.gl_numbers.specs.BufferRules.{bad_signed_size, whole}
use Rattle.buffer_store.specs.declared.content.Content as Contents
use Rattle.buffer_store.specs.declared.content.Content.TheVariants as content
use Rattle.call_records.specs.declared.buffer_calls.Fill.{Fill}
use Rattle.call_records.specs.declared.buffer_calls.Fill.TheVariants.{Size, Bytes}
use Rattle.command_stream.specs.declared.command.Command.{Command}
use Rattle.command_stream.specs.declared.command.Command.TheVariants.{Buffer}
use Rattle.command_stream.specs.declared.buffer_commands.BufferCommand.TheVariants as command
use Rattle.gl_context.specs.BufferRows.{part_sent}

-- nothing, where no buffer has the size; else that many zeros, or the bytes
abbrev pub Fills : Fill → Option Contents.Content → Type 0
Fills (Size size) None = (bad_signed_size size).applies ≡ true
Fills (Size size) (Some filling) = ((bad_signed_size size).applies ≡ false) × (filling ≡ content.Size (whole size))
Fills (Bytes bytes) None = ⊥
Fills (Bytes bytes) (Some filling) = filling ≡ content.Bytes bytes

-- bytes that are given fit a command
abbrev pub HasRoom : Contents.Content → Type 0
HasRoom (content.Size size) = Unit {0}
HasRoom (content.Bytes bytes) = 8 + length bytes.now ≤ 16777280

-- the commands that give the bound buffer this content
abbrev pub content_sent : ℕ → ℕ → Contents.Content → List Command
content_sent target usage (content.Size size) = Buffer (command.BufferSize target usage size) ∷ []
content_sent target usage (content.Bytes bytes) = Buffer (command.BufferSize target usage (length bytes.now)) ∷ part_sent target 0 bytes
