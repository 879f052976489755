-- What opening a context does: the stream's header is written.
use Rattle.std.specs.Prelude.{◌≡◌, ℕ, Option, List, Result, Ok, Err}
use Rattle.std.specs.Io.KnownBytes.{append_known}
use Rattle.wire_io.specs.Sinks.{Sends}
use Rattle.command_stream.specs.Commands.{stream_start}
use Rattle.gl_model.specs.PageState.{first_page}
use Rattle.gl_model.specs.DriverState.{first_driver}
use Rattle.gl_context.specs.Stands.{Kept, Stands}
use Rattle.gl_context.specs.declared.context.Open.{Open}
use Rattle.gl_context.specs.declared.context.Open.TheVariants.{Memory, Write}

-- a context stands for the first states after the stream's header; or a prefix of the header was written, none where memory ran out
abbrev pub Opens : Option (List ℕ) → Option (List ℕ) → Result Kept Open → Type 0
Opens old new (Ok kept) = (new ≡ append_known old stream_start) × Stands kept first_page first_driver
Opens old new (Err Memory) = new ≡ old
Opens old new (Err Write) = Sends {T = Unit {0}} {E = Open} old new (Err Write) stream_start
