-- The command of a new buffer was sent.
use Rattle.std.proofs.Common.{Ok, Err, refl}
use Rattle.command_stream.specs.declared.command.Command.TheVariants.{Object}
use Rattle.command_stream.specs.declared.object_commands.ObjectCommand.TheVariants.{MakeBuffer}
use Rattle.gl_context.specs.ObjectRows.{create_row}
use Rattle.gl_context.specs.Made.{made_buffer}
use Rattle.gl_context.specs.declared.deed.Told.TheVariants.{Number}
use Rattle.gl_context.proofs.SentBytes.{sends_one}
use Rattle.gl_context.proofs.Sending.{sends_all, sends_part}
use Rattle.gl_context.proofs.context.Context.create_buffer.Goals as goal

pub returns-in_default-clause-sends : goal.returns-in_default-clause-sends
returns-in_default-clause-sends g c w k sound =
    sends_part (create_row w) w _ _ _ (made_buffer c.in-Ok.made) (c.in-Ok.ensures.acts w k sound)
    (sends_one {T = Unit {0}} {E = Unit {0}} _ _ (Err tt) (Object (MakeBuffer c.in-Ok.made.1)) c.in_default.ensures.bytes)

pub returns-clause-sends : goal.returns-clause-sends
returns-clause-sends g c w k sound =
    sends_all (create_row w) w _ _ _ (made_buffer c.in-Ok.made) (Number c.in-Ok.made.0) (c.in-Ok.ensures.acts w k sound) refl
    (sends_one {T = Unit {0}} {E = Unit {0}} _ _ (Ok tt) (Object (MakeBuffer c.in-Ok.made.1)) c.in-Ok-write_object_command.ensures.bytes)
