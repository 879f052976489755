-- The command of what was bound was sent.
use Rattle.std.proofs.Common.{Ok, Err, refl}
use Rattle.command_stream.specs.declared.command.Command.TheVariants.{Buffer}
use Rattle.command_stream.specs.declared.buffer_commands.BufferCommand.TheVariants.{BindBuffer}
use Rattle.gl_context.specs.BufferRows.{bind_row}
use Rattle.gl_context.specs.Made.{bound_buffer}
use Rattle.gl_context.specs.declared.deed.Told.TheVariants.{Nothing}
use Rattle.gl_context.proofs.SentBytes.{sends_one}
use Rattle.gl_context.proofs.Sending.{sends_all, sends_part}
use Rattle.gl_context.proofs.context.Context.bind_buffer.Goals as goal

pub returns-in_default-clause-sends : goal.returns-in_default-clause-sends
returns-in_default-clause-sends g c w k sound =
    sends_part (bind_row w c.args.target c.args.handle) w _ _ _ (bound_buffer c.args.target c.in-Ok.name) (c.in-Ok.ensures.acts w k sound)
    (sends_one {T = Unit {0}} {E = Unit {0}} _ _ (Err tt) (Buffer (BindBuffer c.args.target c.in-Ok.name)) c.in_default.ensures.bytes)

pub returns-clause-sends : goal.returns-clause-sends
returns-clause-sends g c w k sound =
    sends_all (bind_row w c.args.target c.args.handle) w _ _ _ (bound_buffer c.args.target c.in-Ok.name) Nothing (c.in-Ok.ensures.acts w k sound) refl
    (sends_one {T = Unit {0}} {E = Unit {0}} _ _ (Ok tt) (Buffer (BindBuffer c.args.target c.in-Ok.name)) c.in-Ok-write_buffer_command.ensures.bytes)
