-- The command of a buffer that was deleted was sent.
use Rattle.std.proofs.Common.{Ok, Err, Some, None, refl}
use Rattle.call_records.specs.declared.object_calls.ObjectKind.TheVariants as ObjectKind
use Rattle.command_stream.specs.declared.command.Command.TheVariants.{Object}
use Rattle.command_stream.specs.declared.object_commands.ObjectCommand.TheVariants.{DropBuffer}
use Rattle.gl_context.specs.ObjectRows.{delete_row}
use Rattle.gl_context.specs.Made.{dropped_buffer}
use Rattle.gl_context.specs.declared.deed.Told.TheVariants.{Nothing}
use Rattle.gl_context.proofs.SentBytes.{nothing_sent, sends_one}
use Rattle.gl_context.proofs.Sending.{sends_all, sends_part}
use Rattle.gl_context.proofs.context.Context.delete_buffer.Goals as goal

pub returns-in-Ok-None-clause-sends : goal.returns-in-Ok-None-clause-sends
returns-in-Ok-None-clause-sends g c w k sound =
    sends_all (delete_row w ObjectKind.Buffer c.args.handle) w _ _ _ (dropped_buffer None) Nothing (rw c.in-Ok-None.field-0-is at (c.in-Ok-None.ensures.acts w k sound)) refl (nothing_sent _)

pub returns-in_default-clause-sends : goal.returns-in_default-clause-sends
returns-in_default-clause-sends g c w k sound =
    sends_part (delete_row w ObjectKind.Buffer c.args.handle) w _ _ _ (dropped_buffer (Some c.in-Ok-Some.name)) (rw c.in-Ok-Some.field-0-is at (c.in-Ok-Some.ensures.acts w k sound))
    (sends_one {T = Unit {0}} {E = Unit {0}} _ _ (Err tt) (Object (DropBuffer c.in-Ok-Some.name)) c.in_default.ensures.bytes)

pub returns-clause-sends : goal.returns-clause-sends
returns-clause-sends g c w k sound =
    sends_all (delete_row w ObjectKind.Buffer c.args.handle) w _ _ _ (dropped_buffer (Some c.in-Ok-Some.name)) Nothing (rw c.in-Ok-Some.field-0-is at (c.in-Ok-Some.ensures.acts w k sound)) refl
    (sends_one {T = Unit {0}} {E = Unit {0}} _ _ (Ok tt) (Object (DropBuffer c.in-Ok-Some.name)) c.in-Ok.ensures.bytes)
