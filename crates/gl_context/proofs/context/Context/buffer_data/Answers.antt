-- The commands of the content were sent.
use Rattle.std.proofs.Common.{refl}
use Rattle.gl_context.specs.BufferRows.{data_row}
use Rattle.gl_context.specs.Made.{filled_buffer}
use Rattle.gl_context.specs.declared.deed.Told.TheVariants.{Nothing}
use Rattle.gl_context.proofs.Sending.{sends_all, sends_part}
use Rattle.gl_context.proofs.context.Context.buffer_data.Goals as goal

pub returns-in_default-clause-sends : goal.returns-in_default-clause-sends
returns-in_default-clause-sends g c w k sound =
    sends_part (data_row w c.args.target c.args.usage c.args.fill) w _ _ _ (filled_buffer c.args.target c.args.usage c.in-Ok.content) (c.in-Ok.ensures.acts w k sound) c.in_default.ensures.bytes

pub returns-clause-sends : goal.returns-clause-sends
returns-clause-sends g c w k sound =
    sends_all (data_row w c.args.target c.args.usage c.args.fill) w _ _ _ (filled_buffer c.args.target c.args.usage c.in-Ok.content) Nothing (c.in-Ok.ensures.acts w k sound) refl c.in-Ok-send_content.ensures.bytes
