-- The command of the bytes was sent.
use Rattle.std.proofs.Common.{refl, w64}
use Rattle.std.proofs.lemmas.Int.{to_z-of_z}
use Rattle.gl_context.specs.BufferRows.{sub_data_row}
use Rattle.gl_context.specs.Made.{patched_buffer}
use Rattle.gl_context.specs.declared.deed.Told.TheVariants.{Nothing}
use Rattle.gl_context.proofs.Sending.{sends_all, sends_part}
use Rattle.gl_context.proofs.context.Context.buffer_sub_data.Goals as goal

pub returns-in_default-clause-sends : goal.returns-in_default-clause-sends
returns-in_default-clause-sends g c w k sound =
    let acts = c.in-Ok.ensures.acts w k sound in
    sends_part (sub_data_row w c.args.target c.args.offset c.args.bytes) w _ _ _ (patched_buffer c.args.target c.args.bytes c.in-Ok.at)
    (rw (to_z-of_z w64 c.args.offset c.ranges.offset) at acts) c.in_default.ensures.bytes

pub returns-clause-sends : goal.returns-clause-sends
returns-clause-sends g c w k sound =
    let acts = c.in-Ok.ensures.acts w k sound in
    sends_all (sub_data_row w c.args.target c.args.offset c.args.bytes) w _ _ _ (patched_buffer c.args.target c.args.bytes c.in-Ok.at) Nothing
    (rw (to_z-of_z w64 c.args.offset c.ranges.offset) at acts) refl c.in-Ok-send_part.ensures.bytes
