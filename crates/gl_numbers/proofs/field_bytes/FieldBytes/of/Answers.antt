-- One more field.
use Rattle.gl_numbers.proofs.Bodies.{FieldsSoFar, fields_more}
use Rattle.gl_numbers.proofs.field_bytes.FieldBytes.of.Goals as goal

pub loop-field-preserved : goal.loop-field-preserved
loop-field-preserved c =
    let so_far : FieldsSoFar c.args.fields.now c.loop-field.all c.loop-field.field-index = record { size = c.loop-field.invariant.size; bytes = c.loop-field.invariant.bytes } in
    let more = fields_more c.args.fields.now c.loop-field.all c.push.new.self c.loop-field.field-index _ c.loop-field-test.true so_far c.push.ensures in
    record { size = more.size; bytes = more.bytes }
