use Rattle.std.proofs.Common.{Err, refl, arith}
use Rattle.gl_numbers.proofs.FieldsOfCommands.{length-body_words}
use Rattle.wire_io.proofs.Known.{sends_then, sends_stop}
use Rattle.command_stream.proofs.Heads.{sends-tail}
use Rattle.command_stream.proofs.write.write_with_bytes.Goals as goal

pub overflow_mul-len : goal.overflow_mul-len
overflow_mul-len g c = omega (arith, length-body_words c.args.words.now c.args.bytes.now, c.requires.short)

pub overflow_cast-len-2 : goal.overflow_cast-len-2
overflow_cast-len-2 g c = omega (arith, length-body_words c.args.words.now c.args.bytes.now, c.requires.short)

pub overflow_add-len : goal.overflow_add-len
overflow_add-len g c = omega (arith, length-body_words c.args.words.now c.args.bytes.now, c.requires.short)

pub returns-in_default-clause-bytes : goal.returns-in_default-clause-bytes
returns-in_default-clause-bytes g c =
    sends-tail {E = Unit {0}} _ _ (Err tt) c.args.operation c.number.result _ c.args.words.now c.args.bytes.now c.number.ensures refl
    (sends_stop {T = Unit {0}} {U = Unit {0}} {E = Unit {0}} {F = Unit {0}} _ _ (Err tt) (Err tt) _ c.args.bytes.now c.in_default.ensures.bytes refl refl)

pub returns-clause-bytes : goal.returns-clause-bytes
returns-clause-bytes g c =
    sends-tail _ _ c.write_all.result c.args.operation c.number.result _ c.args.words.now c.args.bytes.now c.number.ensures refl
    (sends_then _ _ _ c.write_all.result _ c.args.bytes.now c.in-Ok.ensures.bytes c.write_all.ensures.bytes)
