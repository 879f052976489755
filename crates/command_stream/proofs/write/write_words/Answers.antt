use Rattle.std.proofs.Common.{refl}
use Rattle.command_stream.proofs.Heads.{sends-words}
use Rattle.command_stream.proofs.write.write_words.Goals as goal

pub returns-clause-bytes : goal.returns-clause-bytes
returns-clause-bytes g c =
    sends-words _ _ c.write_head.result c.args.operation c.number.result _ c.args.words.now c.number.ensures refl c.write_head.ensures.bytes
