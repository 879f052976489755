use Rattle.std.proofs.Common.{sym, arith}
use Rattle.glsl_preproc.proofs.Digits.{no_mark}
use Rattle.glsl_preproc.proofs.pieces.is_mark.Goals as goal

pub returns : goal.returns
returns c = sym (no_mark c.args.value c.args.mark (omega arith) c.requires)
