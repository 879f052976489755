use Rattle.std.proofs.Common.{◌<◌, reverse, length, sym, ap, arith}
use Rattle.glsl_preproc.specs.ReaderViews.{state_of}
use Rattle.glsl_preproc.proofs.Lines.{finished_failed, first_or}
use Rattle.glsl_preproc.proofs.reader.Reader.finish.Goals as goal

pub returns-in-len1-up : goal.returns-in-len1-up
returns-in-len1-up c =
    let cs = c.as_slice.result.now in
    let some : 0 < length cs = omega arith in
    finished_failed 1024 (state_of c.args.self.now) (state_of c.flush.new.self) cs _ c.in-Ok.ensures (ap reverse (sym c.as_slice.ensures.value)) some (first_or cs _ some)
