use Rattle.glsl_tree.specs.Token.{plain_tokens}
use Rattle.glsl_preproc.specs.ReaderViews.{state_of}
use Rattle.glsl_preproc.proofs.Lines.{err_read}
use Rattle.glsl_preproc.proofs.reader.Reader.read_directive.Goals as goal

pub returns-in-Err : goal.returns-in-Err
returns-in-Err c = err_read 1024 (state_of c.args.self.now) (state_of c.flush.new.self) c.args.line (plain_tokens c.args.list.now) c.in-Err.e c.in-Err.ensures
