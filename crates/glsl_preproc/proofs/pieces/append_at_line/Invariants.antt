use Rattle.std.proofs.Common.{◌≡◌, ◌++◌, take}
use Rattle.glsl_tree.specs.Token.{plain_tokens}
use Rattle.glsl_preproc.specs.Replacement.{at_line}
use Rattle.glsl_preproc.specs.Views.{plain_pieces}
use Rattle.glsl_preproc.proofs.pieces.append_at_line.Given as goal

abbrev pub invariant-loop-token : goal.invariant-loop-token
invariant-loop-token l = plain_pieces l.out.items ≡ plain_pieces l.fn.out.items ++ at_line l.line (plain_tokens (take l.token-index l.tokens))
