use Rattle.std.proofs.Common.{◌≡◌, ◌++◌, length}
use Rattle.glsl_tree.specs.Token.{plain_tokens}
use Rattle.glsl_preproc.specs.Replacement.{substituted}
use Rattle.glsl_preproc.specs.Views.{plain_pieces, parameters_of}
use Rattle.glsl_preproc.proofs.parameters.substituted.Given as goal

abbrev pub invariant-loop-rest : goal.invariant-loop-rest
invariant-loop-rest l = plain_pieces l.out.items ++ substituted (parameters_of l.parameters) l.arguments l.line (plain_tokens l.rest) ≡ substituted (parameters_of l.parameters) l.arguments l.line (plain_tokens l.body)

abbrev pub decreases-loop-rest : goal.decreases-loop-rest
decreases-loop-rest l = length l.rest
