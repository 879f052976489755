use Rattle.std.proofs.Common.{◌≡◌, take}
use Rattle.glsl_tree.specs.Token.{plain_tokens}
use Rattle.glsl_preproc.specs.Views.{plain_pieces}
use Rattle.glsl_preproc.proofs.pieces.tokens_of.Given as goal

abbrev pub invariant-loop-piece : goal.invariant-loop-piece
invariant-loop-piece l = plain_tokens l.out.items ≡ plain_pieces (take l.piece-index l.pieces)
