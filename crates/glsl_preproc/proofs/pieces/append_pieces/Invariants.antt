use Rattle.std.proofs.Common.{◌≡◌, ◌++◌, take}
use Rattle.glsl_preproc.specs.Replacement.{at_line}
use Rattle.glsl_preproc.specs.Views.{plain_pieces}
use Rattle.glsl_preproc.proofs.pieces.append_pieces.Given as goal

abbrev pub invariant-loop-piece : goal.invariant-loop-piece
invariant-loop-piece l = plain_pieces l.out.items ≡ plain_pieces l.fn.out.items ++ at_line l.line (plain_pieces (take l.piece-index l.pieces))
