use Rattle.std.proofs.Common.{length, ◌≡◌}
use Rattle.glsl_tree.specs.Comments.{is_in_charset}
use Rattle.glsl_lex.proofs.WithoutComments.{is_clean}
use Rattle.glsl_lex.proofs.charset.check_charset.Given as goal

-- the rest of the source decides
abbrev pub invariant-loop-rest : goal.invariant-loop-rest
invariant-loop-rest l = is_clean l.rest ≡ is_in_charset l.source

abbrev pub decreases-loop-rest : goal.decreases-loop-rest
decreases-loop-rest l = length l.rest
