use Rattle.std.proofs.Common.{length, ◌≡◌, ◌≤◌, ◌+◌}
use Rattle.glsl_tree.specs.Comments.{before_close}
use Rattle.glsl_lex.proofs.comments.before_close.Given as goal

-- the bytes passed, and those before the first `*/` of the rest
abbrev pub invariant-loop-rest : goal.invariant-loop-rest
invariant-loop-rest l = record {
  count : length l.text + before_close l.rest ≡ before_close l.text + length l.rest;
  within : length l.rest ≤ length l.text;
}

abbrev pub decreases-loop-rest : goal.decreases-loop-rest
decreases-loop-rest l = length l.rest
