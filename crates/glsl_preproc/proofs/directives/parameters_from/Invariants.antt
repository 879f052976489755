use Rattle.std.proofs.Common.{◌≡◌, ◌≤◌, ◌-◌, [], length}
use Rattle.glsl_tree.specs.Token.{plain_tokens}
use Rattle.glsl_preproc.specs.Directives.{parameters_from}
use Rattle.glsl_preproc.proofs.directives.parameters_from.Given as goal

-- the names so far, and the tokens that are left
abbrev pub invariant-loop-rest : goal.invariant-loop-rest
invariant-loop-rest l = record {
  rest : parameters_from l.names (length l.list - length l.rest) (plain_tokens l.rest) ≡ parameters_from [] 0 (plain_tokens l.list);
  within : length l.rest ≤ length l.list;
}

abbrev pub decreases-loop-rest : goal.decreases-loop-rest
decreases-loop-rest l = length l.rest
