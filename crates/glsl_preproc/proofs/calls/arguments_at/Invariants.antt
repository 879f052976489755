use Rattle.std.proofs.Common.{◌≡◌, ◌≤◌, ◌+◌, ◌-◌, [], length, take, drop}
use Rattle.glsl_preproc.specs.Replacement.{arguments_from}
use Rattle.glsl_preproc.specs.Views.{plain_pieces, slices}
use Rattle.glsl_preproc.proofs.calls.arguments_at.Given as goal

-- the arguments so far, where one more begins, and the tokens that are left
abbrev pub invariant-loop-at : goal.invariant-loop-at
invariant-loop-at l = record {
  rest : arguments_from (slices l.lists.items) (plain_pieces (drop l.start (take l.at l.list))) l.depth (1 + l.at) (plain_pieces (drop l.at l.list)) ≡ arguments_from [] [] 0 1 (plain_pieces l.list);
  start : l.start ≤ l.at;
  within : l.at ≤ length l.list;
  depth : l.depth ≤ l.at;
}

abbrev pub decreases-loop-at : goal.decreases-loop-at
decreases-loop-at l = length l.list - l.at
