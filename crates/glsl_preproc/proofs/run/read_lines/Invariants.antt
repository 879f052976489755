use Rattle.std.proofs.Common.{◌≡◌, ◌≤◌, ◌-◌, length, take, drop}
use Rattle.glsl_tree.specs.Token.{plain_tokens}
use Rattle.glsl_preproc.specs.Expansion.{lines_from, expansion}
use Rattle.glsl_preproc.specs.ReaderViews.{state_of}
use Rattle.glsl_preproc.proofs.run.read_lines.Given as goal

-- what the reader knows, the tokens of the line so far, and those that are left
abbrev pub invariant-loop-rest : goal.invariant-loop-rest
invariant-loop-rest l = record {
  rest : lines_from 1024 (state_of l.reader) (plain_tokens (take (length l.start - length l.rest) l.start)) (plain_tokens l.rest) ≡ expansion 1024 (plain_tokens l.tokens);
  place : drop (length l.start - length l.rest) l.start ≡ l.rest;
  within : length l.rest ≤ length l.start;
}

abbrev pub decreases-loop-rest : goal.decreases-loop-rest
decreases-loop-rest l = length l.rest
