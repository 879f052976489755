use Rattle.std.proofs.Common.{◌≡◌, ◌≤◌, ◌-◌, ◌++◌, length, take, drop}
use Rattle.glsl_tree.specs.Token.{plain_tokens}
use Rattle.glsl_preproc.specs.Expansion.{before_hash}
use Rattle.glsl_preproc.proofs.hashes.before_hash.Given as goal

abbrev pub invariant-loop-rest : goal.invariant-loop-rest
invariant-loop-rest l = record {
  front : plain_tokens (take (length l.list - length l.rest) l.list) ++ before_hash (plain_tokens l.rest) ≡ before_hash (plain_tokens l.list);
  place : drop (length l.list - length l.rest) l.list ≡ l.rest;
  within : length l.rest ≤ length l.list;
}

abbrev pub decreases-loop-rest : goal.decreases-loop-rest
decreases-loop-rest l = length l.rest
