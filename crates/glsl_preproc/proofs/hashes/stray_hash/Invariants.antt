use Rattle.std.proofs.Common.{◌≡◌, length}
use Rattle.glsl_tree.specs.Token.{plain_tokens}
use Rattle.glsl_preproc.specs.Expansion.{stray_hash}
use Rattle.glsl_preproc.proofs.hashes.stray_hash.Given as goal

abbrev pub invariant-loop-rest : goal.invariant-loop-rest
invariant-loop-rest l = stray_hash (plain_tokens l.rest) ≡ stray_hash (plain_tokens l.list)

abbrev pub decreases-loop-rest : goal.decreases-loop-rest
decreases-loop-rest l = length l.rest
