-- What was taken of the piece so far joins what was taken before.
use Rattle.std.proofs.Common.{length, take, ◌-◌, ℕ, ◌≤◌, ◌++◌, List}
use Rattle.session_run.specs.Playing.{SoFar}
use Rattle.session_run.proofs.pieces.take_piece.Given as goal

abbrev pub invariant-loop-used : goal.invariant-loop-used
invariant-loop-used l = record {
  within : l.used ≤ length l.piece;
  so_far : (all : List ℕ) → SoFar all l.fn.decoder l.fn.machine l.fn.tally → SoFar (all ++ take l.used l.piece) l.decoder l.machine l.tally;
}

abbrev pub decreases-loop-used : goal.decreases-loop-used
decreases-loop-used l = length l.piece - l.used
