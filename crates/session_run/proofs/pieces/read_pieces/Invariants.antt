-- What was read so far joins what was taken before.
use Rattle.std.proofs.Common.{◌-◌, ◌≡◌, ℕ, ◌≤◌, ◌^◌, List}
use Rattle.session_run.specs.Playing.{SoFar, ReadSoFar}
use Rattle.session_run.proofs.pieces.read_pieces.Given as goal

abbrev pub invariant-loop-n : goal.invariant-loop-n
invariant-loop-n g l = record {
  so_far : (all : List ℕ) → SoFar all l.fn.decoder l.fn.machine l.fn.tally → ReadSoFar all (g.S.Source.left l.fn.input) (g.S.Source.left l.input) l.decoder l.machine l.tally;
  counted : l.taken ≡ l.decoder.taken;
  later : g.S.Source.faults l.fn.input ≤ g.S.Source.faults l.input;
}

abbrev pub decreases-loop-n : goal.decreases-loop-n
decreases-loop-n g l = 2 ^ 63 - l.taken
