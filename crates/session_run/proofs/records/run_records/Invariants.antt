-- The calls so far were answered; the bytes taken are counted, and end within 2^63.
use Rattle.std.proofs.Common.{◌≤◌, ◌-◌, ◌^◌}
use Rattle.session_run.specs.Ends.{ends, faults_of}
use Rattle.session_run.specs.Causes.{Later}
use Rattle.session_run.specs.Loop.{SoFar}
use Rattle.session_run.proofs.records.run_records.Given as goal

abbrev pub invariant-loop-operation : goal.invariant-loop-operation
invariant-loop-operation g l = record {
  so_far : SoFar (ends (g.S.Source.left l.fn.input) (g.O.Sink.held l.fn.out) (g.T.Sink.held l.fn.stream))
      (ends (g.S.Source.left l.input) (g.O.Sink.held l.out) (g.T.Sink.held l.stream)) l.context l.at;
  within : l.at ≤ 2 ^ 63;
  later : Later (faults_of (g.S.Source.faults l.fn.input) (g.O.Sink.faults l.fn.out) (g.T.Sink.faults l.fn.stream))
      (faults_of (g.S.Source.faults l.input) (g.O.Sink.faults l.out) (g.T.Sink.faults l.stream));
}

abbrev pub decreases-loop-operation : goal.decreases-loop-operation
decreases-loop-operation g l = 2 ^ 63 - l.at
