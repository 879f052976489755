-- What a step took of the piece joins what was taken of it before.
use Rattle.std.proofs.Common.{◌++◌, length, take, arith, ap, subst, length-append}
use Rattle.std.proofs.lemmas.List.{length-take-le, length-drop}
use Rattle.wire_io.proofs.Prefixes.{rest_of}
use Rattle.session_run.specs.Playing.{SoFar, PieceStops}
use Rattle.session_run.proofs.Playing.{bounds, piece-more, piece-rest}
use Rattle.session_run.proofs.pieces.take_piece.Goals as goal

pub overflow_add-taken : goal.overflow_add-taken
overflow_add-taken c =
    let b = bounds c.requires.playing.all _ _ _ c.requires.playing.so_far in
    omega (arith, b.taken, c.requires.taken, c.requires.short, c.loop-used.invariant.within)

pub step-requires-clause-playing : goal.step-requires-clause-playing
step-requires-clause-playing c = record {
  all = c.requires.playing.all ++ take c.loop-used.used c.args.piece.now;
  so_far = c.loop-used.invariant.so_far c.requires.playing.all c.requires.playing.so_far;
}

pub step-requires-clause-taken : goal.step-requires-clause-taken
step-requires-clause-taken c =
    let all = c.requires.playing.all in
    let now = c.loop-used.invariant.so_far all c.requires.playing.so_far in
    omega (
      arith,
      c.requires.taken,
      c.requires.playing.so_far.decoded.counted,
      now.decoded.counted,
      length-append all (take c.loop-used.used c.args.piece.now),
      length-take-le c.loop-used.used c.args.piece.now c.loop-used.invariant.within,
    )

pub loop-used-preserved : goal.loop-used-preserved
loop-used-preserved c = record {
  within = omega (arith, c.in-Ok.ensures.within.1, ap length (rest_of c.loop-used.used c.args.piece.now), length-drop c.loop-used.used c.args.piece.now, c.loop-used.invariant.within);
  so_far = λ all s.
      (let one = c.in-Ok.ensures.steps (all ++ take c.loop-used.used c.args.piece.now) (c.loop-used.invariant.so_far all s) in
      subst (λ l. SoFar l c.step.new.decoder c.step.new.machine c.step.new.tally) (piece-more all c.args.piece.now c.loop-used.used c.in-Ok.n) one.2);
}

pub returns-in-Err : goal.returns-in-Err
returns-in-Err c = record {
  takes = λ all s.
      subst (λ l. PieceStops l c.in-Err.end) (piece-rest all c.args.piece.now c.loop-used.used)
      (c.in-Err.ensures.steps (all ++ take c.loop-used.used c.args.piece.now) (c.loop-used.invariant.so_far all s));
}
