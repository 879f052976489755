-- The header was judged, and all the bytes are in the piece.
use Rattle.std.proofs.Common.{◌+◌, ℕ, [], take, refl, arith}
use Rattle.std.proofs.lemmas.List.{length-take-le}
use Rattle.command_stream.proofs.Pieces.{whole}
use Rattle.command_stream.proofs.taking.standing.Goals as goal

pub returns : goal.returns
returns c =
    let len : ℕ = c.in-Some-judge.len in
    record {
      within = c.if-piece-size.false;
      some = omega arith;
      whole = whole c.in-Some-judge.operation len (8 + len) [] c.args.piece.now _ (take (8 + len) c.args.piece.now)
          c.in-Some.ensures.0 c.in-Some-judge.ensures refl (length-take-le (8 + len) c.args.piece.now c.if-piece-size.false);
    }
