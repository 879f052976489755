use Rattle.std.proofs.Common.{◌≡◌, ◌-◌, ◌≤◌, take, drop, length, ◌∙◌, arith}
use Rattle.std.proofs.lemmas.List.{take_rest, length-drop}
use Rattle.command_stream.proofs.Pieces.{taken-after-start, after}
use Rattle.command_stream.proofs.taking.take_in.Goals as goal

pub returns-in-Whole : goal.returns-in-Whole
returns-in-Whole c =
    let rest : take (length c.args.piece.now - c.in-Finished.n) (drop c.in-Finished.n c.args.piece.now) ≡ drop c.in-Finished.n c.args.piece.now = take_rest c.args.piece.now c.in-Finished.n in
    let taken = c.in-Whole.ensures.2 in
    let more : c.in-Whole.taken ≤ length (drop c.in-Finished.n c.args.piece.now) = rw rest at taken.within in
    rw c.if-started.false (
      c.in-Whole.ensures.0,
      c.in-Whole.ensures.1,
      record {
        within = omega (arith, more, length-drop c.in-Finished.n c.args.piece.now, c.in-Finished.ensures.0);
        some = omega (arith, taken.some);
        bytes = taken-after-start (take c.args.held c.args.bytes.now) c.args.piece.now c.in-Finished.n c.in-Whole.taken c.in-Finished.ensures.1 ∙ (rw rest at taken.bytes);
        whole = taken.whole;
      },
    )

pub returns-in_default : goal.returns-in_default
returns-in_default c =
    let rest : take (length c.args.piece.now - c.in-Finished.n) (drop c.in-Finished.n c.args.piece.now) ≡ drop c.in-Finished.n c.args.piece.now = take_rest c.args.piece.now c.in-Finished.n in
    rw c.if-started.false (after c.args.piece.now c.args.bytes.now _ c.args.held c.in-Finished.n _ c.in-Finished.ensures.1 (rw rest at c.take_command-in-Finished.ensures) c.in_default.not-Whole)
