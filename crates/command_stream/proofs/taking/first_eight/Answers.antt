use Rattle.std.proofs.Common.{◌∙◌, arith}
use Rattle.command_stream.proofs.Pieces.{first-both}
use Rattle.command_stream.proofs.taking.first_eight.Goals as goal

pub returns : goal.returns
returns c = (
  first-both c.args.begun.now c.args.piece.now c.hold.new.bytes c.hold-2.new.bytes (omega (arith, c.if-begun-ge8.false)) c.if-piece-more.false
      (c.hold-2.ensures.size ∙ c.hold.ensures.size) c.hold.ensures.content c.hold-2.ensures.content,
  omega (arith, c.if-begun-ge8.false, c.if-piece-more.false),
)
