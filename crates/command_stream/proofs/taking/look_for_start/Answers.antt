use Rattle.std.proofs.Common.{◌≡◌, length, refl, ap, ◌∙◌, arith}
use Rattle.std.proofs.lemmas.Bool.Decides.{Decides-eqb}
use Rattle.std.proofs.lemmas.Slice.Eq.{slice_eq-Decides}
use Rattle.command_stream.specs.Commands.{stream_start}
use Rattle.command_stream.proofs.Pieces.{start-ends, length-start}
use Rattle.command_stream.proofs.taking.look_for_start.Goals as goal

pub returns-then-eq : goal.returns-then-eq
returns-then-eq c =
    let is : c.in-Some.first ≡ stream_start = (slice_eq-Decides Decides-eqb _ _ _ c.if-eq.ensures).0 refl ∙ c.start.ensures in (
      omega (arith, c.in-Some.ensures.1, c.requires),
      start-ends c.args.begun.now c.args.piece.now c.in-Some.first (omega (arith, c.requires)) (ap length is
          ∙ length-start) c.in-Some.ensures.0 ∙ is,
    )
