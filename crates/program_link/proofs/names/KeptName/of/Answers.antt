-- The part that is copied is the part that is kept.
use Rattle.std.proofs.Common.{◌∙◌, arith}
use Rattle.program_link.proofs.KeptNames.{kept-cut}
use Rattle.program_link.proofs.names.KeptName.of.Goals as goal

pub returns : goal.returns
returns c = c.in_ok-bytes.ensures.items ∙ kept-cut c.args.name.now _ (omega (arith, c.min.ensures))
