use Rattle.std.proofs.Common.{rules}
use Rattle.glsl_parse.proofs.Whole.{whole_syntax}
use Rattle.glsl_parse.proofs.units.parse.Goals as goal

pub returns-in_err-items-clause-syntax : goal.returns-in_err-items-clause-syntax
returns-in_err-items-clause-syntax c =
    let none = whole_syntax c.args.tokens.now c.in_err-items.field-0.0 c.in_err-items.ensures in
    search rules
