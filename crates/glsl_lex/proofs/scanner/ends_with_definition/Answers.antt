use Rattle.std.proofs.Common.{◌-◌, length, drop, sym, arith}
use Rattle.std.proofs.lemmas.List.{length-drop, length-map}
use Rattle.glsl_tree.specs.Token.{plain, plain_tokens}
use Rattle.glsl_lex.proofs.Definition.{too_few}
use Rattle.glsl_lex.proofs.scanner.ends_with_definition.Goals as goal

pub returns-in_default : goal.returns-in_default
returns-in_default c =
    let tokens = c.args.tokens.now in
    let k = length tokens - 3 in
    let short = c.in_default.len_below in
    let left = length-drop k (plain_tokens tokens) in
    let same = length-map tokens plain in
    sym (too_few (drop k (plain_tokens tokens)) (omega arith))
