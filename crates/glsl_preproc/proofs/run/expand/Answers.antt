use Rattle.std.proofs.Common.{length, refl, sym, ap, ◌∙◌, arith}
use Rattle.std.proofs.lemmas.List.{length-map}
use Rattle.glsl_tree.specs.Token.{plain, plain_tokens}
use Rattle.glsl_preproc.specs.Replacement.{Whole, ended}
use Rattle.glsl_preproc.specs.Expansion.{expansion}
use Rattle.glsl_preproc.proofs.OneExpansion.{reached_expansion, err_answer}
use Rattle.glsl_preproc.proofs.TextLines.{ok_text}
use Rattle.glsl_preproc.proofs.run.expand.Goals as goal

pub returns-in-Err-clause-answer : goal.returns-in-Err-clause-answer
returns-in-Err-clause-answer c =
    let source = plain_tokens c.args.tokens.now in
    err_answer 1024 source c.read_lines-end.new.reader.tokens (expansion 1024 source) c.in-Err.e refl c.as_slice-pieces.ensures.within c.in-Err.ensures

pub returns : goal.returns
returns c =
    let source = plain_tokens c.args.tokens.now in
    let tokens = plain_tokens c.in-Ok-tokens_of.out.items in
    let same = c.in-Ok-tokens_of.ensures ∙ c.as_slice-pieces.ensures.pieces in
    let outcome = c.in-Ok-end.ensures ∙ ap (λ l. ended l Whole) (sym same) in
    let long = length-map c.in-Ok-tokens_of.out.items plain in
    let size = ap length same in
    record {
      answer = (reached_expansion 1024 source tokens Whole (λ d. absurd cc) outcome, omega arith);
      text = ok_text 1024 source tokens outcome;
    }
