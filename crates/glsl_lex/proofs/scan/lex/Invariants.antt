use Rattle.std.proofs.Common.{length, ◌+◌, ◌≡◌, ◌≤◌}
use Rattle.glsl_tree.specs.SourceTokens.{source_tokens, tokens_from}
use Rattle.glsl_lex.specs.Scan.{before}
use Rattle.glsl_lex.proofs.scan.lex.Given as goal

-- the tokens so far, and what the rest of the source is read as behind them
abbrev pub invariant-loop-rest : goal.invariant-loop-rest
invariant-loop-rest l = record {
  rest : tokens_from (before l.scanner) 0 l.rest ≡ source_tokens l.source;
  within : length l.rest ≤ length l.source;
  lines : l.scanner.line + length l.rest ≤ 1 + length l.source;
}

abbrev pub decreases-loop-rest : goal.decreases-loop-rest
decreases-loop-rest l = length l.rest
