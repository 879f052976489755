use Rattle.std.proofs.Common.{◌+◌, ◌*◌, ◌-◌, ◌≡◌, ◌≤◌, length}
use Rattle.glsl_tree.specs.Token.{plain_tokens}
use Rattle.glsl_preproc.specs.Conditions.{chain_from, chain_behind, expression_at, operand_within}
use Rattle.glsl_preproc.specs.ConditionViews.{parsed_of, IsParsedWithin}
use Rattle.glsl_preproc.proofs.conditions.+expression.Given as goal

abbrev pub decreases-operand : goal.decreases-operand
decreases-operand l = 24 * l.levels

abbrev pub decreases-chain : goal.decreases-chain
decreases-chain l = 24 * l.levels + 2 * l.level

abbrev pub decreases-expression : goal.decreases-expression
decreases-expression l = 24 * l.levels + 2 * l.level + 1

-- the operands so far, and what is left
abbrev pub invariant-chain-loop-rest : goal.invariant-chain-loop-rest
invariant-chain-loop-rest l = record {
  rest : chain_from (expression_at (operand_within l.levels) (l.level - 1)) l.level l.value l.count 0 (plain_tokens l.rest)
      ≡ chain_behind (expression_at (operand_within l.levels) (l.level - 1)) l.level (plain_tokens l.list) (parsed_of l.fn.first);
  count : l.count + length l.rest ≡ length l.list;
}

abbrev pub decreases-chain-loop-rest : goal.decreases-chain-loop-rest
decreases-chain-loop-rest l = length l.rest

-- the expression of a lower level
abbrev pub invariant-expression-loop-done : goal.invariant-expression-loop-done
invariant-expression-loop-done l = record {
  parsed : parsed_of l.parsed ≡ expression_at (operand_within l.levels) l.done (plain_tokens l.list);
  within : IsParsedWithin (length l.list) l.parsed;
  most : l.done ≤ l.level;
}

abbrev pub decreases-expression-loop-done : goal.decreases-expression-loop-done
decreases-expression-loop-done l = l.level - l.done
