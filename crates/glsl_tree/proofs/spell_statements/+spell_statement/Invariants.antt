use Rattle.std.proofs.Common.{◌≡◌, ◌++◌, map, drop}
use Rattle.glsl_tree.specs.Types.{joined}
use Rattle.glsl_tree.specs.Statements.{statement_tokens}
use Rattle.glsl_tree.specs.Token.{plain_tokens}
use Rattle.glsl_tree.proofs.spell_statements.+spell_statement.Given as goal

-- what was added, and then what is left, is all
abbrev pub invariant-push_statements-loop-statement : goal.invariant-push_statements-loop-statement
invariant-push_statements-loop-statement l =
    plain_tokens l.out.items ++ joined (map statement_tokens (drop l.statement-index l.statements))
    ≡ plain_tokens l.fn.out.items ++ joined (map statement_tokens l.statements)
