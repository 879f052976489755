use Rattle.std.proofs.Common.{◌≡◌, ◌≤◌, ◌+◌, ◌*◌, length}
use Rattle.glsl_tree.specs.Token.{plain_tokens}
use Rattle.glsl_parse.specs.Readings.{looped}
use Rattle.glsl_parse.specs.StatementReadings.{statement_at, statements, more_statements}
use Rattle.glsl_parse.proofs.statements.+statement.Given as goal

abbrev pub decreases-statement : goal.decreases-statement
decreases-statement l = 10 * l.room

abbrev pub decreases-led : goal.decreases-led
decreases-led l = 10 * l.below + 9

abbrev pub decreases-block : goal.decreases-block
decreases-block l = 10 * l.below + 8

abbrev pub decreases-statements : goal.decreases-statements
decreases-statements l = 10 * l.below + 7

abbrev pub decreases-choice : goal.decreases-choice
decreases-choice l = 10 * l.below + 6

abbrev pub decreases-while_loop : goal.decreases-while_loop
decreases-while_loop l = 10 * l.below + 6

abbrev pub decreases-do_loop : goal.decreases-do_loop
decreases-do_loop l = 10 * l.below + 6

abbrev pub decreases-for_loop : goal.decreases-for_loop
decreases-for_loop l = 10 * l.below + 6

-- the statements so far, and what is left
abbrev pub invariant-statements-loop-alloc : goal.invariant-statements-loop-alloc
invariant-statements-loop-alloc l = record {
  reads : looped (more_statements (statement_at l.below)) l.all (plain_tokens l.rest) ≡ statements (statement_at l.below) (plain_tokens l.list);
  shorter : length l.rest ≤ length l.list;
}

abbrev pub decreases-statements-loop-alloc : goal.decreases-statements-loop-alloc
decreases-statements-loop-alloc l = length l.rest
