-- The first slot that waits is the one that was found, or there is none.
use Rattle.std.proofs.Common.{arith}
use Rattle.uniform_values.proofs.Soundness.{first-found, none-found, nothing-waits}
use Rattle.uniform_values.proofs.values.first_true.Goals as goal

pub returns-then-waiting-number-clause-value : goal.returns-then-waiting-number-clause-value
returns-then-waiting-number-clause-value c =
    first-found c.args.waiting.now c.loop-number.number (omega (arith, c.requires.ended, c.loop-number-test.true)) c.loop-number.invariant
    c.if-waiting-number.true

pub returns-clause-value : goal.returns-clause-value
returns-clause-value c =
    none-found c.args.waiting.now
    (nothing-waits c.args.waiting.now c.args.first c.args.end c.loop-number.number c.requires c.loop-number-test.false
    c.loop-number.invariant)
