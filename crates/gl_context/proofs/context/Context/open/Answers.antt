-- A context at the start stands for the first states.
use Rattle.gl_context.proofs.Tying.{tied-first}
use Rattle.gl_context.proofs.First.{stands-first}
use Rattle.gl_context.proofs.context.Context.open.Goals as goal

pub invariant_of-result : goal.invariant_of-result
invariant_of-result g c = rw (c.new.ensures, c.new-2.ensures) tied-first

pub returns-clause-opens : goal.returns-clause-opens
returns-clause-opens g c = (c.in-Ok.ensures.bytes, rw (c.new.ensures, c.new-2.ensures, c.new-3.ensures, c.new-4.ensures, c.new-5.ensures, c.new-6.ensures) stands-first)
