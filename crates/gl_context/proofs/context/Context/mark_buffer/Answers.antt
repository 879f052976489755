-- A buffer that was deleted is marked and let go.
use Rattle.std.proofs.Common.{None}
use Rattle.gl_context.proofs.Acting.{acts-delete}
use Rattle.gl_context.proofs.Tying.{tied-delete}
use Rattle.gl_context.proofs.context.Context.mark_buffer.Goals as goal

pub invariant_of-self : goal.invariant_of-self
invariant_of-self c = rw (c.delete.ensures.after, c.gone.ensures) (tied-delete c.self.inside.names c.self.inside.buffers None c.args.handle c.self.invariant)

pub returns-clause-keeps : goal.returns-clause-keeps
returns-clause-keeps c w k live =
    rw (c.delete.ensures.after, c.gone.ensures, c.buffer_gone.ensures) (acts-delete _ w None c.args.handle (rw (← c.self.view_is) at k) live)
