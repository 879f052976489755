-- The store binds what the page binds.
use Rattle.std.proofs.Common.{Some, refl, sym}
use Rattle.gl_numbers.specs.BufferBindings.{bind}
use Rattle.buffer_store.specs.StoredBuffer.{with_first}
use Rattle.gl_context.proofs.Acting.{acts-bind}
use Rattle.gl_context.proofs.Tying.{tied-changed}
use Rattle.gl_context.proofs.context.Context.bind.Goals as goal

pub invariant_of-self-2 : goal.invariant_of-self-2
invariant_of-self-2 c = rw (c.in_default-bind.ensures.ok) (tied-changed c.self.inside.names c.self.inside.buffers (bind (Some c.in-Some.to) c.in-Ok.bindable.0 c.self.inside.buffers.bound) c.in-Ok.bindable.0 (with_first c.in-Some.to) c.self.invariant)

pub returns-clause-acts : goal.returns-clause-acts
returns-clause-acts c w k sound =
    let acts = acts-bind _ w c.in-Some.to c.args.target c.args.handle c.in-Ok.bindable.0 c.bind.new.self (rw (← c.self.view_is) at k) sound
    (sym c.in-Some.ensures) (c.in-Ok.ensures.judged w k sound) c.in-Ok.ensures.bound.0 c.in_default-bind.ensures.judged c.in_default-bind.ensures.ok in
    (acts.0, acts.1, refl, rw c.in-Ok.ensures.bound.1 refl)
