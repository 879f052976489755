-- The store fills what the page fills.
use Rattle.std.proofs.Common.{refl, sym}
use Rattle.gl_numbers.specs.BufferBindings.{binding}
use Rattle.buffer_store.specs.Content.{buffer_of}
use Rattle.gl_context.proofs.Acting.{acts-data}
use Rattle.gl_context.proofs.Sent.{content-fill}
use Rattle.gl_context.proofs.Tying.{tied-changed}
use Rattle.gl_context.proofs.context.Context.fill.Goals as goal

pub invariant_of-self-2 : goal.invariant_of-self-2
invariant_of-self-2 c = rw (c.in_default-data.ensures.ok) (tied-changed c.self.inside.names c.self.inside.buffers c.self.inside.buffers.bound (binding c.self.inside.buffers.bound c.in-Some-Some.to) (λ _. buffer_of c.in-Some-Some.to c.in-Some.content c.in-Some-Some.used) c.self.invariant)

pub returns-clause-acts : goal.returns-clause-acts
returns-clause-acts c w k sound =
    let acts = acts-data _ w c.in-Some-Some.to c.in-Some-Some.used c.args.target c.args.usage c.args.fill c.in-Some.content c.data.new.self (rw (← c.self.view_is) at k) sound
    (sym c.in-Some-Some.ensures) (sym c.in-Some-Some.ensures') c.in-Some.ensures c.in_default-data.ensures.judged c.in_default-data.ensures.ok in
    (acts.0, acts.1, refl, content-fill c.args.target c.args.usage c.args.fill c.in-Some.content c.in-Some.ensures)
