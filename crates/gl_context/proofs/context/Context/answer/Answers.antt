-- The reply of the page's step was written, or nothing of it.
use Rattle.std.proofs.Common.{inr, refl}
use Rattle.gl_context.proofs.Steps.{replied}
use Rattle.gl_context.proofs.context.Context.answer.Goals as goal

pub returns-in_default-clause-steps : goal.returns-in_default-clause-steps
returns-in_default-clause-steps g c = λ w driver stands.
    inr (record { failed = _; stops = c.in_default.ensures.steps w driver stands; unwritten = refl })

pub returns-clause-steps : goal.returns-clause-steps
returns-clause-steps g c = λ w driver stands.
    replied w driver (g.C.SubjectCall.whole_call c.args.call.now) _ _ _ _ _ _ _ (c.in-Ok.ensures.steps w driver stands) c.write_answer.ensures.bytes
