-- The reply is the page's step, and the driver follows.
use Rattle.std.proofs.Common.{refl, ◌∙◌}
use Rattle.gl_context.specs.Stands.{Stands}
use Rattle.gl_context.proofs.Steps.{steps-error, steps-acted, stops-acted}
use Rattle.gl_context.proofs.context.Context.apply.Goals as goal

pub returns-in-Ok-clause-steps : goal.returns-in-Ok-clause-steps
returns-in-Ok-clause-steps g c = λ w driver stands.
    let acts = c.in-Ok.ensures.sends w stands.keeps stands.sound in
    steps-acted w driver (g.C.SubjectCall.whole_call c.args.call.now) c.args.self.now c.act.new.context _ _ _ _ stands c.requires.fits acts.0 refl acts.1 (c.in-Ok.ensures.failed ∙ stands.working) (λ i. record { raised = 0; value = acts.2 i }) acts.3

pub returns-in-Err-Raised-clause-steps : goal.returns-in-Err-Raised-clause-steps
returns-in-Err-Raised-clause-steps g c = λ w driver stands.
    let acts = rw c.in-Err-Raised.field-0-is at (c.in-Err-Raised.ensures.sends w stands.keeps stands.sound) in
    let still : Stands c.act.new.context w driver = record { working = c.in-Err-Raised.ensures.failed ∙ stands.working; keeps = acts.1; sound = stands.sound; agrees = stands.agrees } in
    rw (c.raise.ensures.kept, c.raise.ensures.reply, acts.2) (steps-error w driver (g.C.SubjectCall.whole_call c.args.call.now) c.act.new.context _ c.in-Err-Raised.error still acts.0)

pub returns-in-Err-Unsent-clause-steps : goal.returns-in-Err-Unsent-clause-steps
returns-in-Err-Unsent-clause-steps g c = λ w driver stands.
    let acts = rw c.in-Err-Unsent.field-0-is at (c.in-Err-Unsent.ensures.sends w stands.keeps stands.sound) in
    stops-acted w driver (g.C.SubjectCall.whole_call c.args.call.now) c.args.self.now _ _ _ (record {}) stands c.requires.fits acts.0 refl acts.1
