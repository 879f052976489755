-- The name has no buffer, and is bound no longer.
use Rattle.std.proofs.Common.{◌≡◌, None, ap, ◌∙◌}
use Rattle.gl_numbers.specs.BufferBindings.{unbind}
use Rattle.es2_replay.specs.Named.{named, placed}
use Rattle.es2_replay.specs.Kept.{Kept}
use Rattle.es2_replay.proofs.Names.{state-placed}
use Rattle.es2_replay.proofs.machine.Machine.drop_buffer.Goals as goal

pub returns-clause-state : goal.returns-clause-state
returns-clause-state c =
    let new : Kept = record { made = c.remove.new.self; bound = c.unbind.new.self; count = c.self.inside.count } in
    let bound : new.bound ≡ unbind c.args.name c.args.self.now.bound =
    c.unbind.ensures ∙ ap (λ (k : Kept). unbind c.args.name k.bound) c.self.view_is in
    let made : named c.remove.new.self ≡ placed None c.args.name (named c.args.self.now.made) =
    c.remove.ensures ∙ ap (λ (k : Kept). placed None c.args.name (named k.made)) c.self.view_is in
    state-placed None c.args.name c.args.self.now new (unbind c.args.name c.args.self.now.bound) made bound
