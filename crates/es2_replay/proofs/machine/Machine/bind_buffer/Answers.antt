-- The name was bound to the target, and its buffer took the target.
use Rattle.std.proofs.Common.{◌≡◌, Some, ap, ◌∙◌}
use Rattle.gl_numbers.specs.BufferBindings.{bind, non_zero}
use Rattle.gl_numbers.specs.BufferWords.{buffer_target_of}
use Rattle.gl_model.specs.Buffers.{take_target}
use Rattle.es2_replay.specs.Named.{named, changed}
use Rattle.es2_replay.specs.Kept.{Kept}
use Rattle.es2_replay.proofs.Names.{for-any, state-bound}
use Rattle.es2_replay.proofs.machine.Machine.bind_buffer.Goals as goal

pub change-requires : goal.change-requires
change-requires c = for-any _ (λ _. tt)

pub returns-clause-state : goal.returns-clause-state
returns-clause-state c =
    let wanted : buffer_target_of c.args.target ≡ Some c.in-Some.wanted = cc in
    let bound : c.set.new.self ≡ bind (Some c.in-Some.wanted) (non_zero c.args.name) c.args.self.now.bound =
    rw c.non_zero.ensures at
    (c.set.ensures ∙ ap (λ (k : Kept). bind (Some c.in-Some.wanted) c.non_zero.result k.bound) c.self.view_is) in
    let new : Kept = record { made = c.change.new.self; bound = c.set.new.self; count = c.self.inside.count } in
    let made : named c.change.new.self ≡ changed (take_target (Some c.in-Some.wanted)) c.args.name (named c.args.self.now.made) =
    c.change.ensures ∙ ap (λ (k : Kept). changed (take_target (Some c.in-Some.wanted)) c.args.name (named k.made)) c.self.view_is in
    state-bound c.args.target c.args.name c.in-Some.wanted c.args.self.now new wanted made bound
