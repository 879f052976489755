-- The bound buffer took the zeros and the usage.
use Rattle.std.proofs.Common.{rules, ◌≡◌, Some, ap, ◌∙◌}
use Rattle.std.specs.Prelude.{replicate}
use Rattle.gl_numbers.specs.BufferBindings.{bound_to}
use Rattle.gl_model.specs.Buffers.{take_data}
use Rattle.es2_replay.specs.Named.{named, changed}
use Rattle.es2_replay.specs.Kept.{Kept}
use Rattle.es2_replay.proofs.Names.{for-any, state-changed_bound}
use Rattle.es2_replay.proofs.machine.Machine.buffer_size.Goals as goal

pub change-requires : goal.change-requires
change-requires c = for-any _ (λ _. tt)

pub returns-clause-state : goal.returns-clause-state
returns-clause-state c =
    let bound : bound_to c.args.self.now.bound c.args.target ≡ Some c.in-Some.name = cc in
    let zeros : c.in-Ok.zeros ≡ replicate c.args.size 0 = search rules in
    let new : Kept = record { made = c.change.new.self; bound = c.self.inside.bound; count = c.self.inside.count } in
    let same : new.bound ≡ c.args.self.now.bound = ap (λ (k : Kept). k.bound) c.self.view_is in
    let made : named c.change.new.self
    ≡ changed (take_data c.args.usage c.in-Ok.zeros) c.in-Some.name (named c.args.self.now.made) =
    c.change.ensures
    ∙ ap (λ (k : Kept). changed (take_data c.args.usage c.in-Ok.zeros) c.in-Some.name (named k.made)) c.self.view_is in
    rw zeros at
    (state-changed_bound (take_data c.args.usage c.in-Ok.zeros) c.args.target c.in-Some.name c.args.self.now new bound made same)
