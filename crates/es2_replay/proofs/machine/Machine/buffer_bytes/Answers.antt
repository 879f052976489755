-- The bound buffer took the bytes.
use Rattle.std.proofs.Common.{◌≡◌, Some, ap, ◌∙◌}
use Rattle.gl_numbers.specs.BufferBindings.{bound_to}
use Rattle.gl_model.specs.Buffers.{patch}
use Rattle.es2_replay.specs.Named.{named, changed}
use Rattle.es2_replay.specs.Kept.{Kept}
use Rattle.es2_replay.proofs.Names.{state-changed_bound}
use Rattle.es2_replay.proofs.machine.Machine.buffer_bytes.Goals as goal

pub returns-clause-state : goal.returns-clause-state
returns-clause-state c =
    let bound : bound_to c.args.self.now.bound c.args.target ≡ Some c.in-Some.name = cc in
    let new : Kept = record { made = c.change.new.self; bound = c.self.inside.bound; count = c.self.inside.count } in
    let same : new.bound ≡ c.args.self.now.bound = ap (λ (k : Kept). k.bound) c.self.view_is in
    let made : named c.change.new.self
    ≡ changed (patch c.args.offset c.args.bytes.now) c.in-Some.name (named c.args.self.now.made) =
    c.change.ensures
    ∙ ap (λ (k : Kept). changed (patch c.args.offset c.args.bytes.now) c.in-Some.name (named k.made)) c.self.view_is in
    state-changed_bound (patch c.args.offset c.args.bytes.now) c.args.target c.in-Some.name c.args.self.now new bound made same
