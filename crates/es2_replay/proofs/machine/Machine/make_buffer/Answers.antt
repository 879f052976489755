-- The name has a new buffer.
use Rattle.std.proofs.Common.{◌≡◌, Some, ap, ◌∙◌}
use Rattle.gl_model.specs.Buffers.{new_buffer}
use Rattle.es2_replay.specs.Named.{named, placed}
use Rattle.es2_replay.specs.Kept.{Kept}
use Rattle.es2_replay.proofs.Names.{state-placed}
use Rattle.es2_replay.proofs.machine.Machine.make_buffer.Goals as goal

pub insert-requires : goal.insert-requires
insert-requires c = ap (λ (k : Kept). named k.made c.args.name) c.self.view_is ∙ c.requires

pub returns-clause-state : goal.returns-clause-state
returns-clause-state c =
    let new : Kept = record { made = c.insert.new.self; bound = c.self.inside.bound; count = c.self.inside.count } in
    let same : new.bound ≡ c.args.self.now.bound = ap (λ (k : Kept). k.bound) c.self.view_is in
    let made : named c.insert.new.self ≡ placed (Some new_buffer) c.args.name (named c.args.self.now.made) =
    rw c.new-buffer.ensures at c.in-Ok.ensures.made ∙ ap (λ (k : Kept). placed (Some new_buffer) c.args.name (named k.made)) c.self.view_is in
    state-placed (Some new_buffer) c.args.name c.args.self.now new c.args.self.now.bound made same
