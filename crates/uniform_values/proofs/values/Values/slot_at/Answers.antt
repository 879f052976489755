-- The slot lies within, as all do.
use Rattle.std.proofs.Common.{◌<◌, length, refl}
use Rattle.std.proofs.lemmas.Option.{slice_get_read}
use Rattle.uniform_values.proofs.values.Values.slot_at.Goals as goal

pub returns-clause-within : goal.returns-clause-within
returns-clause-within c =
    let there : c.args.number < length c.self.inside.slots.items = rw (← c.self.view_is) at c.requires in
    rw (← c.self.view_is) (c.self.invariant.within c.args.number c.index.result.now (slice_get_read _ _ _ _ refl there c.index.ensures))
