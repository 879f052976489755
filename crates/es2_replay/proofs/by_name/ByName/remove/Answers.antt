-- The name is gone from both places.
use Rattle.std.proofs.Common.{None, ap, ◌∙◌}
use Rattle.es2_replay.specs.Named.{Names, named, placed}
use Rattle.es2_replay.proofs.Slots.{placed-none}
use Rattle.es2_replay.proofs.by_name.ByName.remove.Goals as goal

pub returns : goal.returns
returns c =
    placed-none c.args.name _ _ _ _ c.clear.ensures c.remove_other.ensures
    ∙ ap (λ (k : Names). placed None c.args.name (named k)) c.self.view_is
