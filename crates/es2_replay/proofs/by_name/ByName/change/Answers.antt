-- The buffer was changed in the one place where it is looked for.
use Rattle.std.proofs.Common.{rules, ◌≡◌, ℕ, Option, None, true, ap, ◌∙◌}
use Rattle.std.specs.Prelude.{is_some}
use Rattle.gl_model.specs.Buffers.{Buffer}
use Rattle.es2_replay.specs.Named.{Names, slot, entry, named, changed, changed_by}
use Rattle.es2_replay.proofs.Slots.{changed-slot, changed-other}
use Rattle.es2_replay.proofs.by_name.ByName.change.Goals as goal

pub returns-then-has_slot : goal.returns-then-has_slot
returns-then-has_slot c =
    let mine : ℕ → Option Buffer = slot c.self.inside.slots.items in
    let others : ℕ → Option Buffer = entry c.self.inside.others.entries in
    let is : is_some (mine c.args.name) ≡ true = search rules in
    changed-slot (changed_by c.args.change) c.args.name mine _ others is c.change_slot.ensures
    ∙ ap (λ (k : Names). changed (changed_by c.args.change) c.args.name (named k)) c.self.view_is

pub returns-else-has_slot : goal.returns-else-has_slot
returns-else-has_slot c =
    let mine : ℕ → Option Buffer = slot c.self.inside.slots.items in
    let others : ℕ → Option Buffer = entry c.self.inside.others.entries in
    let none : mine c.args.name ≡ None = search rules in
    changed-other (changed_by c.args.change) c.args.name mine others _ none c.change_other.ensures
    ∙ ap (λ (k : Names). changed (changed_by c.args.change) c.args.name (named k)) c.self.view_is
