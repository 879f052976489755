-- At the beginning the uniform is pending by itself.
use Rattle.std.proofs.Common.{◌∙◌, ◌++◌, ◌∷◌, [], ap, length}
use Rattle.program_link.specs.declared.flattening.Pending.{Pending}
use Rattle.program_link.specs.Kept.{kept_part}
use Rattle.program_link.proofs.Taking.{standing-start}
use Rattle.program_link.proofs.flattening.Structures.flatten.Goals as goal

pub loop-top-init : goal.loop-top-init
loop-top-init c =
    let p : Pending = record { name = c.in_ok-name.name; kind = c.args.item.now.kind; seen = length c.self.inside.structs.now } in
    standing-start c.args.self.now c.args.item.now.name p c.push.new.self.items c.args.leaves.now.items
    (c.in_ok-name.ensures ∙ ap kept_part c.as_slice.ensures) (ap length c.self.view_is)
    (c.in_ok-push.ensures.items ∙ ap (λ l. l ++ p ∷ []) c.new-pending.ensures.items)
