-- What stands for the uniforms has room.
use Rattle.std.proofs.Common.{◌∙◌, ◌*◌, ap, map, sym}
use Rattle.std.specs.Prelude.{is_some}
use Rattle.varying_pack.specs.Placing.{placing}
use Rattle.program_link.specs.declared.leaves.Leaf.{Leaf}
use Rattle.program_link.specs.Items.{leaves, used}
use Rattle.program_link.specs.Kept.{kept_leaf}
use Rattle.program_link.specs.Rules.{placed}
use Rattle.program_link.proofs.Rooms.{room-elements, room-found, room-leaves}
use Rattle.program_link.proofs.room.used_leaves.Goals as goal

pub returns-then-branch : goal.returns-then-branch
returns-then-branch c =
    let flat = c.in_ok-leaves.ensures
    ∙ ap (λ u. map kept_leaf (leaves c.args.structures.now (used u))) c.as_slice-uniforms.ensures in (
      room-found c.args.rows c.args.shader.now c.args.structures.now c.in_ok-leaves.leaves.items c.in_ok-items.items.items
          c.requires.structures flat (c.in_ok-items.ensures ∙ ap (map (λ (leaf : Leaf). placed leaf.kind)) c.deref.ensures.value)
          (ap (λ l. is_some (placing c.args.rows l)) (sym c.deref-2.ensures.value) ∙ sym c.in_ok-have_room.ensures ∙ c.if-branch.true),
      room-leaves c.args.shader.now c.args.structures.now c.in_ok-leaves.leaves.items c.requires.structures flat,
      room-elements c.args.rows (c.from.result * 4) c.args.structures.now c.as_slice-uniforms.result.now c.in_ok-leaves.leaves.items
          (ap (λ n. n * 4) c.from.ensures) c.in_ok-leaves.ensures
          (sym c.have_few_elements.ensures ∙ c.if-not-have_few_elements.false),
    )
