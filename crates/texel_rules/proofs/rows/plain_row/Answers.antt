-- A row that is copied is one of which no texel changes.
use Rattle.std.proofs.Common.{◌∙◌, sym, arith}
use Rattle.texel_rules.proofs.Copying.{copied, never_of, never_on}
use Rattle.texel_rules.proofs.rows.plain_row.Goals as goal
use Rattle.texel_rules.proofs.rows.plain_row.Goals.{else-premultiplied-via-then-premultiplied+else-is_premultiplied, else-premultiplied-via-else-premultiplied}

pub returns-else-premultiplied : goal.returns-else-premultiplied
returns-else-premultiplied c =
    c.copy_from_slice.ensures.after
    ∙ copied c.args.layout c.args.premultiplied c.args.from.now c.requires.allowed c.requires.whole (λ k within. omega (arith, c.type_inv.from k))
    (elim c.else-premultiplied.branch [
      | else-premultiplied-via-then-premultiplied+else-is_premultiplied w ↦ never_of _ _ (sym w.is_premultiplied.ensures ∙ w.if-is_premultiplied.false)
      | else-premultiplied-via-else-premultiplied w ↦ never_on _ _ w.if-premultiplied.false
    ])
