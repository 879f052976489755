-- A part that ends past the bytes that were written.
use Rattle.std.proofs.Common.{◌≡◌, ◌+◌, ◌-◌, ◌≤◌, List, ℕ, ◌++◌, length, take, drop, sym, ap, ◌∙◌, arith, length-append}
use Rattle.std.specs.Prelude.{replicate}
use Rattle.std.proofs.lemmas.Grind.{common_steps}
use Rattle.std.proofs.lemmas.List.{length-replicate}
use Rattle.es2_replay.proofs.Zeros.{padded_to, length_padded, reached, over_zeros}
use Rattle.es2_replay.proofs.storage.Storage.write.Goals as goal

pub overflow_add-offset : goal.overflow_add-offset
overflow_add-offset c =
    let sized = length_padded c.self.inside.written.items c.self.inside.size c.self.invariant.0 in
    let same = ap length c.self.view_is in
    grind (arith, common_steps, sized, same)

pub returns : goal.returns
returns c =
    let written : List ℕ = c.self.inside.written.items in
    let size = c.self.inside.size in
    let offset = c.args.offset in
    let part : List ℕ = c.args.part.now in
    let sized = length_padded written size c.self.invariant.0 in
    let same = ap length c.self.view_is in
    let more : List ℕ = replicate (offset - length written) 0 in
    let long = length-append written more in
    let zeros : length more ≡ offset - length written = length-replicate (offset - length written) 0 in
    let fits : offset + length part ≤ size = omega (arith, c.requires, sized, same) in
    ap (padded_to size) c.put_past.ensures.items
    ∙ over_zeros (written ++ more) part size offset (omega (arith, long, zeros)) (grind (arith, common_steps, long, zeros)) fits
    ∙ ap (λ (l : List ℕ). take offset l ++ (part ++ drop (offset + length part) l))
    (reached written size offset (omega (arith, fits)) c.self.invariant.0 ∙ c.self.view_is)
