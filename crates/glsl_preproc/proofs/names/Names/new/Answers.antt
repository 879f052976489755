use Rattle.std.proofs.Common.{◌≡◌, None, map, sym, ap, ◌∙◌, rules}
use Rattle.glsl_preproc.specs.NamePlaces.{index_of, place_of}
use Rattle.glsl_preproc.proofs.NamePlaces.{none_placed}
use Rattle.glsl_preproc.proofs.names.Names.new.Goals as goal

pub invariant_of-result : goal.invariant_of-result
invariant_of-result c q =
    let none : place_of c.new-2.result q ≡ None = search rules in
    none ∙ sym (ap (λ l. index_of (map (λ v. v.items) l) q) c.new.ensures.items ∙ none_placed q)
