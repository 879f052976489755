-- A turn of the loop that numbers the names of a shader.
use Rattle.std.proofs.Common.{◌≡◌, ℕ, ◌+◌, ◌<◌, Bool, List, [], ◌∷◌, ◌++◌, length, get_or, take, drop, set, sym, ap, ◌∙◌, append_assoc}
use Rattle.std.proofs.lemmas.List.{take_more_set}
use Rattle.glsl_tree.specs.declared.statements.Item.{Item}
use Rattle.appendix_a.specs.Names.{Declared, Structures, item_names, item_sampler, item_structures, names_from}
use Rattle.appendix_a.specs.Structures.{samplers_from, structures_after}
use Rattle.appendix_a.proofs.StructureTurns.{after-more, names-more, samplers-more}

-- the names of one declaration or function more
pub names-turn : (items : List Item) (n : ℕ) (d : Item) (sampler : Bool) (before next whole : Declared) → n < length items → d ≡ get_or items n d
    → sampler ≡ item_sampler (structures_after [] (take n items)) d
    → next ≡ before ++ item_names sampler d
    → before ++ names_from (structures_after [] (take n items)) (drop n items) ≡ whole
    → next ++ names_from (structures_after [] (take (n + 1) items)) (drop (n + 1) items) ≡ whole
names-turn items n d sampler before next whole within is known added so_far =
    let s = structures_after [] (take n items) in
    let rest = drop (n + 1) items in
    let first : names_from s (drop n items) ≡ item_names (item_sampler s d) d ++ names_from (item_structures s d) rest =
    names-more s items n d within ∙ ap (λ (i : Item). item_names (item_sampler s i) i ++ names_from (item_structures s i) rest) (sym is) in
    let after : structures_after [] (take (n + 1) items) ≡ item_structures s d = after-more items n d within ∙ ap (item_structures s) (sym is) in
    ap (λ (all : Declared). all ++ names_from (structures_after [] (take (n + 1) items)) rest) added
    ∙ ap (λ (t : Structures). (before ++ item_names sampler d) ++ names_from t rest) after
    ∙ append_assoc before (item_names sampler d) (names_from (item_structures s d) rest)
    ∙ ap (λ (b : Bool). before ++ (item_names b d ++ names_from (item_structures s d) rest)) known
    ∙ ap (λ (more : Declared). before ++ more) (sym first)
    ∙ so_far

-- what is known of its type
pub samplers-turn : (items : List Item) (n : ℕ) (d : Item) (samplers : List Bool) (sampler : Bool) → n < length items → n < length samplers
    → d ≡ get_or items n d → sampler ≡ item_sampler (structures_after [] (take n items)) d
    → take n samplers ≡ samplers_from [] (take n items)
    → take (n + 1) (set samplers n sampler) ≡ samplers_from [] (take (n + 1) items)
samplers-turn items n d samplers sampler within room is known so_far =
    let s = structures_after [] (take n items) in
    take_more_set samplers n sampler room
    ∙ ap (λ (front : List Bool). front ++ sampler ∷ []) so_far
    ∙ ap (λ (b : Bool). samplers_from [] (take n items) ++ b ∷ []) known
    ∙ ap (λ (i : Item). samplers_from [] (take n items) ++ item_sampler s i ∷ []) is
    ∙ sym (samplers-more items n d within)
