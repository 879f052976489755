-- The structures that are declared before a place.
use Rattle.std.proofs.Common.{◌≡◌, ℕ, zero, suc, ◌+◌, ◌<◌, Bool, false, List, [], ◌∷◌, ◌++◌, length, get_or, take, drop, refl, sym, ap, ◌∙◌, add-one, arith, drop-cons}
use Rattle.std.proofs.Math.Seq.{take-suc}
use Rattle.std.specs.Prelude.{Option, Some, None, if◌then◌else◌}
use Rattle.std.specs.Option.{option_map_or}
use Rattle.std.specs.Str.{bytes_eq}
use Rattle.glsl_tree.specs.declared.declarations.TypeSpecifier.{TypeSpecifier}
use Rattle.glsl_tree.specs.declared.statements.Item.{Item}
use Rattle.appendix_a.specs.Names.{Structures, has_sampler, item_names, item_sampler, item_structures, item_type, names_from, structure_name, structure_sampler, with_structure}
use Rattle.appendix_a.specs.Structures.{item_declares, samplers_from, structures_after, type_declares}

after-append : (s : Structures) (xs ys : List Item) → structures_after s (xs ++ ys) ≡ structures_after (structures_after s xs) ys
after-append s [] ys = refl
after-append s (x ∷ xs) ys = after-append (item_structures s x) xs ys

samplers-append : (s : Structures) (xs ys : List Item) → samplers_from s (xs ++ ys) ≡ samplers_from s xs ++ samplers_from (structures_after s xs) ys
samplers-append s [] ys = refl
samplers-append s (x ∷ xs) ys = ap (λ more. item_sampler s x ∷ more) (samplers-append (item_structures s x) xs ys)

-- one declaration or function more
pub after-more : (items : List Item) (n : ℕ) (d : Item) → n < length items
    → structures_after [] (take (n + 1) items) ≡ item_structures (structures_after [] (take n items)) (get_or items n d)
after-more items n d within =
    rw add-one (ap (structures_after []) (take-suc items n d within) ∙ after-append [] (take n items) (get_or items n d ∷ []))

pub samplers-more : (items : List Item) (n : ℕ) (d : Item) → n < length items
    → samplers_from [] (take (n + 1) items) ≡ samplers_from [] (take n items) ++ item_sampler (structures_after [] (take n items)) (get_or items n d) ∷ []
samplers-more items n d within =
    rw add-one (ap (samplers_from []) (take-suc items n d within) ∙ samplers-append [] (take n items) (get_or items n d ∷ []))

pub names-more : (s : Structures) (items : List Item) (n : ℕ) (d : Item) → n < length items
    → names_from s (drop n items) ≡ item_names (item_sampler s (get_or items n d)) (get_or items n d) ++ names_from (item_structures s (get_or items n d)) (drop (n + 1) items)
names-more s items n d within = rw add-one (ap (names_from s) (drop-cons items n d within))

-- what is known of one of them
pub sampler-at : (s : Structures) (items : List Item) (n : ℕ) (d : Item) (b : Bool) → n < length items
    → get_or (samplers_from s items) n b ≡ item_sampler (structures_after s (take n items)) (get_or items n d)
sampler-at s [] n d b within = absurd (omega arith)
sampler-at s (x ∷ xs) zero d b within = refl
sampler-at s (x ∷ xs) (suc n) d b within = sampler-at (item_structures s x) xs n d b (omega arith)

pub length-samplers : (s : Structures) (items : List Item) → length (samplers_from s items) ≡ length items
length-samplers s [] = refl
length-samplers s (x ∷ xs) = ap suc (length-samplers (item_structures s x) xs)

-- what is found of a name with one more
found-named : (s : Structures) (sampler : Bool) (own : Option (List ℕ)) (name : List ℕ)
    → structure_sampler (option_map_or (λ n. (n, sampler) ∷ s) own s) name
    ≡ (if option_map_or (λ n. bytes_eq n name) own false then sampler else structure_sampler s name)
found-named s sampler None name = refl
found-named s sampler (Some n) name = refl

found-typed : (s : Structures) (kind : Option TypeSpecifier) (name : List ℕ)
    → structure_sampler (option_map_or (with_structure s) kind s) name
    ≡ (if option_map_or (type_declares name) kind false then option_map_or (has_sampler s) kind false else structure_sampler s name)
found-typed s None name = refl
found-typed s (Some t) name = found-named s (has_sampler s t) (structure_name t) name

-- a turn of the search for a name
pub found-turn : (items : List Item) (samplers : List Bool) (n : ℕ) (d : Item) (name : List ℕ) (found next : Bool) → n < length items
    → samplers ≡ samplers_from [] items → d ≡ get_or items n d
    → next ≡ (if item_declares name d then get_or samplers n false else found)
    → found ≡ structure_sampler (structures_after [] (take n items)) name
    → next ≡ structure_sampler (structures_after [] (take (n + 1) items)) name
found-turn items samplers n d name found next within known is same so_far =
    let before = structures_after [] (take n items) in
    let at : get_or samplers n false ≡ item_sampler before d =
    ap (λ (all : List Bool). get_or all n false) known ∙ sampler-at [] items n d false within ∙ ap (item_sampler before) (sym is) in
    let after : structures_after [] (take (n + 1) items) ≡ item_structures before d =
    after-more items n d within ∙ ap (item_structures before) (sym is) in
    same
    ∙ ap (λ (b : Bool). if item_declares name d then b else found) at
    ∙ ap (λ (b : Bool). if item_declares name d then item_sampler before d else b) so_far
    ∙ sym (found-typed before (item_type d) name)
    ∙ ap (λ (s : Structures). structure_sampler s name) (sym after)

pub ruleset of_structures = (length-samplers)
