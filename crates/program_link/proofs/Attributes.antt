-- Attributes with their locations, as far as a walk has come.
use Rattle.std.proofs.Common.{◌≡◌, ℕ, ◌+◌, ◌<◌, ◌≤◌, true, false, List, [], ◌∷◌, ◌++◌, length, drop, get_or, refl, sym, ap, ◌∙◌, append_assoc, append-nil, arith}
use Rattle.std.specs.Prelude.{ltb}
use Rattle.std.proofs.lemmas.Grind.{common_steps}
use Rattle.std.proofs.lemmas.List.{drop_all, drop_more}
use Rattle.glsl_types.specs.declared.interface.Item.{Item}
use Rattle.program_link.specs.declared.active.Attribute.{Attribute}
use Rattle.program_link.specs.Items.{used}
use Rattle.program_link.specs.Linked.{at_locations}
use Rattle.program_link.proofs.Locating.{used-drop-end, used-drop-unused, used-drop-used}

-- one more attribute has its location
pub attribute-step : (items : List Item) (i : ℕ) (d : Item) (locations : List ℕ) (n e : ℕ) (done more whole : List Attribute)
    → i < length items
    → (get_or items i d).used ≡ true → n < length locations
    → more ≡ done ++ (let a : Attribute = record {
      name = (get_or items i d).name;
      base = (get_or items i d).kind.base;
      location =
          get_or locations n e;
    } in a) ∷ []
    → whole ≡ done ++ at_locations (used (drop i items)) (drop n locations)
    → whole ≡ more ++ at_locations (used (drop (i + 1) items)) (drop (n + 1) locations)
unfolding at_locations
attribute-step items i d locations n e done more whole within is enough added so_far =
    so_far ∙ (λ j. done ++ at_locations (used-drop-used items i d within is j) (drop_more locations n e enough j))
    ∙ sym (append_assoc done
    ((let a : Attribute = record {
      name = (get_or items i d).name;
      base = (get_or items i d).kind.base;
      location = get_or locations n e;
    } in a) ∷ []) (at_locations (used (drop (i + 1) items)) (drop (n + 1) locations)))
    ∙ ap (λ l. l ++ at_locations (used (drop (i + 1) items)) (drop (n + 1) locations)) (sym added)

-- an item isn't used
pub attribute-past : (items : List Item) (i : ℕ) (d : Item) (locations : List ℕ) (n : ℕ) (done whole : List Attribute) → i < length items
    → (get_or items i d).used ≡ false → whole ≡ done ++ at_locations (used (drop i items)) (drop n locations)
    → whole ≡ done ++ at_locations (used (drop (i + 1) items)) (drop n locations)
attribute-past items i d locations n done whole within is so_far =
    so_far ∙ ap (λ l. done ++ at_locations l (drop n locations)) (used-drop-unused items i d within is)

none-left : (items : List Item) → at_locations items [] ≡ []
unfolding at_locations
none-left [] = refl
none-left (item ∷ items) = refl

-- there is no location for it
pub attribute-without : (items : List Item) (i j : ℕ) (locations : List ℕ) (n : ℕ) (done whole : List Attribute) → length locations ≤ n
    → whole ≡ done ++ at_locations (used (drop i items)) (drop n locations)
    → whole ≡ done ++ at_locations (used (drop j items)) (drop n locations)
attribute-without items i j locations n done whole past so_far =
    let none : drop n locations ≡ [] = drop_all n locations past in
    so_far ∙ ap (λ l. done ++ at_locations (used (drop i items)) l) none ∙ ap (λ l. done ++ l) (none-left (used (drop i items)))
    ∙ sym (ap (λ l. done ++ at_locations (used (drop j items)) l) none ∙ ap (λ l. done ++ l) (none-left (used (drop j items))))

no-items : (locations : List ℕ) → at_locations [] locations ≡ []
unfolding at_locations
no-items [] = refl
no-items (location ∷ locations) = refl

-- no item is left
pub attribute-end : (items : List Item) (i : ℕ) (locations : List ℕ) (n : ℕ) (done whole : List Attribute) → length items ≤ i
    → whole ≡ done ++ at_locations (used (drop i items)) (drop n locations) → whole ≡ done
attribute-end items i locations n done whole past so_far =
    so_far ∙ ap (λ l. done ++ at_locations l (drop n locations)) (used-drop-end items i past)
    ∙ ap (λ l. done ++ l) (no-items (drop n locations)) ∙ append-nil done

-- the same of the item that a turn has
pub attribute-more : (items : List Item) (i : ℕ) (d : Item) (locations : List ℕ) (n k m e : ℕ) (a : Attribute)
    (done more whole : List Attribute) → i < length items → d ≡ get_or items i d → d.used ≡ true → k ≡ n → true ≡ ltb k (length locations)
    → e ≡ get_or locations k e → a.name ≡ d.name → a.base ≡ d.kind.base → a.location ≡ e → m ≡ n + 1 → more ≡ done ++ a ∷ []
    → whole ≡ done ++ at_locations (used (drop i items)) (drop n locations)
    → whole ≡ more ++ at_locations (used (drop (i + 1) items)) (drop m locations)
attribute-more items i d locations n k m e a done more whole within own is at there here name base location next added so_far =
    let inside : k < length locations = grind (arith, common_steps, there) in
    attribute-step items i d locations n e done more whole within (ap (λ (t : Item). t.used) (sym own) ∙ is) (omega (arith, inside, at))
    (added ∙ (λ j. done ++ (let b : Attribute = record {
      name = (name ∙ ap (λ (t : Item). t.name) own) j;
      base = (base ∙ ap (λ (t : Item). t.kind.base) own) j;
      location = (location ∙ here ∙ ap (λ p. get_or locations p e) at) j;
    } in b) ∷ []))
    so_far
    ∙ (λ j. more ++ at_locations (used (drop (i + 1) items)) (drop (sym next j) locations))

pub past-locations : (locations : List ℕ) (k n : ℕ) → k ≡ n → false ≡ ltb k (length locations) → length locations ≤ n
past-locations locations k n at none =
    let past : length locations ≤ k = grind (arith, common_steps, none) in omega (arith, past, at)

pub ruleset of_attributes = (attribute-step, attribute-past, attribute-without, attribute-end)
