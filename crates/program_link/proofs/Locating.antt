-- Attributes that are used, and what their locations leave, as far as a walk has come.
use Rattle.std.proofs.Common.{◌≡◌, ℕ, ◌+◌, ◌<◌, ◌≤◌, true, false, Option, Some, None, List, [], ◌∷◌, ◌++◌, length, drop, get_or, refl, sym, ap, ◌∙◌, add-one, drop-cons, append_assoc, append-nil}
use Rattle.std.proofs.lemmas.List.{drop_all}
use Rattle.std.specs.Option.{option_map}
use Rattle.std.specs.FinMap.{get}
use Rattle.glsl_types.specs.declared.interface.Item.{Item}
use Rattle.program_link.specs.Items.{used}
use Rattle.program_link.specs.Locations.{Bound, Taken, located, location_by, may_stand, taken_by, taken_by_bound, with_taken}

-- the item of this turn is used, or it isn't, or none is left
pub used-drop-used : (items : List Item) (i : ℕ) (d : Item) → i < length items → (get_or items i d).used ≡ true
    → used (drop i items) ≡ get_or items i d ∷ used (drop (i + 1) items)
used-drop-used items i d within is = rw (add-one, drop-cons items i d) (rw is refl)

pub used-drop-unused : (items : List Item) (i : ℕ) (d : Item) → i < length items → (get_or items i d).used ≡ false
    → used (drop i items) ≡ used (drop (i + 1) items)
used-drop-unused items i d within is = rw (add-one, drop-cons items i d) (rw is refl)

pub used-drop-end : (items : List Item) (i : ℕ) → length items ≤ i → used (drop i items) ≡ []
used-drop-end items i past = rw (drop_all i items past) refl

-- what is taken once an attribute stands where it was bound
pub taken-unbound : (bound : Bound) (taken : Taken) (item : Item) (items : List Item) → get bound item.name ≡ None
    → taken_by_bound bound taken (item ∷ items) ≡ taken_by_bound bound taken items
unfolding taken_by_bound
taken-unbound bound taken item items is = rw is refl

pub taken-bound : (bound : Bound) (taken : Taken) (item : Item) (items : List Item) (location : ℕ) → get bound item.name ≡ Some location
    → may_stand taken item.kind.base location ≡ true
    → taken_by_bound bound taken (item ∷ items) ≡ taken_by_bound bound (with_taken taken item.kind.base location) items
unfolding taken_by_bound
taken-bound bound taken item items location is stands = rw is (rw stands refl)

pub taken-refused : (bound : Bound) (taken : Taken) (item : Item) (items : List Item) (location : ℕ) → get bound item.name ≡ Some location
    → may_stand taken item.kind.base location ≡ false → taken_by_bound bound taken (item ∷ items) ≡ None
unfolding taken_by_bound
taken-refused bound taken item items location is stands = rw is (rw stands refl)

pub taken-end : (bound : Bound) (taken : Taken) → taken_by_bound bound taken [] ≡ Some taken
unfolding taken_by_bound
taken-end bound taken = refl

-- the locations once an attribute has its own, or finds none
pub located-step : (bound : Bound) (taken : Taken) (item : Item) (items : List Item) (location : ℕ)
    → location_by taken item.kind.base (get bound item.name) ≡ Some location → located bound taken (item ∷ items)
    ≡ option_map (λ others. location ∷ others) (located bound (taken_by taken item.kind.base (get bound item.name)) items)
unfolding located
located-step bound taken item items location is = rw is refl

pub located-none : (bound : Bound) (taken : Taken) (item : Item) (items : List Item)
    → location_by taken item.kind.base (get bound item.name) ≡ None → located bound taken (item ∷ items) ≡ None
unfolding located
located-none bound taken item items is = rw is refl

pub located-end : (bound : Bound) (taken : Taken) → located bound taken [] ≡ Some []
unfolding located
located-end bound taken = refl

pub ruleset of_used = (used-drop-used, used-drop-unused, used-drop-end)

pub ruleset of_taken = (used-drop-used, used-drop-unused, used-drop-end, taken-unbound, taken-bound, taken-refused, taken-end)

-- what is put before the locations that are left
before-rest : (done : List ℕ) (location : ℕ) (o : Option (List ℕ))
    → option_map (λ rest. done ++ rest) (option_map (λ others. location ∷ others) o) ≡ option_map
    (λ rest. (done ++ location ∷ []) ++ rest) o
before-rest done location None = refl
before-rest done location (Some rest) = rw append_assoc refl

-- one more attribute has its location
pub place-step : (bound : Bound) (taken now : Taken) (items : List Item) (i : ℕ) (d : Item) (done more : List ℕ) (location : ℕ)
    (whole : Option (List ℕ)) → i < length items → (get_or items i d).used ≡ true
    → location_by taken (get_or items i d).kind.base (get bound (get_or items i d).name) ≡ Some location
    → now ≡ taken_by taken (get_or items i d).kind.base (get bound (get_or items i d).name) → more ≡ done ++ location ∷ []
    → whole ≡ option_map (λ rest. done ++ rest) (located bound taken (used (drop i items)))
    → whole ≡ option_map (λ rest. more ++ rest) (located bound now (used (drop (i + 1) items)))
place-step bound taken now items i d done more location whole within is found next added so_far =
    so_far ∙ ap (λ l. option_map (λ rest. done ++ rest) (located bound taken l)) (used-drop-used items i d within is)
    ∙ ap (λ o. option_map (λ rest. done ++ rest) o)
    (located-step bound taken (get_or items i d) (used (drop (i + 1) items)) location found)
    ∙ before-rest done location (located bound (taken_by taken (get_or items i d).kind.base (get bound (get_or items i d).name))
    (used (drop (i + 1) items)))
    ∙ rw (added, next) refl

-- an attribute that isn't used is passed by
pub place-past : (bound : Bound) (taken : Taken) (items : List Item) (i : ℕ) (d : Item) (done : List ℕ) (whole : Option (List ℕ))
    → i < length items → (get_or items i d).used ≡ false
    → whole ≡ option_map (λ rest. done ++ rest) (located bound taken (used (drop i items)))
    → whole ≡ option_map (λ rest. done ++ rest) (located bound taken (used (drop (i + 1) items)))
place-past bound taken items i d done whole within is so_far =
    so_far ∙ ap (λ l. option_map (λ rest. done ++ rest) (located bound taken l)) (used-drop-unused items i d within is)

-- an attribute finds no location
pub place-none : (bound : Bound) (taken : Taken) (items : List Item) (i : ℕ) (d : Item) (done : List ℕ) (whole : Option (List ℕ))
    → i < length items → (get_or items i d).used ≡ true
    → location_by taken (get_or items i d).kind.base (get bound (get_or items i d).name) ≡ None
    → whole ≡ option_map (λ rest. done ++ rest) (located bound taken (used (drop i items))) → whole ≡ None
place-none bound taken items i d done whole within is none so_far =
    so_far ∙ ap (λ l. option_map (λ rest. done ++ rest) (located bound taken l)) (used-drop-used items i d within is)
    ∙ ap (λ o. option_map (λ rest. done ++ rest) o) (located-none bound taken (get_or items i d) (used (drop (i + 1) items)) none)

-- no attribute is left
pub place-end : (bound : Bound) (taken : Taken) (items : List Item) (i : ℕ) (done : List ℕ) (whole : Option (List ℕ)) → length items ≤ i
    → whole ≡ option_map (λ rest. done ++ rest) (located bound taken (used (drop i items))) → whole ≡ Some done
place-end bound taken items i done whole past so_far =
    so_far ∙ ap (λ l. option_map (λ rest. done ++ rest) (located bound taken l)) (used-drop-end items i past)
    ∙ ap (λ o. option_map (λ rest. done ++ rest) o) (located-end bound taken) ∙ ap Some (append-nil done)

-- the same of the item that a turn has
pub item-step : (bound : Bound) (taken now : Taken) (items : List Item) (i : ℕ) (d : Item) (b : Option ℕ) (done more : List ℕ)
    (location : ℕ) (whole : Option (List ℕ)) → i < length items → d ≡ get_or items i d → d.used ≡ true → b ≡ get bound d.name
    → location_by taken d.kind.base b ≡ Some location → now ≡ taken_by taken d.kind.base b → more ≡ done ++ location ∷ []
    → whole ≡ option_map (λ rest. done ++ rest) (located bound taken (used (drop i items)))
    → whole ≡ option_map (λ rest. more ++ rest) (located bound now (used (drop (i + 1) items)))
item-step bound taken now items i d b done more location whole within own is bind found next added so_far =
    place-step bound taken now items i d done more location whole within (ap (λ (t : Item). t.used) (sym own) ∙ is)
    ((λ j. location_by taken (sym own j).kind.base ((ap (λ (t : Item). get bound t.name) (sym own) ∙ sym bind) j)) ∙ found)
    (next ∙ (λ j. taken_by taken (own j).kind.base ((bind ∙ ap (λ (t : Item). get bound t.name) own) j))) added so_far

pub item-past : (bound : Bound) (taken now : Taken) (items : List Item) (i : ℕ) (d : Item) (done more : List ℕ) (whole : Option (List ℕ))
    → i < length items → d ≡ get_or items i d → d.used ≡ false → now ≡ taken → more ≡ done
    → whole ≡ option_map (λ rest. done ++ rest) (located bound taken (used (drop i items)))
    → whole ≡ option_map (λ rest. more ++ rest) (located bound now (used (drop (i + 1) items)))
item-past bound taken now items i d done more whole within own is next same so_far =
    place-past bound taken items i d done whole within (ap (λ (t : Item). t.used) (sym own) ∙ is) so_far
    ∙ (λ j. option_map (λ rest. sym same j ++ rest) (located bound (sym next j) (used (drop (i + 1) items))))

pub item-none : (bound : Bound) (taken : Taken) (items : List Item) (i : ℕ) (d : Item) (b : Option ℕ) (done : List ℕ)
    (whole : Option (List ℕ)) → i < length items → d ≡ get_or items i d → d.used ≡ true → b ≡ get bound d.name
    → location_by taken d.kind.base b ≡ None
    → whole ≡ option_map (λ rest. done ++ rest) (located bound taken (used (drop i items))) → whole ≡ None
item-none bound taken items i d b done whole within own is bind none so_far =
    place-none bound taken items i d done whole within (ap (λ (t : Item). t.used) (sym own) ∙ is)
    ((λ j. location_by taken (sym own j).kind.base ((ap (λ (t : Item). get bound t.name) (sym own) ∙ sym bind) j)) ∙ none) so_far

pub ruleset of_placed = (place-step, place-past, place-none, place-end)
