-- The items of a list that are used, as what is to be placed, as far as a walk has come.
use Rattle.std.proofs.Common.{◌≡◌, ℕ, ◌+◌, ◌<◌, ◌≤◌, true, false, List, [], ◌∷◌, ◌++◌, length, drop, get_or, map, sym, ap, ◌∙◌, append_assoc, append-nil}
use Rattle.glsl_types.specs.declared.interface.Item.{Item}
use Rattle.varying_pack.specs.declared.items.PackItem.{PackItem}
use Rattle.program_link.specs.Items.{used}
use Rattle.program_link.specs.Rules.{placed}
use Rattle.program_link.proofs.Locating.{used-drop-end, used-drop-unused, used-drop-used}

-- what is to be placed of items
abbrev pub items_placed : List Item → List PackItem
items_placed items = map placed (map (λ item. item.kind) items)

-- one more item is used
pub placed-step : (items : List Item) (i : ℕ) (d : Item) (done more whole : List PackItem) → i < length items
    → (get_or items i d).used ≡ true → more ≡ done ++ placed (get_or items i d).kind ∷ []
    → whole ≡ done ++ items_placed (used (drop i items))
    → whole ≡ more ++ items_placed (used (drop (i + 1) items))
placed-step items i d done more whole within is added so_far =
    so_far ∙ ap (λ l. done ++ items_placed l) (used-drop-used items i d within is)
    ∙ sym (append_assoc done (placed (get_or items i d).kind ∷ []) (items_placed (used (drop (i + 1) items))))
    ∙ ap (λ l. l ++ items_placed (used (drop (i + 1) items))) (sym added)

-- an item isn't used
pub placed-past : (items : List Item) (i : ℕ) (d : Item) (done whole : List PackItem) → i < length items → (get_or items i d).used ≡ false
    → whole ≡ done ++ items_placed (used (drop i items)) → whole ≡ done ++ items_placed (used (drop (i + 1) items))
placed-past items i d done whole within is so_far = so_far ∙ ap (λ l. done ++ items_placed l) (used-drop-unused items i d within is)

-- no item is left
pub placed-end : (items : List Item) (i : ℕ) (done whole : List PackItem) → length items ≤ i
    → whole ≡ done ++ items_placed (used (drop i items)) → whole ≡ done
placed-end items i done whole past so_far =
    so_far ∙ ap (λ l. done ++ items_placed l) (used-drop-end items i past) ∙ append-nil done

pub ruleset of_room = (placed-step, placed-past, placed-end)
