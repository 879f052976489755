-- What stands for the uniforms of a list, as far as a walk has come, and whether it has room.
use Rattle.std.proofs.Common.{◌≡◌, ℕ, ◌+◌, ◌*◌, ◌<◌, ◌≤◌, min, Bool, true, false, List, [], ◌∷◌, ◌++◌, length, map, drop, filter, get_or, refl, sym, ap, ◌∙◌, arith, add-one, append_assoc, append-nil, drop-cons}
use Rattle.std.specs.Prelude.{is_some, nat_le, not, ◌&&◌}
use Rattle.std.proofs.lemmas.Grind.{common_steps}
use Rattle.std.proofs.lemmas.List.{drop_all, map-append}
use Rattle.std.proofs.lemmas.List.Sums.{sum_by-append, sum_by-cons}
use Rattle.glsl_types.specs.declared.interface.Interface.{Interface}
use Rattle.glsl_types.specs.declared.interface.Item.{Item}
use Rattle.glsl_types.specs.declared.types.Struct.{Struct}
use Rattle.uniform_values.specs.Layout.{elements}
use Rattle.varying_pack.specs.declared.items.PackItem.{PackItem}
use Rattle.varying_pack.specs.Placing.{placing}
use Rattle.program_link.specs.declared.leaves.Leaf.{Leaf}
use Rattle.program_link.specs.Flattening.{element_count, elements_of, flattened}
use Rattle.program_link.specs.Items.{is_alone, is_used, leaves, used, used_leaves}
use Rattle.program_link.specs.Kept.{kept_leaf}
use Rattle.program_link.specs.Rules.{placed, uniforms_lack_room}
use Rattle.program_link.proofs.Cells.{no-room, sizes}
use Rattle.program_link.proofs.Counting.{names-count}
use Rattle.program_link.proofs.Locating.{used-drop-end, used-drop-unused, used-drop-used}

-- elements
pub elements-append : (a b : List Leaf) → elements_of (a ++ b) ≡ elements_of a + elements_of b
elements-append a b = sum_by-append (λ leaf. elements leaf.kind) a b

pub elements-leaves : (structs : List Struct) (item : Item) (items : List Item)
    → elements_of (leaves structs (item ∷ items)) ≡ element_count structs item.kind + elements_of (leaves structs items)
elements-leaves structs item items =
    elements-append (flattened structs item.name item.kind) (leaves structs items)
    ∙ ap (λ n. n + elements_of (leaves structs items)) (names-count structs item.name [] item.kind)

elements-used : (structs : List Struct) (items : List Item) (i : ℕ) (d : Item) → i < length items → (get_or items i d).used ≡ true
    → elements_of (leaves structs (used (drop i items)))
    ≡ element_count structs (get_or items i d).kind + elements_of (leaves structs (used (drop (i + 1) items)))
elements-used structs items i d within is =
    ap (λ l. elements_of (leaves structs l)) (used-drop-used items i d within is)
    ∙ elements-leaves structs (get_or items i d) (used (drop (i + 1) items))

le-true : (a b : ℕ) → a ≤ b → nat_le a b ≡ true
le-true a b h = grind (arith, common_steps)

le-false : (a b : ℕ) → b < a → nat_le a b ≡ false
le-false a b h = grind (arith, common_steps)

true-le : (a b : ℕ) → nat_le a b ≡ true → a ≤ b
true-le a b h = grind (arith, common_steps)

false-le : (a b : ℕ) → nat_le a b ≡ false → b < a
false-le a b h = grind (arith, common_steps)

-- the elements so far, with those of one more uniform
pub few-step : (structs : List Struct) (items : List Item) (i : ℕ) (d : Item) (count n more cells whole : ℕ) → cells ≤ 1024
    → i < length items → (get_or items i d).used ≡ true → n ≡ min 65536 (element_count structs (get_or items i d).kind)
    → more ≡ count + n → more ≤ cells → whole ≡ count + elements_of (leaves structs (used (drop i items)))
    → whole ≡ more + elements_of (leaves structs (used (drop (i + 1) items)))
few-step structs items i d count n more cells whole few within is counted added below so_far =
    omega (arith, few, counted, added, below, so_far, elements-used structs items i d within is)

pub few-past : (structs : List Struct) (items : List Item) (i : ℕ) (d : Item) (count whole : ℕ)
    → i < length items → (get_or items i d).used ≡ false → whole ≡ count + elements_of (leaves structs (used (drop i items)))
    → whole ≡ count + elements_of (leaves structs (used (drop (i + 1) items)))
few-past structs items i d count whole within is so_far =
    so_far ∙ ap (λ l. count + elements_of (leaves structs l)) (used-drop-unused items i d within is)

pub few-over : (structs : List Struct) (items : List Item) (i : ℕ) (d : Item) (count n more cells whole : ℕ)
    → i < length items → (get_or items i d).used ≡ true → n ≡ min 65536 (element_count structs (get_or items i d).kind)
    → more ≡ count + n → cells < more → whole ≡ count + elements_of (leaves structs (used (drop i items)))
    → nat_le whole cells ≡ false
few-over structs items i d count n more cells whole within is counted added over so_far =
    le-false whole cells (omega (arith, counted, added, over, so_far, elements-used structs items i d within is))

pub few-end : (structs : List Struct) (items : List Item) (i count cells whole : ℕ) → length items ≤ i → count ≤ cells
    → whole ≡ count + elements_of (leaves structs (used (drop i items))) → nat_le whole cells ≡ true
few-end structs items i count cells whole past within so_far =
    let none : elements_of (leaves structs (used (drop i items))) ≡ 0 =
    ap (λ l. elements_of (leaves structs l)) (used-drop-end items i past) in
    le-true whole cells (omega (arith, within, so_far, none))

-- the same of the item that a turn has
pub few-more : (structs : List Struct) (items : List Item) (i : ℕ) (d : Item) (count n more cells whole : ℕ) → cells ≤ 1024
    → i < length items → d ≡ get_or items i d → d.used ≡ true → n ≡ min 65536 (element_count structs d.kind)
    → more ≡ count + n → more ≤ cells → whole ≡ count + elements_of (leaves structs (used (drop i items)))
    → whole ≡ more + elements_of (leaves structs (used (drop (i + 1) items)))
few-more structs items i d count n more cells whole few within own is counted added below so_far =
    few-step structs items i d count n more cells whole few within (ap (λ (t : Item). t.used) (sym own) ∙ is)
    (counted ∙ ap (λ (t : Item). min 65536 (element_count structs t.kind)) own) added below so_far

pub few-unused : (structs : List Struct) (items : List Item) (i : ℕ) (d : Item) (count more whole : ℕ)
    → i < length items → d ≡ get_or items i d → d.used ≡ false → more ≡ count
    → whole ≡ count + elements_of (leaves structs (used (drop i items)))
    → whole ≡ more + elements_of (leaves structs (used (drop (i + 1) items)))
few-unused structs items i d count more whole within own is same so_far =
    few-past structs items i d count whole within (ap (λ (t : Item). t.used) (sym own) ∙ is) so_far
    ∙ ap (λ n. n + elements_of (leaves structs (used (drop (i + 1) items)))) (sym same)

pub few-many : (structs : List Struct) (items : List Item) (i : ℕ) (d : Item) (count n cells whole : ℕ)
    → i < length items → d ≡ get_or items i d → d.used ≡ true → n ≡ min 65536 (element_count structs d.kind)
    → cells < count + n → whole ≡ count + elements_of (leaves structs (used (drop i items)))
    → nat_le whole cells ≡ false
few-many structs items i d count n cells whole within own is counted over so_far =
    few-over structs items i d count n (count + n) cells whole within (ap (λ (t : Item). t.used) (sym own) ∙ is)
    (counted ∙ ap (λ (t : Item). min 65536 (element_count structs t.kind)) own) refl over so_far

pub ruleset of_few = (few-step, few-past, few-over, few-end)

-- the uniforms so far are flattened
flat-more : (structs : List Struct) (item : Item) (items : List Item) (done more : List Leaf)
    → more ≡ done ++ map kept_leaf (flattened structs item.name item.kind)
    → done ++ map kept_leaf (leaves structs (item ∷ items)) ≡ more ++ map kept_leaf (leaves structs items)
flat-more structs item items done more added =
    ap (λ l. done ++ l) (map-append kept_leaf (flattened structs item.name item.kind) (leaves structs items))
    ∙ sym (append_assoc done (map kept_leaf (flattened structs item.name item.kind)) (map kept_leaf (leaves structs items)))
    ∙ ap (λ l. l ++ map kept_leaf (leaves structs items)) (sym added)

pub flat-step : (structs : List Struct) (items : List Item) (i : ℕ) (d : Item) (done more whole : List Leaf) → i < length items
    → (get_or items i d).used ≡ true
    → more ≡ done ++ map kept_leaf (flattened structs (get_or items i d).name (get_or items i d).kind)
    → whole ≡ done ++ map kept_leaf (leaves structs (used (drop i items)))
    → whole ≡ more ++ map kept_leaf (leaves structs (used (drop (i + 1) items)))
flat-step structs items i d done more whole within is added so_far =
    so_far ∙ ap (λ l. done ++ map kept_leaf (leaves structs l)) (used-drop-used items i d within is)
    ∙ flat-more structs (get_or items i d) (used (drop (i + 1) items)) done more added

pub flat-past : (structs : List Struct) (items : List Item) (i : ℕ) (d : Item) (done whole : List Leaf) → i < length items
    → (get_or items i d).used ≡ false → whole ≡ done ++ map kept_leaf (leaves structs (used (drop i items)))
    → whole ≡ done ++ map kept_leaf (leaves structs (used (drop (i + 1) items)))
flat-past structs items i d done whole within is so_far =
    so_far ∙ ap (λ l. done ++ map kept_leaf (leaves structs l)) (used-drop-unused items i d within is)

pub flat-end : (structs : List Struct) (items : List Item) (i : ℕ) (done whole : List Leaf) → length items ≤ i
    → whole ≡ done ++ map kept_leaf (leaves structs (used (drop i items))) → whole ≡ done
flat-end structs items i done whole past so_far =
    so_far ∙ ap (λ l. done ++ map kept_leaf (leaves structs l)) (used-drop-end items i past) ∙ append-nil done

pub ruleset of_flat = (flat-step, flat-past, flat-end)

-- the uniforms of a list that pass a test
pick-true : (p : Item → Bool) (items : List Item) (i : ℕ) (d : Item) → i < length items → p (get_or items i d) ≡ true
    → filter p (drop i items) ≡ get_or items i d ∷ filter p (drop (i + 1) items)
pick-true p items i d within is = rw (add-one, drop-cons items i d) (rw is refl)

pick-false : (p : Item → Bool) (items : List Item) (i : ℕ) (d : Item) → i < length items → p (get_or items i d) ≡ false
    → filter p (drop i items) ≡ filter p (drop (i + 1) items)
pick-false p items i d within is = rw (add-one, drop-cons items i d) (rw is refl)

and-not : (a b : Bool) → a ≡ true → b ≡ false → (a && not b) ≡ true
and-not a b x y = rw (x, y) refl

and-none : (a b : Bool) → a ≡ false → (a && b) ≡ false
and-none a b x = rw x refl

pub alone-step : (others : List Item) (structs : List Struct) (items : List Item) (i : ℕ) (d : Item) (done more whole : List Leaf)
    → i < length items → (get_or items i d).used ≡ true → is_used others (get_or items i d).name ≡ false
    → more ≡ done ++ map kept_leaf (flattened structs (get_or items i d).name (get_or items i d).kind)
    → whole ≡ done ++ map kept_leaf (leaves structs (filter (is_alone others) (drop i items)))
    → whole ≡ more ++ map kept_leaf (leaves structs (filter (is_alone others) (drop (i + 1) items)))
alone-step others structs items i d done more whole within is not_other added so_far =
    let alone : is_alone others (get_or items i d) ≡ true =
    and-not (get_or items i d).used (is_used others (get_or items i d).name) is not_other in
    so_far ∙ ap (λ l. done ++ map kept_leaf (leaves structs l)) (pick-true (is_alone others) items i d within alone)
    ∙ flat-more structs (get_or items i d) (filter (is_alone others) (drop (i + 1) items)) done more added

alone-past : (others : List Item) (structs : List Struct) (items : List Item) (i : ℕ) (d : Item) (done whole : List Leaf)
    → i < length items → is_alone others (get_or items i d) ≡ false
    → whole ≡ done ++ map kept_leaf (leaves structs (filter (is_alone others) (drop i items)))
    → whole ≡ done ++ map kept_leaf (leaves structs (filter (is_alone others) (drop (i + 1) items)))
alone-past others structs items i d done whole within is so_far =
    so_far ∙ ap (λ l. done ++ map kept_leaf (leaves structs l)) (pick-false (is_alone others) items i d within is)

pub alone-unused : (others : List Item) (structs : List Struct) (items : List Item) (i : ℕ) (d : Item) (done whole : List Leaf)
    → i < length items → (get_or items i d).used ≡ false
    → whole ≡ done ++ map kept_leaf (leaves structs (filter (is_alone others) (drop i items)))
    → whole ≡ done ++ map kept_leaf (leaves structs (filter (is_alone others) (drop (i + 1) items)))
alone-unused others structs items i d done whole within is so_far =
    alone-past others structs items i d done whole within
    (and-none (get_or items i d).used (not (is_used others (get_or items i d).name)) is) so_far

both-false : (a b : Bool) → b ≡ true → (a && not b) ≡ false
both-false true b is = rw is refl
both-false false b is = refl

pub alone-other : (others : List Item) (structs : List Struct) (items : List Item) (i : ℕ) (d : Item) (done whole : List Leaf)
    → i < length items → is_used others (get_or items i d).name ≡ true
    → whole ≡ done ++ map kept_leaf (leaves structs (filter (is_alone others) (drop i items)))
    → whole ≡ done ++ map kept_leaf (leaves structs (filter (is_alone others) (drop (i + 1) items)))
alone-other others structs items i d done whole within is so_far =
    alone-past others structs items i d done whole within (both-false (get_or items i d).used (is_used others (get_or items i d).name) is)
    so_far

pub alone-end : (others : List Item) (structs : List Struct) (items : List Item) (i : ℕ) (done whole : List Leaf) → length items ≤ i
    → whole ≡ done ++ map kept_leaf (leaves structs (filter (is_alone others) (drop i items))) → whole ≡ done
alone-end others structs items i done whole past so_far =
    so_far ∙ ap (λ l. done ++ map kept_leaf (leaves structs (filter (is_alone others) l))) (drop_all i items past) ∙ append-nil done

pub ruleset of_alone = (alone-step, alone-unused, alone-other, alone-end)

-- room
sizes-placed : (ls : List Leaf) → sizes (map placed (map (λ leaf. leaf.kind) ls)) ≡ elements_of ls
sizes-placed [] = refl
sizes-placed (l ∷ ls) =
    ap (λ n. elements l.kind + n) (sizes-placed ls) ∙ sym (sum_by-cons (λ leaf. elements leaf.kind) l ls)

placed-kept : (ls : List Leaf) → map (λ leaf. placed leaf.kind) (map kept_leaf ls) ≡ map placed (map (λ leaf. leaf.kind) ls)
placed-kept [] = refl
placed-kept (l ∷ ls) = ap (λ items. placed l.kind ∷ items) (placed-kept ls)

pub elements-kept : (ls : List Leaf) → elements_of (map kept_leaf ls) ≡ elements_of ls
elements-kept [] = refl
elements-kept (l ∷ ls) =
    sum_by-cons (λ leaf. elements leaf.kind) (kept_leaf l) (map kept_leaf ls) ∙ ap (λ n. elements l.kind + n) (elements-kept ls)
    ∙ sym (sum_by-cons (λ leaf. elements leaf.kind) l ls)

pub room-many : (rows cells : ℕ) (shader : Interface) (structs : List Struct) → structs ≡ shader.structs → cells ≡ rows * 4
    → nat_le (elements_of (leaves structs (used shader.uniforms))) cells ≡ false → uniforms_lack_room rows shader ≡ true
room-many rows cells shader structs own is many =
    let more : cells < elements_of (used_leaves shader) =
    false-le _ _ ((λ i. nat_le (elements_of (leaves (sym own i) (used shader.uniforms))) cells) ∙ many) in
    ap (λ o. not (is_some o))
    (no-room rows (map placed (map (λ leaf. leaf.kind) (used_leaves shader))) (omega (arith, more, is, sizes-placed (used_leaves shader))))

room-placed : (rows : ℕ) (shader : Interface) (structs : List Struct) (flat : List Leaf) (items : List PackItem) → structs ≡ shader.structs
    → flat ≡ map kept_leaf (leaves structs (used shader.uniforms)) → items ≡ map (λ leaf. placed leaf.kind) flat
    → items ≡ map placed (map (λ leaf. leaf.kind) (used_leaves shader))
room-placed rows shader structs flat items own is put =
    put ∙ ap (map (λ leaf. placed leaf.kind)) (is ∙ ap (λ s. map kept_leaf (leaves s (used shader.uniforms))) own)
    ∙ placed-kept (used_leaves shader)

pub room-refused : (rows : ℕ) (shader : Interface) (structs : List Struct) (flat : List Leaf) (items : List PackItem)
    → structs ≡ shader.structs → flat ≡ map kept_leaf (leaves structs (used shader.uniforms))
    → items ≡ map (λ leaf. placed leaf.kind) flat → is_some (placing rows items) ≡ false → uniforms_lack_room rows shader ≡ true
room-refused rows shader structs flat items own is put none =
    ap (λ l. not (is_some (placing rows l))) (sym (room-placed rows shader structs flat items own is put)) ∙ ap not none

pub room-found : (rows : ℕ) (shader : Interface) (structs : List Struct) (flat : List Leaf) (items : List PackItem)
    → structs ≡ shader.structs → flat ≡ map kept_leaf (leaves structs (used shader.uniforms))
    → items ≡ map (λ leaf. placed leaf.kind) flat → is_some (placing rows items) ≡ true → uniforms_lack_room rows shader ≡ false
room-found rows shader structs flat items own is put some =
    ap (λ l. not (is_some (placing rows l))) (sym (room-placed rows shader structs flat items own is put)) ∙ ap not some

pub room-leaves : (shader : Interface) (structs : List Struct) (flat : List Leaf) → structs ≡ shader.structs
    → flat ≡ map kept_leaf (leaves structs (used shader.uniforms)) → flat ≡ map kept_leaf (used_leaves shader)
room-leaves shader structs flat own is = is ∙ ap (λ s. map kept_leaf (leaves s (used shader.uniforms))) own

pub room-elements : (rows cells : ℕ) (structs : List Struct) (items : List Item) (flat : List Leaf) → cells ≡ rows * 4
    → flat ≡ map kept_leaf (leaves structs (used items)) → nat_le (elements_of (leaves structs (used items))) cells ≡ true
    → elements_of flat ≤ 4 * rows
room-elements rows cells structs items flat size is few =
    omega (arith, size, ap (λ l. elements_of l) is, elements-kept (leaves structs (used items)), true-le _ _ few)

pub ruleset of_found = (room-many, room-refused, room-found, room-leaves, room-elements)
