-- The slots and the words of uniforms, counted as far as a walk has come.
use Rattle.std.proofs.Common.{◌≡◌, ℕ, ◌+◌, ◌*◌, ◌-◌, ◌<◌, ◌≤◌, suc, List, [], ◌∷◌, ◌++◌, length, drop, get_or, refl, sym, ◌∙◌, arith, add-one, drop-cons, append_assoc, append-nil}
use Rattle.std.proofs.lemmas.List.{drop_all}
use Rattle.std.specs.Prelude.{◌==◌, not}
use Rattle.std.proofs.Math.Nat.{mul-le-mul_left}
use Rattle.glsl_types.specs.declared.bases.Base.{Base}
use Rattle.glsl_types.specs.declared.bases.Base.TheVariants as base
use Rattle.glsl_types.specs.declared.types.SlType.{SlType}
use Rattle.uniform_values.specs.declared.slots.Slot.{Slot}
use Rattle.uniform_values.specs.Layout.{elements, slot_count, slots_from, slots_to_end, width, word_count}

-- what is left after one more uniform
pub word_count-drop : (kinds : List SlType) (i : ℕ) (d : SlType) → i < length kinds → word_count (drop i kinds)
    ≡ elements (get_or kinds i d) * width (get_or kinds i d).base + word_count (drop (i + 1) kinds)
unfolding word_count
word_count-drop kinds i d within = rw (add-one, drop-cons kinds i d) refl

pub slots_from-drop : (kinds : List SlType) (i : ℕ) (d : SlType) (at : ℕ) → i < length kinds → slots_from at (drop i kinds)
    ≡ slots_to_end (get_or kinds i d) at (elements (get_or kinds i d))
    ++ slots_from (at + elements (get_or kinds i d) * width (get_or kinds i d).base) (drop (i + 1) kinds)
unfolding slots_from
slots_from-drop kinds i d at within = rw (add-one, drop-cons kinds i d) refl

-- at the end nothing is left
pub word_count-end : (kinds : List SlType) (i : ℕ) → length kinds ≤ i → word_count (drop i kinds) ≡ 0
unfolding word_count
word_count-end kinds i past = rw (drop_all i kinds past) refl

-- no element has more than 16 words
pub width-bound : (b : Base) → width b ≤ 16
width-bound base.Float = omega arith
width-bound base.Int = omega arith
width-bound base.Bool = omega arith
width-bound base.Vec2 = omega arith
width-bound base.Vec3 = omega arith
width-bound base.Vec4 = omega arith
width-bound base.IVec2 = omega arith
width-bound base.IVec3 = omega arith
width-bound base.IVec4 = omega arith
width-bound base.BVec2 = omega arith
width-bound base.BVec3 = omega arith
width-bound base.BVec4 = omega arith
width-bound base.Mat2 = omega arith
width-bound base.Mat3 = omega arith
width-bound base.Mat4 = omega arith
width-bound base.Sampler2D = omega arith
width-bound base.SamplerCube = omega arith
width-bound (base.Struct number) = omega arith

pub word_count-bound : (kinds : List SlType) → word_count kinds ≤ 16 * slot_count kinds
unfolding word_count slot_count
word_count-bound [] = omega arith
word_count-bound (kind ∷ kinds) =
    omega (arith, word_count-bound kinds, mul-le-mul_left (elements kind) (width-bound kind.base))

-- the slots that are left after one more
pub to_end-more : (kind : SlType) (at n i : ℕ) → i < n → slots_to_end kind at (n - i)
    ≡ (let slot : Slot = record { base = kind.base; array = not (kind.array == 0); room = n - i; at = at } in slot)
    ∷ slots_to_end kind (at + width kind.base) (n - (i + 1))
unfolding slots_to_end
to_end-more kind at n i within = let e : n - i ≡ suc (n - (i + 1)) = omega arith in rw e refl

-- a slot was added, and fewer are left
pub to_end-step : (items new whole : List Slot) (kind : SlType) (at n i room place next : ℕ) → i < n → room ≡ n - i → place ≡ at
    → next ≡ at + width kind.base
    → new ≡ items ++ (let slot : Slot = record { base = kind.base; array = not (kind.array == 0); room = room; at = place } in slot) ∷ []
    → items ++ slots_to_end kind at (n - i) ≡ whole → new ++ slots_to_end kind next (n - (i + 1)) ≡ whole
to_end-step items new whole kind at n i room place next within roomy here then added so_far =
    rw (added, append_assoc, roomy, here, then) (rw (to_end-more kind at n i within) at so_far)

-- no slot is left
pub to_end-done : (items whole : List Slot) (kind : SlType) (at n i : ℕ) → n ≤ i → items ++ slots_to_end kind at (n - i) ≡ whole
    → items ≡ whole
unfolding slots_to_end
to_end-done items whole kind at n i past so_far = let none : n - i ≡ 0 = omega arith in sym (append-nil items) ∙ (rw none at so_far)

-- no uniform is left
pub laid-done : (items whole : List Slot) (kinds : List SlType) (at i : ℕ) → length kinds ≤ i
    → items ++ slots_from at (drop i kinds) ≡ whole
    → items ≡ whole
unfolding slots_from
laid-done items whole kinds at i past so_far =
    let none : slots_from at (drop i kinds) ≡ [] = rw (drop_all i kinds past) refl in sym (append-nil items) ∙ (rw none at so_far)

-- the slots of a uniform were added, and those of fewer uniforms are left
pub lay-step : (items new whole : List Slot) (kinds : List SlType) (i : ℕ) (d : SlType) (at next words : ℕ) → i < length kinds
    → next ≡ at + elements (get_or kinds i d) * width (get_or kinds i d).base
    → new ≡ items ++ slots_to_end (get_or kinds i d) at (elements (get_or kinds i d))
    → items ++ slots_from at (drop i kinds) ≡ whole → at + word_count (drop i kinds) ≡ words
    → (new ++ slots_from next (drop (i + 1) kinds) ≡ whole) × (next + word_count (drop (i + 1) kinds) ≡ words)
lay-step items new whole kinds i d at next words within then added so_far counted = (
  rw (added, append_assoc, then) (rw (slots_from-drop kinds i d at within) at so_far),
  omega (arith, word_count-drop kinds i d within, then, counted),
)

pub ruleset of_counts = (word_count-drop, word_count-end, word_count-bound)
