-- Two structures have the same words exactly where they are one.
use Rattle.std.proofs.Common.{◌≡◌, ℕ, suc, Bool, true, false, List, [], ◌∷◌, ◌++◌, length, refl, sym, ap, ◌∙◌, arith, append_assoc}
use Rattle.std.specs.Prelude.{◌==◌, ◌&&◌}
use Rattle.std.specs.List.{flat_map}
use Rattle.std.specs.Str.{bytes_eq}
use Rattle.std.specs.Cmp.Lexicographic.{pointwise}
use Rattle.std.proofs.lemmas.Grind.{common_steps}
use Rattle.glsl_types.specs.declared.bases.Base.{Base}
use Rattle.glsl_types.specs.declared.bases.Base.TheVariants as base
use Rattle.glsl_types.specs.declared.types.Field.{Field}
use Rattle.glsl_types.specs.declared.types.Precision.{Precision}
use Rattle.glsl_types.specs.declared.types.Precision.TheVariants as precision
use Rattle.glsl_types.specs.declared.types.Struct.{Struct}
use Rattle.program_link.specs.SameTypes.{same_field, same_precision, structure_of}
use Rattle.program_link.specs.Shapes.{field_words, precision_word, same_base_by, same_by_numbers, shape, structure_word}
use Rattle.program_link.specs.TypeWords.{type_word}

-- types by their words
same-words : (numbers others : List ℕ) (a b : Base)
    → same_base_by numbers others a b (structure_of a) (structure_of b)
    ≡ (type_word a == type_word b && structure_word numbers (structure_of a) == structure_word others (structure_of b))
same-words numbers others base.Float base.Float = refl
same-words numbers others base.Vec2 base.Vec2 = refl
same-words numbers others base.Vec3 base.Vec3 = refl
same-words numbers others base.Vec4 base.Vec4 = refl
same-words numbers others base.Int base.Int = refl
same-words numbers others base.IVec2 base.IVec2 = refl
same-words numbers others base.IVec3 base.IVec3 = refl
same-words numbers others base.IVec4 base.IVec4 = refl
same-words numbers others base.Bool base.Bool = refl
same-words numbers others base.BVec2 base.BVec2 = refl
same-words numbers others base.BVec3 base.BVec3 = refl
same-words numbers others base.BVec4 base.BVec4 = refl
same-words numbers others base.Mat2 base.Mat2 = refl
same-words numbers others base.Mat3 base.Mat3 = refl
same-words numbers others base.Mat4 base.Mat4 = refl
same-words numbers others base.Sampler2D base.Sampler2D = refl
same-words numbers others base.SamplerCube base.SamplerCube = refl
same-words numbers others (base.Struct m) (base.Struct n) = refl
same-words numbers others _ _ = refl

same-precisions : (a b : Precision) → same_precision a b ≡ (precision_word a == precision_word b)
same-precisions precision.Unset precision.Unset = refl
same-precisions precision.Low precision.Low = refl
same-precisions precision.Medium precision.Medium = refl
same-precisions precision.High precision.High = refl
same-precisions _ _ = refl

-- names with their lengths before them
zero-suc : (n : ℕ) → (0 == suc n) ≡ false
zero-suc n = grind (arith, common_steps)

suc-zero : (n : ℕ) → (suc n == 0) ≡ false
suc-zero n = grind (arith, common_steps)

suc-suc : (m n : ℕ) → (suc m == suc n) ≡ (m == n)
suc-suc m n = grind (arith, common_steps)

past-first : (l a x y r : Bool) → (l && x) ≡ (y && r) → (l && (a && x)) ≡ ((a && y) && r)
past-first l true x y r e = e
past-first true false x y r e = refl
past-first false false x y r e = refl

and-false : (a b : Bool) → a ≡ false → (a && b) ≡ false
and-false true b e = absurd cc
and-false false b e = refl

names-then : (m n x y : List ℕ) → (length m == length n && bytes_eq (m ++ x) (n ++ y)) ≡ (bytes_eq m n && bytes_eq x y)
names-then [] [] x y = refl
names-then [] (b ∷ n) x y = and-false (0 == suc (length n)) _ (zero-suc (length n))
names-then (a ∷ m) [] x y = and-false (suc (length m) == 0) _ (suc-zero (length m))
names-then (a ∷ m) (b ∷ n) x y =
    ap (λ c. c && ((a == b) && bytes_eq (m ++ x) (n ++ y))) (suc-suc (length m) (length n))
    ∙ past-first (length m == length n) (a == b) (bytes_eq (m ++ x) (n ++ y)) (bytes_eq m n) (bytes_eq x y) (names-then m n x y)

grouped : (x p a t s r : Bool) → (x && (p && (a && (t && (s && r))))) ≡ ((x && (p && (a && (t && s)))) && r)
grouped true true true true true r = refl
grouped true true true true false r = refl
grouped true true true false s r = refl
grouped true true false t s r = refl
grouped true false a t s r = refl
grouped false p a t s r = refl

-- fields by their words
field-words : (numbers others : List ℕ) (f g : Field) (x y : List ℕ)
    → bytes_eq (field_words numbers f ++ x) (field_words others g ++ y)
    ≡ (same_field (same_by_numbers numbers others) f g && bytes_eq x y)
unfolding field_words same_by_numbers
field-words numbers others f g x y =
    (λ i. length f.name == length g.name
    && bytes_eq (append_assoc f.name (precision_word f.precision ∷ f.kind.array ∷ type_word f.kind.base
    ∷ structure_word numbers (structure_of f.kind.base) ∷ []) x i)
    (append_assoc g.name (precision_word g.precision ∷ g.kind.array ∷ type_word g.kind.base
    ∷ structure_word others (structure_of g.kind.base) ∷ []) y i))
    ∙ names-then f.name g.name (precision_word f.precision ∷ f.kind.array ∷ type_word f.kind.base
    ∷ structure_word numbers (structure_of f.kind.base) ∷ x) (precision_word g.precision ∷ g.kind.array ∷ type_word g.kind.base
    ∷ structure_word others (structure_of g.kind.base) ∷ y)
    ∙ grouped (bytes_eq f.name g.name) (precision_word f.precision == precision_word g.precision) (f.kind.array == g.kind.array)
    (type_word f.kind.base == type_word g.kind.base)
    (structure_word numbers (structure_of f.kind.base) == structure_word others (structure_of g.kind.base)) (bytes_eq x y)
    ∙ (λ i. (bytes_eq f.name g.name && (sym (same-precisions f.precision g.precision) i && (f.kind.array == g.kind.array
    && sym (same-words numbers others f.kind.base g.kind.base) i))) && bytes_eq x y)

none-words : (numbers : List ℕ) (f : Field) (x : List ℕ) → bytes_eq [] (field_words numbers f ++ x) ≡ false
unfolding field_words
none-words numbers f x = refl

words-none : (numbers : List ℕ) (f : Field) (x : List ℕ) → bytes_eq (field_words numbers f ++ x) [] ≡ false
unfolding field_words
words-none numbers f x = refl

fields-words : (numbers others : List ℕ) (fs gs : List Field)
    → bytes_eq (flat_map (field_words numbers) fs) (flat_map (field_words others) gs)
    ≡ pointwise (same_field (same_by_numbers numbers others)) fs gs
fields-words numbers others [] [] = refl
fields-words numbers others [] (g ∷ gs) = none-words others g (flat_map (field_words others) gs)
fields-words numbers others (f ∷ fs) [] = words-none numbers f (flat_map (field_words numbers) fs)
fields-words numbers others (f ∷ fs) (g ∷ gs) =
    field-words numbers others f g (flat_map (field_words numbers) fs) (flat_map (field_words others) gs)
    ∙ ap (λ b. same_field (same_by_numbers numbers others) f g && b) (fields-words numbers others fs gs)

-- structures by their words
pub shape-words : (numbers others : List ℕ) (s t : Struct) → bytes_eq (shape numbers s) (shape others t)
    ≡ (bytes_eq s.name t.name && pointwise (same_field (same_by_numbers numbers others)) s.fields t.fields)
unfolding shape
shape-words numbers others s t =
    names-then s.name t.name (flat_map (field_words numbers) s.fields) (flat_map (field_words others) t.fields)
    ∙ ap (λ b. bytes_eq s.name t.name && b) (fields-words numbers others s.fields t.fields)
