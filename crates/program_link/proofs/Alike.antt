-- What names add to what uniforms stand for: nothing to their types, and only the parts of names that are kept to those parts.
use Rattle.std.proofs.Common.{◌≡◌, ℕ, ◌+◌, suc, zero, Bool, true, false, Option, Some, None, List, [], ◌∷◌, ◌++◌, length, map, refl, sym, ap, ◌∙◌}
use Rattle.std.specs.Prelude.{◌==◌, if◌then◌else◌}
use Rattle.std.specs.List.{flat_map}
use Rattle.std.proofs.lemmas.List.{map-append}
use Rattle.glsl_types.specs.declared.types.Field.{Field}
use Rattle.glsl_types.specs.declared.types.SlType.{SlType}
use Rattle.glsl_types.specs.declared.types.Struct.{Struct}
use Rattle.program_link.specs.declared.leaves.Leaf.{Leaf}
use Rattle.program_link.specs.Flattening.{element_name, element_names, fields_of, flattened, flattened_by, flattened_to_depth, member_name}
use Rattle.program_link.specs.Kept.{kept_leaf, kept_part}
use Rattle.program_link.specs.SameTypes.{before, structure_at, structure_of}
use Rattle.program_link.proofs.KeptNames.{kept-again}

-- what stands for the fields of a structure of a name
abbrev pub in_structure : (List ℕ → SlType → List Leaf) → List Field → List ℕ → List Leaf
in_structure F fields name = flat_map (λ f. F (member_name name f.name) f.kind) fields

appended-alike : {C : Type 0} (h : Leaf → C) (a b x y : List Leaf) → map h a ≡ map h b → map h x ≡ map h y → map h (a ++ x) ≡ map h (b ++ y)
appended-alike h a b x y first second = map-append h a x ∙ (λ i. first i ++ second i) ∙ sym (map-append h b y)

fields-alike : {C : Type 0} (h : Leaf → C) (F : List ℕ → SlType → List Leaf) (m n : List ℕ) (fields : List Field)
    → ((f : Field) → map h (F (member_name m f.name) f.kind) ≡ map h (F (member_name n f.name) f.kind))
    → map h (in_structure F fields m) ≡ map h (in_structure F fields n)
fields-alike h F m n [] alike = refl
fields-alike h F m n (f ∷ fields) alike =
    appended-alike h (F (member_name m f.name) f.kind) (F (member_name n f.name) f.kind) (in_structure F fields m)
    (in_structure F fields n) (alike f) (fields-alike h F m n fields alike)

elements-alike : {C : Type 0} (h : Leaf → C) (G : List ℕ → List Leaf) (m n : List ℕ) (places : List ℕ)
    → ((k : ℕ) → map h (G (element_name m k)) ≡ map h (G (element_name n k)))
    → map h (flat_map G (map (element_name m) places)) ≡ map h (flat_map G (map (element_name n) places))
elements-alike h G m n [] alike = refl
elements-alike h G m n (k ∷ places) alike =
    appended-alike h (G (element_name m k)) (G (element_name n k)) (flat_map G (map (element_name m) places))
    (flat_map G (map (element_name n) places)) (alike k) (elements-alike h G m n places alike)

structures-alike : {C : Type 0} (h : Leaf → C) (G : List ℕ → List Leaf) (m n : List ℕ) (array : ℕ) (b : Bool)
    → map h (G m) ≡ map h (G n) → ((k : ℕ) → map h (G (element_name m k)) ≡ map h (G (element_name n k)))
    → map h (flat_map G (if b then m ∷ [] else element_names m array)) ≡ map h (flat_map G (if b then n ∷ [] else element_names n array))
structures-alike h G m n array true own each = appended-alike h (G m) (G n) [] [] own refl
structures-alike h G m n array false own each = elements-alike h G m n _ each

by-alike : {C : Type 0} (h : Leaf → C) (Alike : List ℕ → List ℕ → Type 0) (longer : (m n x : List ℕ) → Alike m n → Alike (m ++ x) (n ++ x))
    (F : ℕ → List ℕ → SlType → List Leaf) (structs : List Struct) (m n : List ℕ) (kind : SlType) (o : Option ℕ) → Alike m n
    → h (let a : Leaf = record { name = m; kind = kind } in a) ≡ h (let a : Leaf = record { name = n; kind = kind } in a)
    → ((number : ℕ) (a b : List ℕ) (k : SlType) → Alike a b → map h (F number a k) ≡ map h (F number b k))
    → map h (flattened_by F structs m kind o) ≡ map h (flattened_by F structs n kind o)
by-alike h Alike longer F structs m n kind None alike own each = ap (λ x. x ∷ []) own
by-alike h Alike longer F structs m n kind (Some number) alike own each =
    let fields : List Field = fields_of (structure_at structs number) in
    structures-alike h (in_structure (F number) fields) m n kind.array (kind.array == 0)
    (fields-alike h (F number) m n fields (λ f. each number (member_name m f.name) (member_name n f.name) f.kind (longer m n _ alike)))
    (λ k.
    fields-alike h (F number) (element_name m k) (element_name n k) fields
    (λ f. each number (member_name (element_name m k) f.name) (member_name (element_name n k) f.name) f.kind
    (longer (element_name m k) (element_name n k) _ (longer m n _ alike))))

-- what stands for a uniform under names that are alike looks alike
names-alike : {C : Type 0} (h : Leaf → C) (Alike : List ℕ → List ℕ → Type 0)
    (longer : (m n x : List ℕ) → Alike m n → Alike (m ++ x) (n ++ x))
    (same : (m n : List ℕ) (k : SlType) → Alike m n
    → h (let a : Leaf = record { name = m; kind = k } in a) ≡ h (let a : Leaf = record { name = n; kind = k } in a))
    (d : ℕ) (structs : List Struct) (m n : List ℕ) (kind : SlType) → Alike m n
    → map h (flattened_to_depth d structs m kind) ≡ map h (flattened_to_depth d structs n kind)
unfolding flattened_to_depth
names-alike h Alike longer same zero structs m n kind alike = refl
names-alike h Alike longer same (suc d) structs m n kind alike =
    by-alike h Alike longer (λ number. flattened_to_depth d (before structs number)) structs m n kind (structure_of kind.base) alike
    (same m n kind alike) (λ number a b k also. names-alike h Alike longer same d (before structs number) a b k also)

-- the parts of names that are kept come from the part of the uniform's name that is kept
pub kept-alike : (structs : List Struct) (m n : List ℕ) (kind : SlType) → kept_part m ≡ kept_part n
    → map kept_leaf (flattened structs m kind) ≡ map kept_leaf (flattened structs n kind)
kept-alike structs m n kind alike =
    names-alike kept_leaf (λ a b. kept_part a ≡ kept_part b)
    (λ a b x also. sym (kept-again a x) ∙ ap (λ l. kept_part (l ++ x)) also ∙ kept-again b x)
    (λ a b k also. ap (λ name. let leaf : Leaf = record { name = name; kind = k } in leaf) also)
    (length structs + 1) structs m n kind alike

-- the types are the same under any name
pub kinds-alike : (structs : List Struct) (m n : List ℕ) (kind : SlType)
    → map (λ leaf. leaf.kind) (flattened structs m kind) ≡ map (λ leaf. leaf.kind) (flattened structs n kind)
kinds-alike structs m n kind =
    names-alike (λ leaf. leaf.kind) (λ a b. Unit {0}) (λ a b x also. tt) (λ a b k also. refl) (length structs + 1) structs m n kind tt
