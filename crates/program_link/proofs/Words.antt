-- The words of a shape, put together.
use Rattle.std.proofs.Common.{◌≡◌, ℕ, ◌+◌, ◌<◌, ◌≤◌, List, [], ◌∷◌, ◌++◌, length, take, get_or, sym, ap, ◌∙◌, append_assoc, append-nil}
use Rattle.std.specs.List.{flat_map}
use Rattle.std.proofs.lemmas.List.{flat_map_more, take_all, take_more}
use Rattle.glsl_types.specs.declared.types.Field.{Field}
use Rattle.glsl_types.specs.declared.types.Struct.{Struct}
use Rattle.program_link.specs.SameTypes.{structure_of}
use Rattle.program_link.specs.Shapes.{field_words, name_words, precision_word, shape, structure_word}
use Rattle.program_link.specs.TypeWords.{type_word}

-- a name
pub name-step : (old name now more : List ℕ) (i d : ℕ) (k : ℕ) → i < length name → d ≡ get_or name i d
    → now ≡ old ++ k ∷ take i name → more ≡ now ++ d ∷ [] → more ≡ old ++ k ∷ take (i + 1) name
name-step old name now more i d k within is so_far added =
    added ∙ ap (λ l. l ++ d ∷ []) so_far ∙ append_assoc old (k ∷ take i name) (d ∷ [])
    ∙ ap (λ l. old ++ k ∷ l) (ap (λ b. take i name ++ b ∷ []) is ∙ sym (take_more name i d within))

pub name-end : (old name now : List ℕ) (i k : ℕ) → length name ≤ i → k ≡ length name → now ≡ old ++ k ∷ take i name
    → now ≡ old ++ name_words name
name-end old name now i k past is so_far = so_far ∙ (λ j. old ++ is j ∷ take_all i name past j)

pub ruleset of_name = (name-step, name-end)

-- a field
joined : (a b : List ℕ) (p q r s : ℕ)
    → ((((a ++ b) ++ p ∷ []) ++ q ∷ []) ++ r ∷ []) ++ s ∷ [] ≡ a ++ (b ++ p ∷ q ∷ r ∷ s ∷ [])
joined a b p q r s = simp append_assoc

pub field-joined : (numbers : List ℕ) (f : Field) (old a b c d e : List ℕ) (number : ℕ) → a ≡ old ++ name_words f.name
    → b ≡ a ++ precision_word f.precision ∷ [] → c ≡ b ++ f.kind.array ∷ [] → d ≡ c ++ type_word f.kind.base ∷ []
    → number ≡ structure_word numbers (structure_of f.kind.base) → e ≡ d ++ number ∷ [] → e ≡ old ++ field_words numbers f
unfolding field_words
field-joined numbers f old a b c d e number first second third fourth is last =
    last ∙ (λ i. (fourth ∙ ap (λ l. l ++ type_word f.kind.base ∷ []) (third ∙ ap (λ l. l ++ f.kind.array ∷ [])
    (second ∙ ap (λ l. l ++ precision_word f.precision ∷ []) first))) i ++ is i ∷ [])
    ∙ joined old (name_words f.name) (precision_word f.precision) f.kind.array (type_word f.kind.base)
    (structure_word numbers (structure_of f.kind.base))

pub ruleset of_field = (field-joined)

-- a structure
pub shape-start : (numbers : List ℕ) (s : Struct) (now : List ℕ) → now ≡ [] ++ name_words s.name
    → now ≡ name_words s.name ++ flat_map (field_words numbers) (take 0 s.fields)
shape-start numbers s now is = is ∙ sym (append-nil (name_words s.name))

pub shape-step : (numbers : List ℕ) (s : Struct) (i : ℕ) (d : Field) (now more : List ℕ) → i < length s.fields
    → d ≡ get_or s.fields i d → more ≡ now ++ field_words numbers d
    → now ≡ name_words s.name ++ flat_map (field_words numbers) (take i s.fields)
    → more ≡ name_words s.name ++ flat_map (field_words numbers) (take (i + 1) s.fields)
shape-step numbers s i d now more within is added so_far =
    added ∙ ap (λ l. l ++ field_words numbers d) so_far
    ∙ flat_map_more (field_words numbers) (name_words s.name) (take i s.fields) d
    ∙ ap (λ l. name_words s.name ++ flat_map (field_words numbers) l)
    (ap (λ f. take i s.fields ++ f ∷ []) is ∙ sym (take_more s.fields i d within))

pub shape-end : (numbers : List ℕ) (s : Struct) (i : ℕ) (now : List ℕ) → length s.fields ≤ i
    → now ≡ name_words s.name ++ flat_map (field_words numbers) (take i s.fields) → now ≡ shape numbers s
unfolding shape
shape-end numbers s i now past so_far =
    so_far ∙ ap (λ l. name_words s.name ++ flat_map (field_words numbers) l) (take_all i s.fields past)

pub ruleset of_shape = (shape-start, shape-step, shape-end)
