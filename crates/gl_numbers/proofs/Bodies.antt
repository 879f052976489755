-- Bodies of fields: how long they are, and that each is of one list of values.
use Rattle.std.proofs.Common.{◌≡◌, ℕ, ℤ, ◌+◌, ◌*◌, ◌<◌, ◌^◌, List, [], ◌∷◌, ◌++◌, length, get_or, take, drop, All, add-one, FitsSigned, refl, sym, ap, ◌∙◌, arith, append_assoc, length-append}
use Rattle.std.proofs.Math.Seq.{drop-cons}
use Rattle.std.proofs.lemmas.Nat.{from_le_bytes-to_le_bytes_4, from_le_bytes-to_le_bytes_8}
use Rattle.std.proofs.lemmas.Int.{to_z-of_z}
use Rattle.std.proofs.Math.Facts.{Fits-of_z}
use Rattle.std.proofs.lemmas.List.Elements.{All-head, All-tail}
use Rattle.std.specs.Int.{from_le_bytes, to_le_bytes, cast_signed, cast_unsigned, w32, w64}
use Rattle.std.specs.List.{flat_map}
use Rattle.gl_numbers.specs.Bytes.{le32, le64, IsLong}
use Rattle.gl_numbers.specs.declared.fields.Letter.{Letter}
use Rattle.gl_numbers.specs.declared.fields.Letter.TheVariants.{U, H, B, F, I, L}
use Rattle.gl_numbers.specs.declared.fields.Letter.TheVariants as Letters
use Rattle.gl_numbers.specs.declared.fields.Field.{Field}
use Rattle.gl_numbers.specs.Fields.{Value, value_of, values_of, Word, Int, Long, Words, letter_size, fields_size, le32_signed, value_size, values_size, value_encoding, body_encoding, FitsLetter, FitsLetters}
use Rattle.gl_numbers.proofs.Bytes.{length-le32, length-le64, le32-one}

pub length-le32_signed : (z : ℤ) → length (le32_signed z) ≡ 4
unfolding le32_signed
length-le32_signed z = refl

-- each word has four bytes
length-words : (ns : List ℕ) → length (flat_map le32 ns) ≡ 4 * length ns
length-words [] = refl
length-words (n ∷ ns) = omega (arith, length-append (le32 n) (flat_map le32 ns), length-le32 n, length-words ns)

pub length-value : (value : Value) → length (value_encoding value) ≡ value_size value
length-value (Word n) = length-le32 n
length-value (Int z) = length-le32_signed z
length-value (Long z) = length-le64 z
length-value (Words ns) = length-words ns

-- a body has its fields' bytes, and its tail's
pub length-body : (values : List Value) (tail : List ℕ) → length (body_encoding values tail) ≡ values_size values + length tail
length-body [] tail = omega arith
length-body (value ∷ values) tail =
    omega (arith, length-append (value_encoding value) (body_encoding values tail), length-value value, length-body values tail)

pub ruleset lengths = (length-value, length-body)

-- a value that fits has its letter's bytes
value_size-fits : (letter : Letter) (value : Value) → FitsLetter letter value → value_size value ≡ letter_size letter
value_size-fits U (Word n) h = refl
value_size-fits H (Word n) h = refl
value_size-fits B (Word n) h = refl
value_size-fits F (Word n) h = refl
value_size-fits I (Int z) h = refl
value_size-fits L (Long z) h = refl
value_size-fits (Letters.Words n) (Words ns) h = ap (λ k. 4 * k) h.0
value_size-fits _ _ h = absurd h

-- values that fit have their letters' bytes
pub values_size-fits : (letters : List Letter) (values : List Value) → FitsLetters letters values → values_size values ≡ fields_size letters
values_size-fits [] [] h = refl
values_size-fits (letter ∷ letters) (value ∷ values) h = omega (arith, value_size-fits letter value h.0, values_size-fits letters values h.1)
values_size-fits _ _ h = absurd h

-- a body's bytes before a tail
pub body-tail : (values : List Value) (tail : List ℕ) → body_encoding values tail ≡ body_encoding values [] ++ tail
body-tail [] tail = refl
body-tail (value ∷ values) tail =
    ap (λ rest. value_encoding value ++ rest) (body-tail values tail) ∙ sym (append_assoc (value_encoding value) (body_encoding values []) tail)

-- the value that begins a list, and what follows it
record OneValue (a b : Value) (x y : List ℕ) : Type 0 where
  value : a ≡ b
  rest : x ≡ y

-- two equal lists that begin with numbers of 32 bits with a sign begin with one of them
le32_signed-one : (a b : ℤ) (x y : List ℕ) → FitsSigned w32 a → FitsSigned w32 b → le32_signed a ++ x ≡ le32_signed b ++ y → OneValue (Int a) (Int b) x y
unfolding le32_signed
le32_signed-one a b x y p q e =
    let bytes : to_le_bytes w32 (cast_unsigned w32 a) ≡ to_le_bytes w32 (cast_unsigned w32 b) = ap (take 4) e in
    let back : (z : ℤ) → FitsSigned w32 z → cast_signed w32 (from_le_bytes w32 (to_le_bytes w32 (cast_unsigned w32 z))) ≡ z =
    λ z fits. rw (from_le_bytes-to_le_bytes_4 (cast_unsigned w32 z) ((Fits-of_z fits).fits)) (to_z-of_z w32 z fits) in
    record {
      value = ap Int (sym (back a p) ∙ ap (λ bs. cast_signed w32 (from_le_bytes w32 bs)) bytes ∙ back b q);
      rest = ap (drop 4) e;
    }

-- two equal lists that begin with numbers of 64 bits with a sign begin with one of them
le64-one : (a b : ℤ) (x y : List ℕ) → IsLong a → IsLong b → le64 a ++ x ≡ le64 b ++ y → OneValue (Long a) (Long b) x y
unfolding le64
le64-one a b x y p q e =
    let bytes : to_le_bytes w64 (cast_unsigned w64 a) ≡ to_le_bytes w64 (cast_unsigned w64 b) = ap (take 8) e in
    let back : (z : ℤ) → IsLong z → cast_signed w64 (from_le_bytes w64 (to_le_bytes w64 (cast_unsigned w64 z))) ≡ z =
    λ z fits. rw (from_le_bytes-to_le_bytes_8 (cast_unsigned w64 z) ((Fits-of_z fits).fits)) (to_z-of_z w64 z fits) in
    record {
      value = ap Long (sym (back a p) ∙ ap (λ bs. cast_signed w64 (from_le_bytes w64 bs)) bytes ∙ back b q);
      rest = ap (drop 8) e;
    }

word-one : (a b : ℕ) (x y : List ℕ) → a < 2 ^ 32 → b < 2 ^ 32 → le32 a ++ x ≡ le32 b ++ y → OneValue (Word a) (Word b) x y
word-one a b x y p q e = let one = le32-one a b x y p q e in record { value = ap Word one.word; rest = one.rest }

-- a word
abbrev IsWord : ℕ → Type 0
IsWord n = n < 2 ^ 32

-- two lists of as many words, and what follows them
record OneList (a b x y : List ℕ) : Type 0 where
  words : a ≡ b
  rest : x ≡ y

words-one : (a b x y : List ℕ) → length a ≡ length b → All IsWord a → All IsWord b
    → flat_map le32 a ++ x ≡ flat_map le32 b ++ y → OneList a b x y
words-one [] [] x y n p q e = record { words = refl; rest = e }
words-one [] (d ∷ b) x y n p q e = absurd (omega arith)
words-one (c ∷ a) [] x y n p q e = absurd (omega arith)
words-one (c ∷ a) (d ∷ b) x y n p q e =
    let first = le32-one c d (flat_map le32 a ++ x) (flat_map le32 b ++ y) (All-head IsWord c a p) (All-head IsWord d b q)
    (sym (append_assoc (le32 c) (flat_map le32 a) x) ∙ e ∙ append_assoc (le32 d) (flat_map le32 b) y) in
    let rest = words-one a b x y (omega (arith, n)) (All-tail IsWord c a p) (All-tail IsWord d b q) first.rest in
    record { words = cc (first.word, rest.words); rest = rest.rest }

-- two values of one letter
value-one : (letter : Letter) (a b : Value) (x y : List ℕ) → FitsLetter letter a → FitsLetter letter b
    → value_encoding a ++ x ≡ value_encoding b ++ y → OneValue a b x y
value-one U (Word a) (Word b) x y p q e = word-one a b x y p q e
value-one H (Word a) (Word b) x y p q e = word-one a b x y p q e
value-one B (Word a) (Word b) x y p q e = word-one a b x y p q e
value-one F (Word a) (Word b) x y p q e = word-one a b x y p q e
value-one I (Int a) (Int b) x y p q e = le32_signed-one a b x y p q e
value-one L (Long a) (Long b) x y p q e = le64-one a b x y p q e
value-one (Letters.Words n) (Words a) (Words b) x y p q e =
    let one = words-one a b x y (p.0 ∙ sym q.0) p.1 q.1 e in
    record { value = ap Words one.words; rest = one.rest }
value-one U (Word a) _ x y p q e = absurd q
value-one H (Word a) _ x y p q e = absurd q
value-one B (Word a) _ x y p q e = absurd q
value-one F (Word a) _ x y p q e = absurd q
value-one I (Int a) _ x y p q e = absurd q
value-one L (Long a) _ x y p q e = absurd q
value-one (Letters.Words n) (Words a) _ x y p q e = absurd q
value-one _ _ _ x y p q e = absurd p

-- the values of two bodies, and what follows them
pub record OneBody (a b : List Value) (x y : List ℕ) : Type 0 where
  pub values : a ≡ b
  pub rest : x ≡ y

-- two equal lists that begin with fields of the same letters begin with the same values
pub body-one : (letters : List Letter) (a b : List Value) (x y : List ℕ) → FitsLetters letters a → FitsLetters letters b
    → body_encoding a x ≡ body_encoding b y → OneBody a b x y
body-one [] [] [] x y p q e = record { values = refl; rest = e }
body-one (letter ∷ letters) (v ∷ a) (w ∷ b) x y p q e =
    let first = value-one letter v w (body_encoding a x) (body_encoding b y) p.0 q.0 e in
    let rest = body-one letters a b x y p.1 q.1 first.rest in
    record { values = cc (first.value, rest.values); rest = rest.rest }
body-one [] [] (w ∷ b) x y p q e = absurd q
body-one (letter ∷ letters) (v ∷ a) [] x y p q e = absurd q
body-one _ _ _ x y p q e = absurd p

-- the bytes of the fields before a place
pub record FieldsSoFar (fields : List Field) (all : List ℕ) (i : ℕ) : Type 0 where
  pub size : length all + values_size (values_of (drop i fields)) ≡ values_size (values_of fields)
  pub bytes : body_encoding (values_of fields) [] ≡ all ++ body_encoding (values_of (drop i fields)) []

-- one more field
pub fields_more : (fields : List Field) (all new : List ℕ) (i : ℕ) (d : Field) → i < length fields → FieldsSoFar fields all i
    → new ≡ all ++ value_encoding (value_of (get_or fields i d)) → FieldsSoFar fields new (i + 1)
fields_more fields all new i d within h e =
    let cut : drop i fields ≡ get_or fields i d ∷ drop (i + 1) fields = rw add-one (drop-cons fields i d within) in
    let sizes : values_size (values_of (drop i fields)) ≡ value_size (value_of (get_or fields i d)) + values_size (values_of (drop (i + 1) fields)) =
    ap (λ (rest : List Field). values_size (values_of rest)) cut in
    let bytes : body_encoding (values_of (drop i fields)) [] ≡ value_encoding (value_of (get_or fields i d)) ++ body_encoding (values_of (drop (i + 1) fields)) [] =
    ap (λ (rest : List Field). body_encoding (values_of rest) []) cut in
    let joined : (all ++ value_encoding (value_of (get_or fields i d))) ++ body_encoding (values_of (drop (i + 1) fields)) []
    ≡ all ++ (value_encoding (value_of (get_or fields i d)) ++ body_encoding (values_of (drop (i + 1) fields)) []) = append_assoc all _ _ in
    record {
      size = omega (arith, h.size, sizes, ap length e, length-append all (value_encoding (value_of (get_or fields i d))), length-value (value_of (get_or fields i d)));
      bytes = cc (h.bytes, bytes, joined, e);
    }
