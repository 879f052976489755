-- Bodies whose fields are words, and the most that a row allows.
use Rattle.std.proofs.Common.{◌≡◌, ℕ, ◌+◌, ◌*◌, ◌≤◌, List, [], ◌∷◌, ◌++◌, length, map, true, refl, sym, ap, ◌∙◌, arith, append_assoc, length-append}
use Rattle.std.proofs.lemmas.Bool.{and_parts, leb-true}
use Rattle.std.specs.List.{flat_map}
use Rattle.gl_numbers.specs.Bytes.{le32}
use Rattle.gl_numbers.specs.Fields.{TableRow, Word, body_encoding, allows}
use Rattle.gl_numbers.proofs.Bytes.{length-le32}

-- fields that are words are their bytes
pub body-words : (words tail : List ℕ) → body_encoding (map Word words) tail ≡ flat_map le32 words ++ tail
body-words [] tail = refl
body-words (n ∷ words) tail =
    ap (λ t. le32 n ++ t) (body-words words tail) ∙ sym (append_assoc (le32 n) (flat_map le32 words) tail)

-- each of them has four
pub length-body_words : (words tail : List ℕ) → length (body_encoding (map Word words) tail) ≡ 4 * length words + length tail
length-body_words [] tail = omega arith
length-body_words (n ∷ words) tail =
    omega (arith, length-append (le32 n) (body_encoding (map Word words) tail), length-le32 n, length-body_words words tail)

-- a row allows no length beyond the most
pub allows-most : (most : ℕ) (row : TableRow) (len : ℕ) → allows most row len ≡ true → len ≤ most
allows-most most row len a = leb-true len most (and_parts _ _ a).0
