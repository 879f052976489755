-- A word of the language stands in the row of its first letter.
use Rattle.std.proofs.Common.{◌≡◌, ◌≢◌, ◌<◌, ◌≤◌, ◌+◌, ℕ, zero, suc, Bool, true, false, ◌&&◌, ◌||◌, eqb, List, [], ◌∷◌, length, map, slice_index_or, Bor, refl, sym, ap, ◌∙◌, arith}
use Rattle.std.specs.List.{list_any, list_all}
use Rattle.std.specs.Str.{bytes_eq}
use Rattle.std.proofs.lemmas.Bool.{and_parts, or_from, eqb-true}
use Rattle.std.proofs.lemmas.List.{length-map}
use Rattle.std.proofs.Math.Bool.{or-false}
use Rattle.glsl_tree.specs.declared.keywords.TheConstants.{KEYWORDS}
use Rattle.glsl_tree.specs.Spellings.{is_keyword, stands_in_row}

abbrev Row : Type 0
Row = List (List ℕ)

abbrev begins : ℕ → List ℕ → Bool
begins c [] = false
begins c (x ∷ rest) = eqb x c

abbrev in_row : List ℕ → Row → Bool
in_row name row = list_any (λ word. bytes_eq word name) row

abbrev in_rows : List ℕ → List Row → Bool
in_rows name rows = list_any (in_row name) rows

-- whether the words of each row begin with its letter, where the first row's letter is this one
abbrev in_order : ℕ → List Row → Bool
in_order c [] = true
in_order c (row ∷ rows) = list_all (begins c) row && in_order (suc c) rows

-- a word with one first letter is none with another
other_word : (c d : ℕ) (rest word : List ℕ) → c ≢ d → begins c word ≡ true → bytes_eq word (d ∷ rest) ≡ false
other_word c d rest [] apart e = absurd cc
other_word c d rest (x ∷ word) apart e = go (eqb x d) refl
  where
    go : (b : Bool) → eqb x d ≡ b → b && bytes_eq word rest ≡ false
    go false f = refl
    go true f = absurd (apart (sym (eqb-true x c e) ∙ eqb-true x d f))

other_row : (c d : ℕ) (rest : List ℕ) (row : Row) → c ≢ d → list_all (begins c) row ≡ true → in_row (d ∷ rest) row ≡ false
other_row c d rest [] apart e = refl
other_row c d rest (word ∷ row) apart e =
    let both = and_parts (begins c word) (list_all (begins c) row) e in
    or_from _ _ (other_word c d rest word apart both.0) (other_row c d rest row apart both.1)

other_rows : (c d : ℕ) (rest : List ℕ) (rows : List Row) → ((k : ℕ) → k < length rows → c + k ≢ d) → in_order c rows ≡ true → in_rows (d ∷ rest) rows ≡ false
other_rows c d rest [] apart e = refl
other_rows c d rest (row ∷ rows) apart e =
    let both = and_parts (list_all (begins c) row) (in_order (suc c) rows) e in
    let here = apart 0 (omega arith) in
    or_from _ _ (other_row c d rest row (omega (arith, here)) both.0)
    (other_rows (suc c) d rest rows (λ k h. let there = apart (suc k) (omega arith) in omega (arith, there)) both.1)

its_row : (c k : ℕ) (rest : List ℕ) (rows : List Row) → k < length rows → in_order c rows ≡ true
    → in_row ((c + k) ∷ rest) (slice_index_or rows k []) ≡ in_rows ((c + k) ∷ rest) rows
its_row c k rest [] h e = absurd (omega arith)
its_row c zero rest (row ∷ rows) h e =
    let both = and_parts (list_all (begins c) row) (in_order (suc c) rows) e in
    sym (ap (λ b. in_row ((c + 0) ∷ rest) row || b) (other_rows (suc c) (c + 0) rest rows (λ k h. omega arith) both.1) ∙ or-false _)
its_row c (suc k) rest (row ∷ rows) h e =
    let both = and_parts (list_all (begins c) row) (in_order (suc c) rows) e in
    let same : suc c + k ≡ c + suc k = omega arith in
    ap (λ d. in_row (d ∷ rest) (slice_index_or rows k [])) (sym same)
    ∙ its_row (suc c) k rest rows (omega arith) both.1
    ∙ ap (λ d. in_rows (d ∷ rest) rows) same
    ∙ sym (ap (λ b. b || in_rows ((c + suc k) ∷ rest) rows) (other_row c (c + suc k) rest row (omega arith) both.0))

abbrev table : List Row
table = map (λ row. map (λ word. word.now) row.now) KEYWORDS

ordered : in_order 97 table ≡ true
ordered = refl

rows_count : length table ≡ 26
rows_count = refl

same_table : (name : List ℕ) → in_rows name table ≡ is_keyword name
unfolding is_keyword
same_table name = refl

-- rows as the code borrows them, and their words
abbrev words_of : Bor (List (Bor (List ℕ))) → Row
words_of row = map (λ word. word.now) row.now

borrowed_row : (name : List ℕ) (row : List (Bor (List ℕ))) → list_any (λ word. bytes_eq word.now name) row ≡ in_row name (map (λ word. word.now) row)
borrowed_row name [] = refl
borrowed_row name (word ∷ row) = ap (λ b. bytes_eq word.now name || b) (borrowed_row name row)

borrowed_at : (rows : List (Bor (List (Bor (List ℕ))))) (k : ℕ) (name : List ℕ) → k < length rows
    → stands_in_row rows k name ≡ in_row name (slice_index_or (map words_of rows) k [])
unfolding stands_in_row
borrowed_at [] k name h = absurd (omega arith)
borrowed_at (row ∷ rows) zero name h = borrowed_row name row.now
borrowed_at (row ∷ rows) (suc k) name h = borrowed_at rows k name (omega arith)

in_its_row : (name : List ℕ) (letter missing : ℕ) → 0 < length name → letter < 26 → slice_index_or name 0 missing ≡ letter + 97
    → in_row name (slice_index_or table letter []) ≡ is_keyword name
in_its_row [] letter missing h k e = absurd (omega arith)
in_its_row (first ∷ rest) letter missing h k e =
    let same : first ≡ 97 + letter = omega arith in
    ap (λ d. in_row (d ∷ rest) (slice_index_or table letter [])) same
    ∙ its_row 97 letter rest table (omega (arith, rows_count)) ordered
    ∙ ap (λ d. in_rows (d ∷ rest) table) (sym same)
    ∙ same_table (first ∷ rest)

-- a name is a word of the language where it stands in the row of its first letter
pub found_in_row : (rows : List (Bor (List (Bor (List ℕ))))) (name : List ℕ) (letter missing : ℕ)
    → map words_of rows ≡ table → 0 < length name → letter < 26 → slice_index_or name 0 missing ≡ letter + 97
    → stands_in_row rows letter name ≡ is_keyword name
found_in_row rows name letter missing t h k e =
    let count : length rows ≡ 26 = sym (length-map rows words_of) ∙ ap length t ∙ rows_count in
    borrowed_at rows letter name (omega (arith, count))
    ∙ ap (λ all. in_row name (slice_index_or all letter [])) t
    ∙ in_its_row name letter missing h k e

-- no word of the language is empty
pub empty_name : (name : List ℕ) → length name < 1 → false ≡ is_keyword name
unfolding is_keyword
empty_name [] h = refl
empty_name (first ∷ rest) h = absurd (omega arith)

-- none begins with a byte before the letters, and none with one past them
pub before_letters : (name : List ℕ) (missing : ℕ) → 1 ≤ length name → slice_index_or name 0 missing < 97 → false ≡ is_keyword name
before_letters [] missing h k = absurd (omega arith)
before_letters (first ∷ rest) missing h k = sym (other_rows 97 first rest table (λ i b. omega arith) ordered) ∙ same_table (first ∷ rest)

pub past_letters : (name : List ℕ) (missing : ℕ) → 1 ≤ length name → 122 < slice_index_or name 0 missing → false ≡ is_keyword name
past_letters [] missing h k = absurd (omega arith)
past_letters (first ∷ rest) missing h k = sym (other_rows 97 first rest table (λ i b. omega (arith, rows_count)) ordered) ∙ same_table (first ∷ rest)

pub ruleset initials = (found_in_row, empty_name, before_letters, past_letters)
