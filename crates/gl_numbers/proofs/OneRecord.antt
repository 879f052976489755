-- Records of a table: each encoding is of one record, its length is one that its row allows, and what is read fits the row.
use Rattle.std.proofs.Common.{◌≡◌, ℕ, ◌+◌, ◌-◌, ◌%◌, ◌<◌, ◌≤◌, ◌^◌, Bool, List, [], ◌∷◌, ◌++◌, length, take, drop, Option, Some, true, false, ◌&&◌, ◌==◌, nat_le, refl, sym, ap, subst, ◌∙◌, arith, append_assoc, length-append, append-nil}
use Rattle.std.proofs.Math.Seq.{take-append_seam, drop-append_seam}
use Rattle.std.proofs.lemmas.Bool.Decides.{nat_tests}
use Rattle.gl_numbers.specs.Bytes.{le32}
use Rattle.gl_numbers.specs.declared.fields.Tail.{Tail}
use Rattle.gl_numbers.specs.declared.fields.Tail.TheVariants.{Nothing, Bytes}
use Rattle.gl_numbers.specs.declared.fields.Tail.TheVariants as Tails
use Rattle.gl_numbers.specs.Fields.{TableRow, Value, Parts, fields_size, has_tail, allows, body_encoding, body, record_encoding, FitsLetters, FitsTail, FitsRow, EndsTail, ReadsRow}
use Rattle.gl_numbers.proofs.Bytes.{length-le32, le32-one}
use Rattle.gl_numbers.proofs.Bodies.{length-body, values_size-fits, body-one}

-- a record has its header's bytes, and its body's
pub length-record : {O : Type 0} (row_of : O → TableRow) (parts : Parts O) → length (record_encoding row_of parts) ≡ 8 + length (body parts)
length-record row_of parts =
    omega (arith, length-append (le32 (row_of parts.operation).number) (le32 (length (body parts)) ++ body parts), length-append (le32 (length (body parts))) (body parts), length-le32 (row_of parts.operation).number, length-le32 (length (body parts)))

-- a tail that fits is one that its form allows
allows-tail : (form : Tail) (tail : List ℕ) (size len : ℕ) → FitsTail form tail → len ≡ size + length tail → has_tail form size len ≡ true
allows-tail Nothing tail size len h e =
    let none : length tail ≡ 0 = ap length h in
    grind (arith, nat_tests)
allows-tail Bytes tail size len h e = grind (arith, nat_tests)
allows-tail Tails.Words tail size len h e =
    let rest : len - size ≡ length tail = omega arith in
    rw rest (grind (arith, nat_tests))

-- a record that fits its row has a body of a length that the row allows
pub allows-fits : {O : Type 0} (row_of : O → TableRow) (most : ℕ) (parts : Parts O) → FitsRow row_of most parts
    → allows most (row_of parts.operation) (length (body parts)) ≡ true
allows-fits row_of most parts h =
    let size : length (body parts) ≡ fields_size (row_of parts.operation).letters + length parts.tail =
    length-body parts.values parts.tail ∙ ap (λ n. n + length parts.tail) (values_size-fits (row_of parts.operation).letters parts.values h.values) in
    let tail = allows-tail (row_of parts.operation).tail parts.tail (fields_size (row_of parts.operation).letters) (length (body parts)) h.tail size in
    let within = h.body in
    rw tail (grind (arith, nat_tests))

-- two records that are encoded alike, and what follows
pub record OneRecord {O : Type 0} (a b : Parts O) (x y : List ℕ) : Type 0 where
  pub parts : a ≡ b
  pub rest : x ≡ y

-- a record's encoding and more: its number, its body's length, and then the body and more
pub record-parted : {O : Type 0} (row_of : O → TableRow) (parts : Parts O) (x : List ℕ)
    → record_encoding row_of parts ++ x ≡ le32 (row_of parts.operation).number ++ (le32 (length (body parts)) ++ (body parts ++ x))
record-parted row_of parts x =
    append_assoc (le32 (row_of parts.operation).number) (le32 (length (body parts)) ++ body parts) x ∙ ap (λ rest. le32 (row_of parts.operation).number ++ rest) (append_assoc (le32 (length (body parts))) (body parts) x)

some-one : {O : Type 0} (a b : O) → Some a ≡ Some b → a ≡ b
some-one a b e = cc

-- in a table whose numbers are words and tell its operations, lists that begin with records begin with one record
pub record-one : {O : Type 0} (row_of : O → TableRow) (most : ℕ) (found : ℕ → Option O) → most < 2 ^ 32
    → ((operation : O) → (row_of operation).number < 2 ^ 32) → ((operation : O) → found (row_of operation).number ≡ Some operation)
    → (a b : Parts O) (x y : List ℕ) → FitsRow row_of most a → FitsRow row_of most b
    → record_encoding row_of a ++ x ≡ record_encoding row_of b ++ y → OneRecord a b x y
record-one {O} row_of most found small words tells a b x y p q e =
    let within_a = p.body in
    let within_b = q.body in
    let header = le32-one _ _ _ _ (words a.operation) (words b.operation) (sym (record-parted row_of a x) ∙ e ∙ record-parted row_of b y) in
    let size = le32-one _ _ _ _ (omega arith) (omega arith) header.rest in
    let bodies : body a ++ x ≡ body b ++ y = size.rest in
    let same : body a ≡ body b =
    sym (take-append_seam (body a) x) ∙ ap (take (length (body a))) bodies ∙ ap (λ n. take n (body b ++ y)) size.word ∙ take-append_seam (body b) y in
    let rest : x ≡ y =
    sym (drop-append_seam (body a) x) ∙ ap (drop (length (body a))) bodies ∙ ap (λ n. drop n (body b ++ y)) size.word ∙ drop-append_seam (body b) y in
    let operation : a.operation ≡ b.operation =
    some-one a.operation b.operation (sym (tells a.operation) ∙ ap found header.word ∙ tells b.operation) in
    let fits : FitsLetters (row_of a.operation).letters b.values =
    subst (λ (o : O). FitsLetters (row_of o).letters b.values) (sym operation) q.values in
    let one = body-one (row_of a.operation).letters a.values b.values a.tail b.tail p.values fits same in
    let parts_of : O → List Value → List ℕ → Parts O = λ o v t. record { operation = o; values = v; tail = t } in
    record {
      parts = ap (λ o. parts_of o a.values a.tail) operation ∙ ap (λ v. parts_of b.operation v a.tail) one.values ∙ ap (λ t. parts_of b.operation b.values t) one.rest;
      rest = rest;
    }

-- a body that was read to a row's end fits the row
pub record FitsRead {O : Type 0} (row_of : O → TableRow) (most : ℕ) (bytes : List ℕ) (parts : Parts O) : Type 0 where
  pub fits : FitsRow row_of most parts
  pub body : body parts ≡ bytes

-- nothing is left of a list of a row's length without a tail
none-left : (n m : ℕ) (left : List ℕ) → n + length left ≡ m → n ≡ m → left ≡ []
none-left n m [] e f = refl
none-left n m (x ∷ left) e f = absurd (omega arith)

-- both tests hold
both : (a b : Bool) → (a && b) ≡ true → (a ≡ true) × (b ≡ true)
both true b e = (refl, e)
both false b e = absurd cc

-- a tail to the body's end
record Ended (form : Tail) (tail new : List ℕ) : Type 0 where
  left : new ≡ []
  fits : FitsTail form tail

ended : (form : Tail) (tail new : List ℕ) (size len : ℕ) → EndsTail form tail new → has_tail form size len ≡ true
    → len ≡ size + (length tail + length new) → Ended form tail new
ended Nothing tail new size len h t e =
    let same : len ≡ size = grind (arith, nat_tests) in
    record { left = none-left size size new (omega (arith, ap length h)) refl; fits = h }
ended Bytes tail new size len h t e = record { left = h; fits = tt }
ended Tails.Words tail new size len h t e =
    let tests = both _ _ t in
    let rest : len - size ≡ length tail = omega (arith, ap length h) in
    let counted : ((len - size) % 4 == 0) ≡ true = tests.1 in
    let whole : (len - size) % 4 ≡ 0 = grind (arith, nat_tests) in
    record { left = h; fits = rw (← rest) whole }

pub read_fits : {O : Type 0} (row_of : O → TableRow) (most : ℕ) (wanted : O) (old new : List ℕ) (parts : Parts O)
    → ReadsRow row_of wanted old new parts → allows most (row_of wanted) (length old) ≡ true → FitsRead row_of most old parts
read_fits {O} row_of most wanted old new parts h allowed =
    let tests = both (nat_le (length old) most) (has_tail (row_of wanted).tail (fields_size (row_of wanted).letters) (length old)) allowed in
    let small : nat_le (length old) most ≡ true = tests.0 in
    let within : length old ≤ most = grind (arith, nat_tests) in
    let size : length old ≡ fields_size (row_of wanted).letters + (length parts.tail + length new) =
    omega (arith, ap length h.bytes, length-body parts.values (parts.tail ++ new), length-append parts.tail new, values_size-fits (row_of wanted).letters parts.values h.values) in
    let end = ended (row_of wanted).tail parts.tail new (fields_size (row_of wanted).letters) (length old) h.tail tests.1 size in
    let same : body parts ≡ old = sym (h.bytes ∙ ap (λ (rest : List ℕ). body_encoding parts.values (parts.tail ++ rest)) end.left ∙ ap (body_encoding parts.values) (append-nil parts.tail)) in
    let operation = h.operation in
    record {
      fits = record {
        values = subst (λ (o : O). FitsLetters (row_of o).letters parts.values) (sym operation) h.values;
        tail = subst (λ (o : O). FitsTail (row_of o).tail parts.tail) (sym operation) end.fits;
        body = rw same within;
      };
      body = same;
    }
