-- Each encoding is of one call, and no refusal comes before the rest of a session.
use Rattle.std.proofs.Common.{◌≡◌, ℕ, ◌+◌, ◌<◌, ◌≤◌, ◌^◌, ◌⊎◌, List, [], ◌∷◌, ◌++◌, length, Result, Ok, Err, IsOk, All, true, inl, inr, refl, sym, ap, ◌∙◌, arith, append_assoc, length-append, append-nil, lit<}
use Rattle.std.proofs.lemmas.List.{append_cancel_left}
use Rattle.std.proofs.lemmas.List.Elements.{All-head, All-tail}
use Rattle.std.specs.List.{flat_map}
use Rattle.gl_numbers.specs.Bytes.{le32}
use Rattle.gl_numbers.proofs.Bytes.{length-le32, Same, le32-one}
use Rattle.gl_numbers.proofs.OneRecord.{record-one, record-parted, allows-fits}
use Rattle.call_records.specs.declared.operations.TheConstants.{CLOSE, BODY_MAX}
use Rattle.call_records.specs.declared.calls.Call.{Call}
use Rattle.call_records.specs.Operations.{row_of, operation_numbered, is_known, has_shape}
use Rattle.call_records.specs.Records.{parts_of, operation_of, op_of, body_of, encoding, Fits, session_start, closing_record, session}
use Rattle.call_records.specs.declared.reading.TheConstants.{INPUT_MAX, SESSION_MAGIC, SESSION_VERSION}
use Rattle.call_records.specs.declared.reading.Step.{Step}
use Rattle.call_records.specs.declared.reading.ReadEnd.{ReadEnd}
use Rattle.call_records.specs.declared.reading.ReadEnd.TheVariants.{Truncated, Magic, Version, UnknownOp, BodyLong, BodyShape, AfterEnd, InputLong, ReadFault}
use Rattle.call_records.specs.Reading.{TwoWords, IsCutShort, StartAnswers, Answers}
use Rattle.call_records.proofs.TableLaws.{number_fits, not_close, told, known, shape}
use Rattle.call_records.proofs.Refusals.{start_words}

-- two calls that are encoded alike, and what follows
pub record OneCall (a b : Call) (x y : List ℕ) : Type 0 where
  pub call : parts_of a ≡ parts_of b
  pub rest : x ≡ y

-- lists that begin with encodings begin with one call's
pub encoding-one : (a b : Call) (x y : List ℕ) → Fits a → Fits b → encoding a ++ x ≡ encoding b ++ y → OneCall a b x y
encoding-one a b x y p q e =
    let one = record-one row_of BODY_MAX operation_numbered (lit< tt) number_fits told (parts_of a) (parts_of b) x y p q e in
    record { call = one.parts; rest = one.rest }

-- no call's record begins the closing record, nor the other way round
pub encoding-not_closing : (call : Call) (x y : List ℕ) → encoding call ++ x ≡ closing_record ++ y → ⊥
unfolding closing_record
encoding-not_closing call x y e =
    let closed : closing_record ++ y ≡ le32 CLOSE ++ (le32 0 ++ y) = append_assoc (le32 CLOSE) (le32 0) y in
    let header = le32-one _ _ _ _ (number_fits (operation_of call)) (lit< tt) (sym (record-parted row_of (parts_of call) x) ∙ e ∙ closed) in
    not_close (operation_of call) header.word

-- a header that nothing refuses, and at least its whole body
record Prefix (old : List ℕ) : Type 0 where
  number : ℕ
  len : ℕ
  body : List ℕ
  number_fits : number < 2 ^ 32
  known : is_known number ≡ true
  within : len ≤ BODY_MAX
  shape : has_shape number len ≡ true
  whole : len ≤ length body
  is : old ≡ le32 number ++ (le32 len ++ body)

-- the rest of a session begins so
prefix : (todo : List Call) (old : List ℕ) → All Fits todo → old ≡ flat_map encoding todo ++ closing_record → Prefix old
unfolding closing_record
prefix [] old fits e = record {
  number = CLOSE;
  len = 0;
  body = [];
  number_fits = lit< tt;
  known = refl;
  within = omega arith;
  shape = refl;
  whole = omega arith;
  is = rw append-nil e;
}
prefix (call ∷ todo) old fits e =
    let here : Fits call = All-head Fits call todo fits in
    let rest : List ℕ = flat_map encoding todo ++ closing_record in
    record {
      number = op_of call;
      len = length (body_of call);
      body = body_of call ++ rest;
      number_fits = number_fits (operation_of call);
      known = known (operation_of call);
      within = here.body;
      shape = shape (operation_of call) (length (body_of call)) ∙ allows-fits row_of BODY_MAX (parts_of call) here;
      whole = omega (arith, length-append (body_of call) rest);
      is = e ∙ append_assoc (encoding call) (flat_map encoding todo) closing_record ∙ record-parted row_of (parts_of call) rest;
    }

-- the header that was taken is the one that stands there
record SameHeader (old new : List ℕ) (f : Prefix old) (words : TwoWords old new) : Type 0 where
  number : words.first ≡ f.number
  len : words.second ≡ f.len
  body : new ≡ f.body

same_header : (old new : List ℕ) (f : Prefix old) (words : TwoWords old new) → SameHeader old new f words
same_header old new f words =
    let header = le32-one _ _ _ _ words.first_fits f.number_fits (sym words.are ∙ f.is) in
    let size = le32-one _ _ _ _ words.second_fits (omega (arith, f.within)) header.rest in
    record { number = header.word; len = size.word; body = size.rest }

-- the rest of a session isn't cut short
not_short : (old : List ℕ) → Prefix old → IsCutShort old → ⊥
not_short old f (inl short) =
    absurd (omega (arith, short, ap length f.is, length-append (le32 f.number) (le32 f.len ++ f.body), length-append (le32 f.len) f.body, length-le32 f.number, length-le32 f.len))
not_short old f (inr part) =
    let same = same_header old part.part f part.header in
    absurd (omega (arith, part.short, f.whole, same.len, ap length same.body))

-- the rest of a session isn't the closing record and more
not_more : (todo : List Call) (old new : List ℕ) (byte : ℕ) → old ≡ flat_map encoding todo ++ closing_record → old ≡ closing_record ++ (byte ∷ new) → ⊥
not_more [] old new byte e more =
    absurd (omega (arith, ap length e, ap length more, length-append closing_record (byte ∷ new)))
not_more (call ∷ todo) old new byte e more =
    encoding-not_closing call (flat_map encoding todo ++ closing_record) (byte ∷ new) (sym (append_assoc (encoding call) (flat_map encoding todo) closing_record) ∙ sym e ∙ more)

-- before the rest of a session nothing is refused: what is read is answered, or the source failed
pub answered : (todo : List Call) (at : ℕ) (old new : List ℕ) (result : Result Step ReadEnd) → All Fits todo
    → old ≡ flat_map encoding todo ++ closing_record → at + length old ≤ INPUT_MAX → Answers at old new result
    → IsOk result ⊎ (result ≡ Err ReadFault)
answered todo at old new (Ok step) fits e room a = inl refl
answered todo at old new (Err (Truncated n)) fits e room a = absurd (not_short old (prefix todo old fits e) a.0)
answered todo at old new (Err (Magic n)) fits e room a = absurd a
answered todo at old new (Err (Version n)) fits e room a = absurd a
answered todo at old new (Err (UnknownOp n)) fits e room a =
    let f = prefix todo old fits e in
    let same = same_header old new f a.1 in
    let known : is_known a.1.first ≡ true = rw same.number f.known in
    absurd (cc (known, a.2))
answered todo at old new (Err (BodyLong n)) fits e room a =
    let f = prefix todo old fits e in
    let same = same_header old new f a.1 in
    absurd (omega (arith, a.3, f.within, same.len))
answered todo at old new (Err (BodyShape n)) fits e room a =
    let f = prefix todo old fits e in
    let same = same_header old new f a.1 in
    let shape : has_shape a.1.first a.1.second ≡ true = rw (same.number, same.len) f.shape in
    absurd (cc (shape, a.4))
answered todo at old new (Err (AfterEnd n)) fits e room a = absurd (not_more todo old new a.1 e a.2)
answered todo at old new (Err (InputLong n)) fits e room a =
    let f = prefix todo old fits e in
    absurd (omega (arith, a.1, room, ap length f.is, length-append (le32 f.number) (le32 f.len ++ f.body), length-append (le32 f.len) f.body, length-le32 f.number, length-le32 f.len))
answered todo at old new (Err ReadFault) fits e room a = inr refl

-- what is left of a session after a call that was read
pub record NextRest (todo : List Call) (call : Call) (new : List ℕ) : Type 0 where
  pub first : Call
  pub rest : List Call
  pub parts : todo ≡ first ∷ rest
  pub same : parts_of first ≡ parts_of call
  pub fits : All Fits rest
  pub left : new ≡ flat_map encoding rest ++ closing_record

-- the call that is read before the rest of a session is its first
pub next_rest : (todo : List Call) (at : ℕ) (old new : List ℕ) (call : Call) → All Fits todo → Fits call
    → old ≡ flat_map encoding todo ++ closing_record → Answers at old new (Ok (Step.Call call)) → NextRest todo call new
next_rest [] at old new call fits here e a =
    absurd (encoding-not_closing call new [] (sym a ∙ e ∙ sym (append-nil closing_record)))
next_rest (first ∷ rest) at old new call fits here e a =
    let one = encoding-one first call (flat_map encoding rest ++ closing_record) new (All-head Fits first rest fits) here (sym (append_assoc (encoding first) (flat_map encoding rest) closing_record) ∙ sym e ∙ a) in
    record {
      first = first;
      rest = rest;
      parts = refl;
      same = one.call;
      fits = All-tail Fits first rest fits;
      left = sym one.rest;
    }

-- the closing record is read only where no call is left
pub end_rest : (todo : List Call) (at : ℕ) (old new : List ℕ) → old ≡ flat_map encoding todo ++ closing_record → Answers at old new (Ok Step.End) → todo ≡ []
end_rest [] at old new e a = refl
end_rest (call ∷ todo) at old new e a =
    absurd (encoding-not_closing call (flat_map encoding todo ++ closing_record) [] (sym (append_assoc (encoding call) (flat_map encoding todo) closing_record) ∙ sym e ∙ a.0 ∙ sym (append-nil closing_record)))

-- what is left of a session after its header
pub record StartRest (calls : List Call) (new : List ℕ) (result : Result (Unit {0}) ReadEnd) : Type 0 where
  pub answered : IsOk result ⊎ (result ≡ Err ReadFault)
  pub left : IsOk result → new ≡ flat_map encoding calls ++ closing_record

-- the words that were taken are those of the session's header
start_read : (calls : List Call) (old new : List ℕ) → old ≡ session calls → (words : TwoWords old new)
    → Same words.first SESSION_MAGIC (le32 words.second ++ new) (le32 SESSION_VERSION ++ (flat_map encoding calls ++ closing_record))
start_read calls old new e words =
    let rest : List ℕ = flat_map encoding calls ++ closing_record in
    let start : session calls ≡ le32 SESSION_MAGIC ++ (le32 SESSION_VERSION ++ rest) = rw start_words (append_assoc (le32 SESSION_MAGIC) (le32 SESSION_VERSION) rest) in
    le32-one _ _ _ _ words.first_fits (lit< tt) (sym words.are ∙ e ∙ start)

-- a session's header is answered, or the source failed
pub started : (calls : List Call) (old new : List ℕ) (result : Result (Unit {0}) ReadEnd) → old ≡ session calls → StartAnswers old new result
    → StartRest calls new result
started calls old new (Ok x) e a = record {
  answered = inl refl;
  left = λ _. append_cancel_left session_start new _ (sym a ∙ e);
}
started calls old new (Err (Truncated n)) e a =
    absurd (omega (arith, a.0, ap length e, length-append session_start (flat_map encoding calls ++ closing_record), ap length start_words, length-append (le32 SESSION_MAGIC) (le32 SESSION_VERSION), length-le32 SESSION_MAGIC, length-le32 SESSION_VERSION))
started calls old new (Err (Magic n)) e a =
    let words = start_read calls old new e a.1 in
    absurd (a.2 words.word)
started calls old new (Err (Version n)) e a =
    let words = start_read calls old new e a.1 in
    absurd (a.3 (le32-one _ _ _ _ a.1.second_fits (lit< tt) words.rest).word)
started calls old new (Err ReadFault) e a = record { answered = inr refl; left = λ ok. absurd cc }
started calls old new (Err (UnknownOp n)) e a = absurd a
started calls old new (Err (BodyLong n)) e a = absurd a
started calls old new (Err (BodyShape n)) e a = absurd a
started calls old new (Err (AfterEnd n)) e a = absurd a
started calls old new (Err (InputLong n)) e a = absurd a
