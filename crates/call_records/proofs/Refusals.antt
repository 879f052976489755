-- From the parts of the reader to its answers.
use Rattle.std.proofs.Common.{◌≡◌, ℕ, ◌+◌, ◌<◌, ◌^◌, List, ◌++◌, length, Option, Result, Ok, Err, IfOk, IfErr, inl, inr, refl, sym, arith, append_assoc, length-append}
use Rattle.std.specs.Io.KnownBytes.{prepend_known}
use Rattle.gl_numbers.specs.Bytes.{le32}
use Rattle.gl_numbers.proofs.Bytes.{length-le32}
use Rattle.wire_io.specs.Sources.{WhereTold}
use Rattle.wire_io.proofs.Known.{taken_twice}
use Rattle.wire_io.proofs.Told.{told, told_end}
use Rattle.call_records.specs.declared.operations.Operation.{Operation}
use Rattle.call_records.specs.declared.reading.TheConstants.{SESSION_MAGIC, SESSION_VERSION}
use Rattle.call_records.specs.declared.reading.Head.{Head}
use Rattle.call_records.specs.declared.reading.Head.TheVariants.{Closing, Record}
use Rattle.call_records.specs.declared.reading.ReadEnd.{ReadEnd}
use Rattle.call_records.specs.declared.reading.ReadEnd.TheVariants.{Truncated, Magic, Version, UnknownOp, BodyLong, BodyShape, AfterEnd, InputLong, ReadFault}
use Rattle.call_records.specs.Operations.{row_of}
use Rattle.call_records.proofs.TableLaws.{number_fits}
use Rattle.call_records.specs.Records.{session_start, closing_record}
use Rattle.call_records.specs.Reading.{TwoWords, IsPartOfBody, StartAnswers, Refuses}
use Rattle.call_records.specs.Parts.{EndsShort, IsHeader, Judges, TakesHead}

-- two words before a rest
abbrev pub two_words : (a b : ℕ) (rest : List ℕ) → a < 2 ^ 32 → b < 2 ^ 32 → TwoWords ((le32 a ++ le32 b) ++ rest) rest
two_words a b rest p q = record {
  first = a;
  second = b;
  first_fits = p;
  second_fits = q;
  are = append_assoc (le32 a) (le32 b) rest;
}

-- the session's header is two words
pub start_words : session_start ≡ le32 SESSION_MAGIC ++ le32 SESSION_VERSION
unfolding session_start le32
start_words = refl

-- both words of the session's header
pub start_taken : (magic version : ℕ) (old new : Option (List ℕ)) → old ≡ prepend_known (le32 magic ++ le32 version) new
    → magic ≡ SESSION_MAGIC → version ≡ SESSION_VERSION → old ≡ prepend_known session_start new
start_taken magic version old new e p q = rw start_words (rw (← p, ← q) e)

-- the session's header, where the source tells it
pub start_good : (magic version : ℕ) (old new : Option (List ℕ)) → old ≡ prepend_known (le32 magic ++ le32 version) new
    → magic ≡ SESSION_MAGIC → version ≡ SESSION_VERSION → WhereTold (λ old new. StartAnswers old new (Ok tt)) old new
start_good magic version old new e p q =
    told (λ old new. StartAnswers old new (Ok tt)) old new _ (start_taken magic version old new e p q) (λ rest. refl)

-- another first word
pub start_magic : (magic version : ℕ) (old new : Option (List ℕ)) → magic < 2 ^ 32 → version < 2 ^ 32 → old ≡ prepend_known (le32 magic ++ le32 version) new
    → (magic ≡ SESSION_MAGIC → ⊥) → WhereTold (λ old new. StartAnswers old new (Err (Magic 0))) old new
start_magic magic version old new p q e other =
    told (λ old new. StartAnswers old new (Err (Magic 0))) old new _ e (λ rest. (refl, two_words magic version rest p q, other))

-- another second word
pub start_version : (magic version : ℕ) (old new : Option (List ℕ)) → magic < 2 ^ 32 → version < 2 ^ 32 → old ≡ prepend_known (le32 magic ++ le32 version) new
    → magic ≡ SESSION_MAGIC → (version ≡ SESSION_VERSION → ⊥) → WhereTold (λ old new. StartAnswers old new (Err (Version 4))) old new
start_version magic version old new p q e same other =
    told (λ old new. StartAnswers old new (Err (Version 4))) old new _ e (λ rest. (refl, two_words magic version rest p q, same, other))

-- a header that was accepted
pub head_taken : (at number len : ℕ) (old new : Option (List ℕ)) (result : Result Head ReadEnd) → old ≡ prepend_known (le32 number ++ le32 len) new
    → Judges at number len result → IfOk result (TakesHead old new)
unfolding closing_record
head_taken at number len old new (Ok Closing) e j = rw (j.0, j.1) at e
head_taken at number len old new (Ok (Record operation size)) e j =
    let numbered : (row_of operation).number ≡ number = sym j.1.numbered in
    rw (numbered, j.0) (e, j.1)
head_taken at number len old new (Err end) e j = tt

-- a header that was refused
pub head_refused : (at number len : ℕ) (old new : Option (List ℕ)) (result : Result Head ReadEnd) → number < 2 ^ 32 → len < 2 ^ 32
    → old ≡ prepend_known (le32 number ++ le32 len) new → Judges at number len result
    → IfErr result (λ end. WhereTold (λ old new. Refuses at old new end) old new)
head_refused at number len old new (Ok head) p q e j = tt
head_refused at number len old new (Err (UnknownOp n)) p q e j =
    told (λ old new. Refuses at old new (UnknownOp n)) old new _ e (λ rest. (j.0, two_words number len rest p q, j.1))
head_refused at number len old new (Err (BodyLong n)) p q e j =
    told (λ old new. Refuses at old new (BodyLong n)) old new _ e (λ rest. (j.0, two_words number len rest p q, j.1, j.2))
head_refused at number len old new (Err (BodyShape n)) p q e j =
    told (λ old new. Refuses at old new (BodyShape n)) old new _ e (λ rest. (j.0, two_words number len rest p q, j.1, j.2, j.3))
head_refused at number len old new (Err (Truncated n)) p q e j = absurd j
head_refused at number len old new (Err (Magic n)) p q e j = absurd j
head_refused at number len old new (Err (Version n)) p q e j = absurd j
head_refused at number len old new (Err (AfterEnd n)) p q e j = absurd j
head_refused at number len old new (Err (InputLong n)) p q e j = absurd j
head_refused at number len old new (Err ReadFault) p q e j = absurd j

-- a header and a part of its body
pub body_part : (len : ℕ) (operation : Operation) (part : List ℕ) → IsHeader (row_of operation).number len operation → length part < len
    → IsPartOfBody ((le32 (row_of operation).number ++ le32 len) ++ part)
body_part len operation part h short = record {
  part = part;
  header = two_words (row_of operation).number len part (number_fits operation) (omega (arith, h.within));
  known = h.known;
  within = h.within;
  shape = h.shape;
  short = short;
}

-- a call's body that was cut short
pub body_refused : (at after len : ℕ) (operation : Operation) (old mid new : Option (List ℕ)) (end : ReadEnd) → after ≡ at + 8
    → (old ≡ prepend_known (le32 (row_of operation).number ++ le32 len) mid) × IsHeader (row_of operation).number len operation
    → EndsShort after len mid new end → WhereTold (λ old new. Refuses at old new end) old new
body_refused at after len operation old mid new (Truncated n) place h s =
    let header : List ℕ = le32 (row_of operation).number ++ le32 len in
    let here : n ≡ at + length (header ++ s.got) = omega (arith, place, s.place, length-append header s.got, length-append (le32 (row_of operation).number) (le32 len), length-le32 (row_of operation).number, length-le32 len) in
    told_end (λ old new. Refuses at old new (Truncated n)) old new _ (taken_twice old mid new header s.got h.0 s.taken) s.ended (inr (body_part len operation s.got h.1 s.short), refl, here)
body_refused at after len operation old mid new ReadFault place h s =
    let header : List ℕ = le32 (row_of operation).number ++ le32 len in
    told (λ old new. Refuses at old new ReadFault) old new _ (taken_twice old mid new header s.got h.0 s.taken) (λ rest. record {
      got = header ++ s.got;
      cut = inl (inr (body_part len operation s.got h.1 s.short));
      are = refl;
    })
body_refused at after len operation old mid new (Magic n) place h s = absurd s
body_refused at after len operation old mid new (Version n) place h s = absurd s
body_refused at after len operation old mid new (UnknownOp n) place h s = absurd s
body_refused at after len operation old mid new (BodyLong n) place h s = absurd s
body_refused at after len operation old mid new (BodyShape n) place h s = absurd s
body_refused at after len operation old mid new (AfterEnd n) place h s = absurd s
body_refused at after len operation old mid new (InputLong n) place h s = absurd s
