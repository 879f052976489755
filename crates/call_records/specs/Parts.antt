-- What the parts of the reader do: a piece that is filled, a header that is judged, a session that is closed.
use Rattle.std.specs.Prelude.{◌≡◌, ℕ, ◌+◌, ◌<◌, ◌≤◌, true, false, List, [], ◌∷◌, ◌++◌, length, Option, Result, Ok, Err}
use Rattle.std.specs.Io.KnownBytes.{prepend_known, IsAtEnd}
use Rattle.gl_numbers.specs.Bytes.{le32}
use Rattle.call_records.specs.declared.operations.Operation.{Operation}
use Rattle.call_records.specs.declared.reading.Head as Heads
use Rattle.call_records.specs.declared.reading.Head.TheVariants.{Closing, Record}
use Rattle.call_records.specs.declared.reading.Next as Nexts
use Rattle.call_records.specs.declared.reading.Next.TheVariants as Next
use Rattle.call_records.specs.declared.reading.ReadEnd.{ReadEnd}
use Rattle.call_records.specs.declared.reading.ReadEnd.TheVariants.{Truncated, UnknownOp, BodyLong, BodyShape, AfterEnd, ReadFault}
use Rattle.gl_numbers.specs.Fields.{allows}
use Rattle.call_records.specs.Numbers.{body_max, closing_number}
use Rattle.call_records.specs.Operations.{row_of, is_known, has_shape}
use Rattle.call_records.specs.Records.{closing_record}

-- the input ended before a piece of this length was full
pub record EndsIn (at limit n : ℕ) (old new : Option (List ℕ)) : Type 0 where
  pub got : List ℕ
  pub short : length got < limit
  pub taken : old ≡ prepend_known got new
  pub ended : IsAtEnd new
  pub place : n ≡ at + length got

-- the source failed before a piece of this length was full
pub record FailsIn (limit : ℕ) (old new : Option (List ℕ)) : Type 0 where
  pub got : List ℕ
  pub short : length got < limit
  pub taken : old ≡ prepend_known got new

-- why a piece of this length wasn't filled
abbrev pub EndsShort : ℕ → ℕ → Option (List ℕ) → Option (List ℕ) → ReadEnd → Type 0
EndsShort at limit old new (Truncated n) = EndsIn at limit n old new
EndsShort at limit old new ReadFault = FailsIn limit old new
EndsShort at limit old new _ = ⊥

-- a call's header: its operation's number, and a length that is allowed
pub record IsHeader (number len : ℕ) (operation : Operation) : Type 0 where
  pub numbered : number ≡ (row_of operation).number
  pub known : is_known number ≡ true
  pub within : len ≤ body_max
  pub shape : has_shape number len ≡ true
  pub allowed : allows body_max (row_of operation) len ≡ true

-- how a header is judged
abbrev pub Judges : ℕ → ℕ → ℕ → Result Heads.Head ReadEnd → Type 0
Judges at number len (Ok Closing) = (number ≡ closing_number) × (len ≡ 0)
Judges at number len (Ok (Record operation size)) = (size ≡ len) × IsHeader number len operation
Judges at number len (Err (UnknownOp n)) = (n ≡ at) × (is_known number ≡ false)
Judges at number len (Err (BodyLong n)) = (n ≡ at) × (is_known number ≡ true) × (body_max < len)
Judges at number len (Err (BodyShape n)) = (n ≡ at) × (is_known number ≡ true) × (len ≤ body_max) × (has_shape number len ≡ false)
Judges at number len (Err _) = ⊥

-- the header that was taken
abbrev pub TakesHead : Option (List ℕ) → Option (List ℕ) → Heads.Head → Type 0
TakesHead old new Closing = old ≡ prepend_known closing_record new
TakesHead old new (Record operation len) =
    (old ≡ prepend_known (le32 (row_of operation).number ++ le32 len) new) × IsHeader (row_of operation).number len operation

-- the header of a call, or the closing record, that was taken
abbrev pub TakesNext : Option (List ℕ) → Option (List ℕ) → Nexts.Next → Type 0
TakesNext old new (Next.Call operation len) =
    (old ≡ prepend_known (le32 (row_of operation).number ++ le32 len) new) × IsHeader (row_of operation).number len operation
TakesNext old new Next.End = old ≡ prepend_known closing_record new

-- what is seen after the closing record
abbrev pub EndsClosed : ℕ → Option (List ℕ) → Option (List ℕ) → Result (Unit {0}) ReadEnd → Type 0
EndsClosed at old new (Ok _) = (new ≡ old) × IsAtEnd new
EndsClosed at old new (Err (AfterEnd n)) = (n ≡ at) × (byte : ℕ) × (old ≡ prepend_known (byte ∷ []) new)
EndsClosed at old new (Err ReadFault) = new ≡ old
EndsClosed at old new (Err _) = ⊥
