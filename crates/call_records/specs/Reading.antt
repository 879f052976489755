-- What the reader of a session returns, as facts about the bytes that were left before and are left after.
use Rattle.std.specs.Prelude.{◌≡◌, ℕ, ◌+◌, ◌<◌, ◌≤◌, ◌^◌, ◌⊎◌, true, false, List, [], ◌∷◌, ◌++◌, length, Result, Ok, Err, IfErr}
use Rattle.gl_numbers.specs.Bytes.{le32}
use Rattle.wire_io.specs.Faults.{Rose}
use Rattle.call_records.specs.Numbers.{body_max, header_bytes, input_max, session_magic, session_version}
use Rattle.call_records.specs.declared.reading.Step as Steps
use Rattle.call_records.specs.declared.reading.Step.TheVariants.{Call, End}
use Rattle.call_records.specs.declared.reading.Unread as Unreads
use Rattle.call_records.specs.declared.reading.Unread.TheVariants as Unread
use Rattle.call_records.specs.declared.reading.Next as Nexts
use Rattle.call_records.specs.declared.reading.Next.TheVariants as Next
use Rattle.call_records.specs.declared.reading.ReadEnd.{ReadEnd}
use Rattle.call_records.specs.declared.reading.ReadEnd.TheVariants.{Truncated, Magic, Version, UnknownOp, BodyLong, BodyShape, AfterEnd, InputLong, ReadFault}
use Rattle.gl_numbers.specs.Fields.{allows}
use Rattle.call_records.specs.Operations.{row_of, is_known, has_shape}
use Rattle.call_records.specs.Records.{encoding, session_start, closing_record, Fits}

-- the record of a step
abbrev pub step_encoding : Steps.Step → List ℕ
step_encoding (Call call) = encoding call
step_encoding End = closing_record

-- the record of a call whose fields are unread: its operation's number, its body's length and its body
abbrev pub unread_encoding : Unreads.Unread → List ℕ
unread_encoding (Unread.Call operation body) = le32 (row_of operation).number ++ (le32 (length body.now) ++ body.now)
unread_encoding Unread.End = closing_record

-- the body has a length that the operation allows
abbrev pub IsAllowed : Unreads.Unread → Type 0
IsAllowed (Unread.Call operation body) = allows body_max (row_of operation) (length body.now) ≡ true
IsAllowed Unread.End = Unit {0}

-- a call that was read has a record
abbrev pub HasFits : Steps.Step → Type 0
HasFits (Call call) = Fits call
HasFits End = Unit {0}

-- two words were taken, and nothing else
pub record TwoWords (old new : List ℕ) : Type 0 where
  pub first : ℕ
  pub second : ℕ
  pub first_fits : first < 2 ^ 32
  pub second_fits : second < 2 ^ 32
  pub are : old ≡ le32 first ++ (le32 second ++ new)

-- a header that nothing refuses, and less than its whole body
pub record IsPartOfBody (bytes : List ℕ) : Type 0 where
  pub part : List ℕ
  pub header : TwoWords bytes part
  pub known : is_known header.first ≡ true
  pub within : header.second ≤ body_max
  pub shape : has_shape header.first header.second ≡ true
  pub short : length part < header.second

-- a proper part of a record: shorter than a header, or a header that nothing refuses without its whole body
abbrev pub IsCutShort : List ℕ → Type 0
IsCutShort bytes = (length bytes < header_bytes) ⊎ IsPartOfBody bytes

-- what was taken where the source failed in the session's header: less than all of it
pub record FailsInStart (old new : List ℕ) : Type 0 where
  pub got : List ℕ
  pub short : length got < header_bytes
  pub are : old ≡ got ++ new

-- what was taken where the source failed in a record: a proper part of it, or the closing record
pub record FailsInRecord (old new : List ℕ) : Type 0 where
  pub got : List ℕ
  pub cut : IsCutShort got ⊎ (got ≡ closing_record)
  pub are : old ≡ got ++ new

-- how reading a session's header was refused
abbrev pub StartRefuses : List ℕ → List ℕ → ReadEnd → Type 0
StartRefuses old new (Truncated n) = (length old < header_bytes) × (new ≡ []) × (n ≡ length old)
StartRefuses old new (Magic n) = (n ≡ 0) × (words : TwoWords old new) × (words.first ≡ session_magic → ⊥)
StartRefuses old new (Version n) =
    (n ≡ 4) × (words : TwoWords old new) × (words.first ≡ session_magic) × (words.second ≡ session_version → ⊥)
StartRefuses old new ReadFault = FailsInStart old new
StartRefuses old new _ = ⊥

-- what reading a session's header returns
abbrev pub StartAnswers : List ℕ → List ℕ → Result (Unit {0}) ReadEnd → Type 0
StartAnswers old new (Ok _) = old ≡ session_start ++ new
StartAnswers old new (Err e) = StartRefuses old new e

-- how reading the record at an offset was refused; a header is judged by its number first, then by its length
abbrev pub Refuses : ℕ → List ℕ → List ℕ → ReadEnd → Type 0
Refuses at old new (Truncated n) = IsCutShort old × (new ≡ []) × (n ≡ at + length old)
Refuses at old new (UnknownOp n) = (n ≡ at) × (header : TwoWords old new) × (is_known header.first ≡ false)
Refuses at old new (BodyLong n) = (n ≡ at) × (header : TwoWords old new) × (is_known header.first ≡ true) × (body_max < header.second)
Refuses at old new (BodyShape n) =
    (n ≡ at) × (header : TwoWords old new) × (is_known header.first ≡ true) × (header.second ≤ body_max)
    × (has_shape header.first header.second ≡ false)
Refuses at old new (AfterEnd n) = (n ≡ at + header_bytes) × (byte : ℕ) × (old ≡ closing_record ++ (byte ∷ new))
Refuses at old new (InputLong n) = (n ≡ at) × (input_max < at + header_bytes) × (new ≡ old)
Refuses at old new ReadFault = FailsInRecord old new
Refuses at old new _ = ⊥

-- what reading the record at an offset returns
abbrev pub Answers : ℕ → List ℕ → List ℕ → Result Steps.Step ReadEnd → Type 0
Answers at old new (Ok (Call call)) = old ≡ encoding call ++ new
Answers at old new (Ok End) = (old ≡ closing_record) × (new ≡ [])
Answers at old new (Err e) = Refuses at old new e

-- what reading the record at an offset returns, where a call's fields are left unread
abbrev pub AnswersUnread : ℕ → List ℕ → List ℕ → Result Unreads.Unread ReadEnd → Type 0
AnswersUnread at old new (Ok (Unread.Call operation body)) = old ≡ unread_encoding (Unread.Call operation body) ++ new
AnswersUnread at old new (Ok Unread.End) = (old ≡ closing_record) × (new ≡ [])
AnswersUnread at old new (Err e) = Refuses at old new e

-- what reading the header of the record at an offset returns, where a call's body is left unread
abbrev pub AnswersNext : ℕ → List ℕ → List ℕ → Result Nexts.Next ReadEnd → Type 0
AnswersNext at old new (Ok (Next.Call operation len)) = old ≡ (le32 (row_of operation).number ++ le32 len) ++ new
AnswersNext at old new (Ok Next.End) = (old ≡ closing_record) × (new ≡ [])
AnswersNext at old new (Err e) = Refuses at old new e

-- the number of faults hasn't fallen, and ReadFault is returned only where it rose
pub record ReadCause {T : Type 0} (before now : ℕ) (result : Result T ReadEnd) : Type 0 where
  pub later : before ≤ now
  pub failed : IfErr result (λ end. end ≡ ReadFault → Rose before now)

-- the record's header ends within the most bytes of a session, unless that is what was refused
abbrev pub HasRoom : {T : Type 0} → ℕ → Result T ReadEnd → Type 0
HasRoom at (Err (InputLong n)) = Unit {0}
HasRoom at _ = at + header_bytes ≤ input_max

-- a refusal of a session's header
abbrev pub IsStartEnd : ReadEnd → Type 0
IsStartEnd (Truncated n) = Unit {0}
IsStartEnd (Magic n) = Unit {0}
IsStartEnd (Version n) = Unit {0}
IsStartEnd ReadFault = Unit {0}
IsStartEnd _ = ⊥

-- a refusal of a record
abbrev pub IsRecordEnd : ReadEnd → Type 0
IsRecordEnd (Magic n) = ⊥
IsRecordEnd (Version n) = ⊥
IsRecordEnd _ = Unit {0}
