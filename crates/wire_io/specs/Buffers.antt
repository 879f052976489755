-- A buffer between the program and a reader or a writer: no byte is lost, sent twice or moved past another.
use Rattle.std.specs.Prelude.{Bool, ◌≡◌, ℕ, ◌<◌, ◌≤◌, List, [], ◌++◌, min, length, take, Option, Some, None, ⊤, Result, Ok, Err}
use Rattle.std.specs.Io.KnownBytes.{IsAtEnd}
use Rattle.wire_io.specs.declared.buffer.TheConstants.{CAPACITY}

-- the bytes that wait, the room after them, and the number of faults
pub record BufferState : Type 0 where
  pub waiting : List ℕ
  pub room : ℕ
  pub faults : ℕ

-- nothing waits, and there was no fault
abbrev pub empty_buffer : BufferState
empty_buffer = record { waiting = []; room = CAPACITY; faults = 0 }

-- where it is known what a reader has left: what waited, and then what was left, is what was given, what waits and what is left
abbrev pub Gives : Option (List ℕ) → Option (List ℕ) → List ℕ → List ℕ → List ℕ → Type 0
Gives None new waited given waits = ⊤
Gives (Some old) None waited given waits = ⊥
Gives (Some old) (Some new) waited given waits = waited ++ old ≡ given ++ (waits ++ new)

-- where it is known what a writer holds: what it held, what waited and what was taken is what it holds and what waits
abbrev pub Passes : Option (List ℕ) → Option (List ℕ) → List ℕ → List ℕ → List ℕ → Type 0
Passes None new waited taken waits = ⊤
Passes (Some old) None waited taken waits = ⊥
Passes (Some old) (Some new) waited taken waits = (old ++ waited) ++ taken ≡ new ++ waits

-- a read gave the next bytes, none of a piece that isn't empty only at the end, and none where it failed
abbrev pub ReadsThrough : {E : Type 0} → Option (List ℕ) → Option (List ℕ) → List ℕ → List ℕ → Result ℕ E → List ℕ → Type 0
ReadsThrough old new waited waits (Ok n) piece =
    (n ≤ length piece) × Gives old new waited (take n piece) waits × (n ≡ 0 → 0 < length piece → (waits ≡ []) × IsAtEnd new)
ReadsThrough old new waited waits (Err e) piece = Gives old new waited [] waits

-- a write took a prefix of the piece, of one byte at least where there is one, and nothing where it failed
abbrev pub WritesThrough : {E : Type 0} → Option (List ℕ) → Option (List ℕ) → List ℕ → List ℕ → Result ℕ E → List ℕ → Type 0
WritesThrough old new waited waits (Ok n) piece =
    (n ≤ length piece) × Passes old new waited (take n piece) waits × (0 < length piece → 0 < n)
WritesThrough old new waited waits (Err e) piece = Passes old new waited [] waits

-- where bytes wait, they are given, as many as fit, and nothing is read
abbrev pub GivesWaiting : {E : Type 0} → BufferState → BufferState → Result ℕ E → List ℕ → Type 0
GivesWaiting old new result piece =
    0 < length old.waiting → (result ≡ Ok (min (length old.waiting) (length piece)))
    × (old.waiting ≡ take (length old.waiting) piece ++ new.waiting)

-- where there is room, a piece shorter than the whole room waits, as much of it as fits, and nothing is written
abbrev pub KeepsShort : {E : Type 0} → BufferState → BufferState → Result ℕ E → List ℕ → Type 0
KeepsShort old new result piece =
    0 < old.room → length piece < CAPACITY → (result ≡ Ok (min (length piece) old.room))
    × (new.waiting ≡ old.waiting ++ take old.room piece)

-- a file's sink: the file's path, whether it is open, and the buffer before it
pub record LazyState : Type 0 where
  pub path : List ℕ
  pub is_open : Bool
  pub unsent : BufferState
