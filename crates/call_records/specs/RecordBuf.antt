-- The buffer of a record's body, and how it lends its bytes.
use Rattle.std.specs.Prelude.{ℕ, List, ◌++◌, length, take, drop}
use Rattle.std.specs.Borrow.{Lends, MutBor, Fml, Array, u8}
use Rattle.call_records.specs.contracts.record_buf.RecordBuf.{the_row}

-- a list with other elements written over its first; as many as it has replace it
abbrev pub written_over : List ℕ → List ℕ → List ℕ
written_over old written = take (length old) (written ++ drop (length written) old)

-- once the borrow ends, the buffer's bytes are those that the result shows last
abbrev pub LendsBytes : MutBor (List ℕ) → MutBor (List ℕ) → Fml
LendsBytes buf bytes = Lends the_row (Array u8 0) buf bytes (written_over buf.now)
