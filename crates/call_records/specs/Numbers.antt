-- The numbers of the format of sessions (this project's own): they stand here, and the code's constants are proved to be these.
use Rattle.std.specs.Prelude.{ℕ}

-- the bytes of a header, a session's and a record's: two words
abbrev pub header_bytes : ℕ
header_bytes = 8

-- the most bytes of a record's body: 16 MiB of data, and 64 bytes for the fields before them
abbrev pub body_max : ℕ
body_max = 16777280

-- the number of the record that closes a session
abbrev pub closing_number : ℕ
closing_number = 0

-- the text `WGLR` as a word, 0x524C4757
abbrev pub session_magic : ℕ
session_magic = 1380730711

-- the version of a session
abbrev pub session_version : ℕ
session_version = 1

-- the most bytes of a session up to the end of its last header: 2^62
abbrev pub input_max : ℕ
input_max = 4611686018427387904
