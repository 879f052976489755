-- A list of bytes in blocks.
use Rattle.std.specs.Prelude.{ℕ, ◌*◌, List, take, drop}
use Rattle.step_count.specs.declared.bytes.TheConstants.{BLOCK_BYTES}

-- the bytes of block i, the last one perhaps short
abbrev pub block_at : ℕ → List ℕ → List ℕ
block_at i bytes = take BLOCK_BYTES (drop (BLOCK_BYTES * i) bytes)
