-- What a counter has counted (this project's own).
use Rattle.std.specs.Prelude.{ℕ, ◌+◌}

-- the blocks lent, and the cells read or written
pub record Ticks : Type 0 where
  pub blocks : ℕ
  pub cells : ℕ

-- nothing is counted yet
abbrev pub no_ticks : Ticks
no_ticks = record { blocks = 0; cells = 0 }

-- one more block is lent, and nothing else
abbrev pub block_lent : Ticks → Ticks
block_lent t = record t { blocks = t.blocks + 1 }
