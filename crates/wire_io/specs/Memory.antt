-- What the source and the sink over memory are: all that a test needs to know of them.
use Rattle.std.specs.Prelude.{ℕ, List}

-- the bytes left, the calls that fail, how many calls and how many faults there were
pub record SourceState : Type 0 where
  pub left : List ℕ
  pub fail : List ℕ
  pub calls : ℕ
  pub faults : ℕ

-- the bytes held, the bytes that it can hold at most, the calls that fail, how many calls and how many faults there were
pub record SinkState : Type 0 where
  pub held : List ℕ
  pub room : ℕ
  pub fail : List ℕ
  pub calls : ℕ
  pub faults : ℕ
