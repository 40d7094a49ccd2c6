-- A source and a sink in memory.
use Rattle.std.specs.Prelude.{ℕ, List}
use Rattle.mm_outside.specs.Calls.{CallState}

-- the bytes still to come, and the calls
pub record SourceState : Type 0 where
  pub left : List ℕ
  pub calls : CallState

-- the bytes written so far, how many there can be, and the calls
pub record SinkState : Type 0 where
  pub written : List ℕ
  pub room : ℕ
  pub calls : CallState
