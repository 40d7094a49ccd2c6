-- The calls of a source or a sink in memory.
use Rattle.std.specs.Prelude.{ℕ, List, Contains}
use Rattle.mm_outside.specs.Causes.{one_more}

-- each call moves at most `piece` bytes, and the calls numbered in `fails` fail; `made` and `faults` say how many calls
-- were made and how many of them failed, up to the greatest u64
pub record CallState : Type 0 where
  pub piece : ℕ
  pub fails : List ℕ
  pub made : ℕ
  pub faults : ℕ

-- the next call's number, counted from 0, stands in the list; there are only u32 in it, so that it makes no difference
-- that the number stops at the greatest u64
abbrev pub IsToFail : CallState → Type 0
IsToFail calls = Contains calls.fails calls.made

-- after a call that did not fail
abbrev pub after_pass : CallState → CallState
after_pass calls = record calls { made = one_more calls.made }

-- after a call that failed
abbrev pub after_fault : CallState → CallState
after_fault calls = record calls { made = one_more calls.made; faults = one_more calls.faults }
