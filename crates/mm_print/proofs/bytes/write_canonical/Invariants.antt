use Rattle.std.proofs.Common.{◌≡◌, ◌++◌, drop}
use Rattle.mm_spell.specs.Listed.{kinds}
use Rattle.mm_print.specs.Printed.{printed}
use Rattle.mm_print.proofs.bytes.write_canonical.Given as goal

-- what is written, and the tokens that are left, is the whole
abbrev pub invariant-loop-place : goal.invariant-loop-place
invariant-loop-place l = l.text.items ++ printed (kinds (drop l.place l.spelled)) ≡ l.fn.text.items ++ printed (kinds l.spelled)
