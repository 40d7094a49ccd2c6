use Rattle.std.proofs.Common.{◌≡◌, drop, [], length}
use Rattle.std.specs.Prelude.{replicate}
use Rattle.mm_program.specs.Tables.{with_impls}
use Rattle.mm_program.proofs.tables.impls_by_trait.Given as goal

-- what is entered, with the impls that are left, is all of them
abbrev pub invariant-loop-i : goal.invariant-loop-i
invariant-loop-i l = with_impls l.lists.items l.i (drop l.i l.defs) ≡ with_impls (replicate (length l.defs) []) 0 l.defs
