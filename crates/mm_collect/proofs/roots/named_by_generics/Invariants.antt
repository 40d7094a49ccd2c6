use Rattle.std.proofs.Common.{◌≡◌, length}
use Rattle.mm_plain.specs.Roots.{AreMarks}
use Rattle.mm_collect.proofs.RootLemmas.{first_generic}
use Rattle.mm_collect.proofs.roots.named_by_generics.Given as goal

-- what the generic ones among the functions so far name is marked
abbrev pub invariant-loop-function : goal.invariant-loop-function
invariant-loop-function l =
    (length l.marks.items ≡ length l.p.functions)
    × AreMarks (first_generic l.function-items l.function-index) l.marks.items
