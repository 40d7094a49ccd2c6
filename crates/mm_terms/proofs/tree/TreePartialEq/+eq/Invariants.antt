use Rattle.std.proofs.Common.{◌≡◌, drop}
use Rattle.std.specs.Cmp.Lexicographic.{pointwise}
use Rattle.mm_terms.specs.Same.{same_tree}
use Rattle.mm_terms.specs.Tree.{children_of}
use Rattle.mm_terms.proofs.tree.TreePartialEq.+eq.Given as goal

-- the types are the same exactly where the children that are left are
abbrev pub invariant-loop-i : goal.invariant-loop-i
invariant-loop-i l = same_tree l.self l.other ≡ pointwise same_tree (drop l.i (children_of l.self)) (drop l.i (children_of l.other))
