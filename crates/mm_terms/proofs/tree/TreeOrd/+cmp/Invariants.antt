use Rattle.std.proofs.Common.{◌≡◌, ◌≤◌, drop, length}
use Rattle.std.specs.Cmp.Lexicographic.{slice_cmp}
use Rattle.mm_terms.specs.Order.{tree_cmp}
use Rattle.mm_terms.specs.Tree.{children_of}
use Rattle.mm_terms.proofs.tree.TreeOrd.+cmp.Given as goal

-- the types compare as the children that are left do
abbrev pub invariant-loop-i : goal.invariant-loop-i
invariant-loop-i l =
    record {
      same : tree_cmp l.self l.other ≡ slice_cmp tree_cmp (drop l.i (children_of l.self)) (drop l.i (children_of l.other));
      within : l.i ≤ length (children_of l.other);
    }
