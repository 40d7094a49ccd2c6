use Rattle.std.proofs.Common.{◌≡◌, ◌+◌, drop}
use Rattle.mm_terms.specs.Length.{length_of, lengths_of}
use Rattle.mm_terms.specs.Tree.{children_of}
use Rattle.mm_terms.proofs.tree.Tree.+length.Given as goal

-- what is counted, and the children that are left, is all of the type
abbrev pub invariant-loop-child : goal.invariant-loop-child
invariant-loop-child l = l.total + lengths_of (drop l.child-index (children_of l.self)) ≡ length_of l.self
