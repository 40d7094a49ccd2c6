use Rattle.std.proofs.Common.{◌≡◌, ◌++◌, drop}
use Rattle.mm_terms.specs.Tree.{children_of}
use Rattle.mm_terms.proofs.ty.Ty.children.Given as goal

-- the copies so far, and the children that are left, are the children
abbrev pub invariant-loop-child : goal.invariant-loop-child
invariant-loop-child l = l.children.items ++ drop l.child-index (children_of l.self) ≡ children_of l.self
