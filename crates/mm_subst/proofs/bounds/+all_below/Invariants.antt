use Rattle.std.proofs.Common.{take}
use Rattle.std.specs.Prelude.{All}
use Rattle.mm_terms.specs.Substitution.{ParamsBelow}
use Rattle.mm_terms.specs.Tree.{children_of}
use Rattle.mm_subst.proofs.bounds.+all_below.Given as goal

-- the children so far have their parameters below the bound
abbrev pub invariant-loop-child : goal.invariant-loop-child
invariant-loop-child l = All (ParamsBelow l.bound) (take l.child-index (children_of l.tree))
