use Rattle.std.proofs.Common.{◌≡◌, ◌+◌, ◌<◌, ◌^◌, drop}
use Rattle.mm_terms.specs.Length.{length_of, lengths_of}
use Rattle.mm_terms.specs.Substitution.{subst, subst_all}
use Rattle.mm_terms.specs.Tree.{children_of}
use Rattle.mm_terms.proofs.ty.substitution.+total_substituted.Given as goal

-- what is counted, and the children that are left with the arguments put in, is all
abbrev pub invariant-loop-child : goal.invariant-loop-child
invariant-loop-child l =
    (l.total + lengths_of (subst_all l.args (drop l.child-index (children_of l.tree))) ≡ length_of (subst l.args l.tree)) × (l.total < 2 ^ 32)
