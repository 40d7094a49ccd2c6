use Rattle.std.proofs.Common.{◌≡◌, ◌++◌, drop}
use Rattle.std.specs.Prelude.{All}
use Rattle.mm_terms.specs.Formed.{IsFormed}
use Rattle.mm_terms.specs.Substitution.{subst_all}
use Rattle.mm_terms.specs.Tree.{children_of}
use Rattle.mm_terms.proofs.ty.substitution.+substituted.Given as goal

-- the trees so far, and the children that are left with the arguments put in, are all the children with them put in
abbrev pub invariant-loop-child : goal.invariant-loop-child
invariant-loop-child l = record {
  made : l.children.items ++ subst_all l.args (drop l.child-index (children_of l.tree)) ≡ subst_all l.args (children_of l.tree);
  formed : IsFormed l.tree → All IsFormed l.children.items;
}
