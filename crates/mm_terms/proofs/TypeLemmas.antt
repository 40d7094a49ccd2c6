-- What a tree that is a type tells of its parts, and how one is made.
use Rattle.std.proofs.Common.{◌≡◌, ◌+◌, ◌<◌, ◌^◌, ◌∙◌, ℕ, List, length, get_or, sym, ap, subst, arith}
use Rattle.std.specs.Prelude.{All}
use Rattle.mm_terms.specs.declared.ty_head.TyHead.{TyHead}
use Rattle.mm_terms.specs.declared.tree.Tree.{Tree}
use Rattle.mm_terms.specs.Tree.{node, children_of}
use Rattle.mm_terms.specs.Length.{lengths_of, length_of-parts, length_of-node, length-le_lengths_of, length_of-le_lengths_of}
use Rattle.mm_terms.specs.Formed.{FitsHead, IsFormed, IsType, IsFormed-children, IsFormed-node}

-- the number of children fits a `u32`
pub arity_fits : (t : Tree) → IsType t → length (children_of t) < 2 ^ 32
arity_fits t is = omega (arith, is.short, length_of-parts t, length-le_lengths_of (children_of t))

-- each child is a type
pub IsType-children : (t : Tree) → IsType t → All IsType (children_of t)
IsType-children t is = λ k d within. record {
  formed = IsFormed-children t is.formed k d within;
  short = omega (arith, is.short, length_of-parts t, length_of-le_lengths_of (children_of t) k d within);
}

-- the same of a child that is read from a copy of the list
pub child_is : (t child : Tree) (list : List Tree) (k : ℕ) → list ≡ children_of t → k < length (children_of t) → child ≡ get_or list k child → IsType t → IsType child
child_is t child list k are within is type =
    subst IsType (sym (is ∙ ap (λ xs. get_or xs k child) are)) (IsType-children t type k child within)

-- a head over formed children, not too many
pub IsType-node : (head : TyHead) (children : List Tree) → FitsHead head (length children) → All IsFormed children → lengths_of children + 1 < 2 ^ 32 → IsType (node head children)
IsType-node head children fits formed short = record {
  formed = IsFormed-node head children fits formed;
  short = omega (arith, length_of-node head children);
}
