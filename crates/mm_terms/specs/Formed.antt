-- Which trees are types: each head has as many children as it takes.
use Rattle.std.specs.Prelude.{◌≡◌, ◌≢◌, ℕ, ◌<◌, ◌^◌, ⊤, List, length, All}
use Rattle.mm_terms.specs.declared.ty_head.TyHead.{TyHead}
use Rattle.mm_terms.specs.declared.ty_head.TyHead.TheVariants.{Param, U64, Bool, Tuple, Ref, Boxed, FnPtr, FnItem, Closure, Dyn, Adt}
use Rattle.mm_terms.specs.declared.tree.Tree.{Tree}
use Rattle.mm_terms.specs.declared.tree.Tree.TheOpen.{Tree-F}
use Rattle.mm_terms.specs.declared.tree.Tree.TheFolds.{every-Tree}
use Rattle.mm_terms.specs.Length.{length_of}
use Rattle.mm_terms.specs.Tree.{node, head_of, children_of, every-head, every-children, every-node}

-- the head may have so many children: a tuple has none or at least two, and a function pointer at least its result
abbrev pub FitsHead : TyHead → ℕ → Type 0
FitsHead (Param k) n = n ≡ 0
FitsHead U64 n = n ≡ 0
FitsHead Bool n = n ≡ 0
FitsHead Tuple n = n ≢ 1
FitsHead Ref n = n ≡ 1
FitsHead Boxed n = n ≡ 1
FitsHead FnPtr n = n ≢ 0
FitsHead (FnItem d) n = ⊤
FitsHead (Closure d) n = ⊤
FitsHead (Dyn d) n = ⊤
FitsHead (Adt d) n = ⊤

-- the head of one layer takes its children
abbrev FitsHere : Tree-F Tree → Type 0
FitsHere layer = FitsHead layer.head (length layer.children)

-- each head in the tree has as many children as it takes
unfoldable pub IsFormed : Tree → Type 0
IsFormed = every-Tree FitsHere

-- a tree that a `Ty` may hold: formed, and not too long for its length to be reported in a `u32`
pub record IsType (t : Tree) : Type 0 where
  pub formed : IsFormed t
  pub short : length_of t < 2 ^ 32

-- ---- laws

-- the head of a formed type fits the number of its children
pub IsFormed-head : (t : Tree) → IsFormed t → FitsHead (head_of t) (length (children_of t))
unfolding IsFormed
IsFormed-head = every-head FitsHere

-- the children of a formed type are formed
pub IsFormed-children : (t : Tree) → IsFormed t → All IsFormed (children_of t)
unfolding IsFormed
IsFormed-children = every-children FitsHere

-- a head over formed children, as many as it takes, is formed
pub IsFormed-node : (head : TyHead) (children : List Tree) → FitsHead head (length children) → All IsFormed children → IsFormed (node head children)
unfolding IsFormed
IsFormed-node = every-node FitsHere
