-- Substitution at a type that is taken apart.
use Rattle.std.proofs.Common.{◌≡◌, ◌+◌, ◌∙◌, ◌≤◌, ◌++◌, ℕ, List, length, drop, sym, ap, subst as cast, arith}
use Rattle.std.proofs.lemmas.Grind.{common_steps}
use Rattle.std.specs.Prelude.{All}
use Rattle.std.proofs.lemmas.List.{length-map}
use Rattle.mm_terms.specs.declared.tree.Tree.{Tree}
use Rattle.mm_terms.specs.Formed.{FitsHead, IsFormed, IsFormed-head, IsFormed-node}
use Rattle.mm_terms.specs.Length.{length_of, lengths_of, length_of-node}
use Rattle.mm_terms.specs.Substitution.{put, subst, subst_all, subst-parts}
use Rattle.mm_terms.specs.Tree.{node, head_of, children_of}

module _ (args : List Tree) (t : Tree) where
  -- a type whose head gives way to an argument is the argument
  pub given : (arg : Tree) → ((children : List Tree) → put args (head_of t) children ≡ arg) → subst args t ≡ arg
  given arg is = subst-parts args t ∙ is (subst_all args (children_of t))

  -- a type whose head stays is the head over its children with the arguments put in
  pub kept : ((children : List Tree) → put args (head_of t) children ≡ node (head_of t) children) → subst args t ≡ node (head_of t) (subst_all args (children_of t))
  kept stays = subst-parts args t ∙ stays (subst_all args (children_of t))

  pub kept_length : ((children : List Tree) → put args (head_of t) children ≡ node (head_of t) children) → 1 + lengths_of (subst_all args (children_of t)) ≡ length_of (subst args t)
  kept_length stays = sym (ap length_of (kept stays) ∙ length_of-node (head_of t) (subst_all args (children_of t)))

-- and the type is formed where it was and each of those is
pub kept_formed : (args : List Tree) (t : Tree) (children : List Tree) → children ≡ subst_all args (children_of t) → IsFormed t → All IsFormed children → IsFormed (node (head_of t) children)
kept_formed args t children are formed each =
    let many : length children ≡ length (children_of t) = ap length are ∙ length-map (children_of t) (subst args) in
    IsFormed-node (head_of t) children (cast (FitsHead (head_of t)) (sym many) (IsFormed-head t formed)) each

-- past the end of the list all is made
pub all_put : (args made ts : List Tree) (k : ℕ) → length ts ≤ k → made ++ subst_all args (drop k ts) ≡ subst_all args ts → made ≡ subst_all args ts
all_put args made ts k ended left = grind (arith, common_steps)
