-- What one comparison of heads or of lengths tells of two types.
use Rattle.std.proofs.Common.{◌≡◌, ◌≢◌, Bool, true, false, not, ◌&&◌, length, refl, sym, ap, ◌∙◌}
use Rattle.std.specs.Cmp.Lexicographic.{pointwise, unequal}
use Rattle.std.specs.Ordering.{eq_by_cmp}
use Rattle.mm_terms.specs.declared.tree.Tree.{Tree}
use Rattle.mm_terms.specs.contracts.ty_head.TyHeadPartialEq.TheImpl as equality
use Rattle.mm_terms.specs.Tree.{head_of, children_of}
use Rattle.mm_terms.specs.Order.{ty_head_cmp}
use Rattle.mm_terms.specs.Same.{same_tree, same_tree-parts, same_item-parts, same_head-parts}
use Rattle.mm_terms.proofs.HeadLemmas.{derived_eq}

and-false : (b : Bool) → (b && false) ≡ false
and-false true = refl
and-false false = refl

from_not : (ne eq : Bool) → ne ≡ not eq → eq ≡ not ne
from_not ne true h = ap not (sym h)
from_not ne false h = ap not (sym h)

-- the types, given what the test of their heads answered
by_heads : (s t : Tree) (differ : Bool) → differ ≡ not ((equality.ghosts).eq (head_of s) (head_of t)) → same_tree s t ≡ (not differ && pointwise same_tree (children_of s) (children_of t))
by_heads s t differ h =
    let heads : eq_by_cmp ty_head_cmp (head_of s) (head_of t) ≡ not differ =
    sym (derived_eq (head_of s) (head_of t)) ∙ from_not differ ((equality.ghosts).eq (head_of s) (head_of t)) h in
    same_tree-parts s t ∙ ap (λ b. b && pointwise same_tree (children_of s) (children_of t)) heads

pub other_heads : (s t : Tree) (differ : Bool) → differ ≡ not ((equality.ghosts).eq (head_of s) (head_of t)) → differ ≡ true → false ≡ same_tree s t
other_heads s t differ h is = sym (by_heads s t differ h ∙ ap (λ b. not b && pointwise same_tree (children_of s) (children_of t)) is)

pub same_heads : (s t : Tree) (differ : Bool) → differ ≡ not ((equality.ghosts).eq (head_of s) (head_of t)) → differ ≡ false → same_tree s t ≡ pointwise same_tree (children_of s) (children_of t)
same_heads s t differ h is = by_heads s t differ h ∙ ap (λ b. not b && pointwise same_tree (children_of s) (children_of t)) is

pub other_lengths : (s t : Tree) → length (children_of s) ≢ length (children_of t) → false ≡ same_tree s t
other_lengths s t differ =
    let heads : Bool = eq_by_cmp ty_head_cmp (head_of s) (head_of t) in
    sym (same_tree-parts s t ∙ ap (λ b. heads && b) (unequal same_tree (children_of s) (children_of t) differ) ∙ and-false heads)

-- what the tests of an item's parts tell
pub ruleset item_parts = (same_item-parts)

-- what the tests of the parts of an impl's head tell
pub ruleset head_parts = (same_head-parts)
