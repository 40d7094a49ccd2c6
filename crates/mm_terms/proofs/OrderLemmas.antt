-- What one comparison of heads or of lengths tells of the order of two types.
use Rattle.std.proofs.Common.{◌≡◌, ℕ, ◌≤◌, suc, Bool, true, false, List, [], ◌∷◌, length, drop, refl, sym, ap, ◌∙◌, arith}
use Rattle.std.proofs.lemmas.Bool.{false≢true}
use Rattle.std.proofs.lemmas.Bool.Decides.{nat_tests}
use Rattle.std.specs.Cmp.{nat_cmp_is}
use Rattle.std.specs.Cmp.Lexicographic.{slice_cmp}
use Rattle.std.specs.declared.cmp.Ordering.{Ordering}
use Rattle.std.specs.declared.cmp.Ordering.TheVariants.{Less, Equal, Greater}
use Rattle.std.specs.Ordering.{is_ne, nat_cmp, ordering_then}
use Rattle.mm_terms.specs.declared.tree.Tree.{Tree}
use Rattle.mm_terms.specs.contracts.ty_head.TyHeadOrd.TheImpl as order
use Rattle.mm_terms.specs.Tree.{head_of, children_of}
use Rattle.mm_terms.specs.Order.{tree_cmp}
use Rattle.mm_terms.specs.OrderLaws.{tree_cmp-parts}
use Rattle.mm_terms.proofs.HeadLemmas.{derived_cmp}

decided : (a b : Ordering) → is_ne a ≡ true → ordering_then a b ≡ a
decided Less b h = refl
decided Equal b h = absurd (false≢true h)
decided Greater b h = refl

undecided : (a b : Ordering) → is_ne a ≡ false → ordering_then a b ≡ b
undecided Less b h = absurd (false≢true (sym h))
undecided Equal b h = refl
undecided Greater b h = absurd (false≢true (sym h))

module _ (s t : Tree) (by_head : Ordering) (is : by_head ≡ (order.ghosts).cmp (head_of s) (head_of t)) where
  by_parts : tree_cmp s t ≡ ordering_then by_head (slice_cmp tree_cmp (children_of s) (children_of t))
  by_parts = tree_cmp-parts s t ∙ ap (λ o. ordering_then o (slice_cmp tree_cmp (children_of s) (children_of t))) (sym (is ∙ derived_cmp (head_of s) (head_of t)))

  -- heads that differ decide
  pub other_heads : (differ : Bool) → differ ≡ is_ne by_head → differ ≡ true → by_head ≡ tree_cmp s t
  other_heads differ tells h = sym (by_parts ∙ decided by_head (slice_cmp tree_cmp (children_of s) (children_of t)) (sym tells ∙ h))

  -- below equal heads the children decide
  pub same_heads : (differ : Bool) → differ ≡ is_ne by_head → differ ≡ false → tree_cmp s t ≡ slice_cmp tree_cmp (children_of s) (children_of t)
  same_heads differ tells h = by_parts ∙ undecided by_head (slice_cmp tree_cmp (children_of s) (children_of t)) (sym tells ∙ h)

ended : {X : Type 0} (R : X → X → Ordering) (xs ys : List X) → length xs ≤ length ys → slice_cmp R (drop (length xs) xs) (drop (length xs) ys) ≡ nat_cmp (length xs) (length ys)
ended R [] [] h = refl
ended R [] (y ∷ ys) h = nat_cmp_is 0 (suc (length ys)) Less (omega arith)
ended R (x ∷ xs) [] h = absurd (omega arith)
ended R (x ∷ xs) (y ∷ ys) h =
    let below : slice_cmp R (drop (length xs) xs) (drop (length xs) ys) ≡ nat_cmp (length xs) (length ys) = ended R xs ys (omega arith) in
    let next : nat_cmp (length xs) (length ys) ≡ nat_cmp (suc (length xs)) (suc (length ys)) = grind (arith, nat_tests) in
    below ∙ next

-- where the first list has ended, the lengths decide
pub by_lengths : {X : Type 0} (R : X → X → Ordering) (xs ys : List X) (i : ℕ) → i ≡ length xs → i ≤ length ys → slice_cmp R (drop i xs) (drop i ys) ≡ nat_cmp (length xs) (length ys)
by_lengths R xs ys i is within =
    ap (λ k. slice_cmp R (drop k xs) (drop k ys)) is ∙ ended R xs ys (omega arith)
