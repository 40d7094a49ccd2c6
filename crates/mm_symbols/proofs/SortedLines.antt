-- Lists in order.
use Rattle.std.proofs.Common.{◌+◌, ◌<◌, List, [], ◌∷◌, length, map, get_or, Ordering, ◌∙◌, ap, subst, arith}
use Rattle.std.proofs.lemmas.List.{get_or-map, length-map}
use Rattle.std.specs.List.Sorted.{IsSorted}
use Rattle.std.specs.Ordering.{is_lt}

module _ {A B : Type 0} (f : A → B) (cmp : B → B → Ordering) where
  -- a list that is in order by a value has its values in order
  pub IsSorted-map : (xs : List A) → IsSorted (λ x y. cmp (f x) (f y)) xs → IsSorted cmp (map f xs)
  IsSorted-map [] s = λ k d low high. absurd (omega arith)
  IsSorted-map (x ∷ xs) s = λ k d low high.
      let within : k + 1 < length (x ∷ xs) = subst (λ n. k + 1 < n) (length-map (x ∷ xs) f) high in
      ap is_lt (ap (λ y. cmp y (get_or (map f (x ∷ xs)) k d)) (get_or-map f (x ∷ xs) (k + 1) x d within) ∙ ap (cmp (f (get_or (x ∷ xs) (k + 1) x))) (get_or-map f (x ∷ xs) k x d (omega arith))) ∙ s k x low within
