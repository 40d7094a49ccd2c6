-- The orders of heads, types and items are total, and tell apart all that differ.
use Rattle.std.specs.Prelude.{◌≡◌, ℕ, ◌+◌, ◌≤◌, List, [], ◌∷◌, map, sum, refl}
use Rattle.std.proofs.Common.{zero, suc, sym, ap, ◌∙◌, arith}
use Rattle.std.proofs.lemmas.List.Sums.{sum_by-cons}
use Rattle.std.specs.Cmp.{IsTotalOrder, then_total, on_total, nat_cmp_total, ranked}
use Rattle.std.specs.Cmp.Lexicographic.{slice_cmp, lists_total}
use Rattle.std.specs.declared.cmp.Ordering.{Ordering}
use Rattle.std.specs.declared.cmp.Ordering.TheVariants.{Less, Equal, Greater}
use Rattle.std.specs.Ordering.{nat_cmp, on, then_cmp, ordering_then, ordering_reverse}
use Rattle.mm_terms.specs.declared.ids.DefId.{DefId}
use Rattle.mm_terms.specs.declared.ty_head.TyHead.{TyHead}
use Rattle.mm_terms.specs.declared.ty_head.TyHead.TheVariants.{Param, U64, Bool, Tuple, Ref, Boxed, FnPtr, FnItem, Closure, Dyn, Adt}
use Rattle.mm_terms.specs.declared.tree.Tree.{Tree}
use Rattle.mm_terms.specs.declared.head.Head.{Head}
use Rattle.mm_terms.specs.declared.item.Item.{Item}
use Rattle.mm_terms.specs.declared.item.Item.TheVariants.{Fn, Glue, Shim, Static}
use Rattle.mm_terms.specs.Tree.{head_of, children_of, node, node-parts, tree_fold-parts}
use Rattle.mm_terms.specs.Length.{length_of, lengths_of, length_of-parts}
use Rattle.mm_terms.specs.Order.{ty_head_cmp, tree_cmp, item_cmp, head_cmp, variant_of, number_of, kind_of, id_of, types_of}

-- ---- the equation of `tree_cmp`

slice_cmp-applied : {A B : Type 0} (R : A → B → Ordering) (xs : List A) (ys : List B) → slice_cmp (λ (compare : B → Ordering) (y : B). compare y) (map R xs) ys ≡ slice_cmp R xs ys
slice_cmp-applied R [] [] = refl
slice_cmp-applied R [] (y ∷ ys) = refl
slice_cmp-applied R (x ∷ xs) [] = refl
slice_cmp-applied R (x ∷ xs) (y ∷ ys) = ap (ordering_then (R x y)) (slice_cmp-applied R xs ys)

-- two types compare as their heads do, and under equal heads as their children do
pub tree_cmp-parts : (s t : Tree) → tree_cmp s t ≡ ordering_then (ty_head_cmp (head_of s) (head_of t)) (slice_cmp tree_cmp (children_of s) (children_of t))
unfolding tree_cmp
tree_cmp-parts s t =
    ap (λ (compare : Tree → Ordering). compare t) (tree_fold-parts (λ head comparisons other. ordering_then (ty_head_cmp head (head_of other)) (slice_cmp (λ compare child. compare child) comparisons (children_of other))) s)
    ∙ ap (ordering_then (ty_head_cmp (head_of s) (head_of t))) (slice_cmp-applied tree_cmp (children_of s) (children_of t))

-- ---- the orders are total

pub ty_head_cmp_total : IsTotalOrder ty_head_cmp
unfolding ty_head_cmp
ty_head_cmp_total = then_total (on_total variant_of nat_cmp_total) (on_total number_of nat_cmp_total)

-- the order of types that looks only so deep, and finds all below equal
cmp_within : ℕ → Tree → Tree → Ordering
cmp_within zero = λ _ _. Equal
cmp_within (suc n) = then_cmp (on head_of ty_head_cmp) (on children_of (slice_cmp (cmp_within n)))

cmp_within_total : (n : ℕ) → IsTotalOrder (cmp_within n)
unfolding cmp_within
cmp_within_total zero = record { antisymm = λ _ _. refl; trans = λ _ _ _ p _. p; congr = λ _ _ _ _. refl }
cmp_within_total (suc n) = then_total (on_total head_of ty_head_cmp_total) (on_total children_of (lists_total (cmp_within_total n)))

cmp_within-lists : (n : ℕ) → ((s t : Tree) → length_of s ≤ n → cmp_within n s t ≡ tree_cmp s t) → (ss ts : List Tree) → lengths_of ss ≤ n → slice_cmp (cmp_within n) ss ts ≡ slice_cmp tree_cmp ss ts
cmp_within-lists n one [] [] h = refl
cmp_within-lists n one [] (t ∷ ts) h = refl
cmp_within-lists n one (s ∷ ss) [] h = refl
cmp_within-lists n one (s ∷ ss) (t ∷ ts) h =
    let sums = sum_by-cons (λ k. k) (length_of s) (map length_of ss) in
    ap (λ o. ordering_then o (slice_cmp (cmp_within n) ss ts)) (one s t (omega arith))
    ∙ ap (ordering_then (tree_cmp s t)) (cmp_within-lists n one ss ts (omega arith))

-- deep enough, it is the order of types
cmp_within-is : (n : ℕ) (s t : Tree) → length_of s ≤ n → cmp_within n s t ≡ tree_cmp s t
unfolding cmp_within
cmp_within-is zero s t h = absurd (let parts = length_of-parts s in omega arith)
cmp_within-is (suc n) s t h =
    let parts = length_of-parts s in
    ap (ordering_then (ty_head_cmp (head_of s) (head_of t))) (cmp_within-lists n (cmp_within-is n) (children_of s) (children_of t) (omega arith))
    ∙ sym (tree_cmp-parts s t)

-- any three types are compared within some depth, where the order is total
pub tree_cmp_total : IsTotalOrder tree_cmp
tree_cmp_total = record {
  antisymm = λ s t.
      let n : ℕ = length_of s + length_of t in
      sym (cmp_within-is n s t (omega arith)) ∙ (cmp_within_total n).antisymm s t ∙ ap ordering_reverse (cmp_within-is n t s (omega arith));
  trans = λ s t u before after.
      let n : ℕ = length_of s + length_of t + length_of u in
      sym (cmp_within-is n s u (omega arith))
      ∙ (cmp_within_total n).trans s t u (cmp_within-is n s t (omega arith) ∙ before) (cmp_within-is n t u (omega arith) ∙ after);
  congr = λ s t u equal.
      let n : ℕ = length_of s + length_of t + length_of u in
      sym (cmp_within-is n s u (omega arith))
      ∙ (cmp_within_total n).congr s t u (cmp_within-is n s t (omega arith) ∙ equal)
      ∙ cmp_within-is n t u (omega arith);
}

pub item_cmp_total : IsTotalOrder item_cmp
unfolding item_cmp
item_cmp_total =
    then_total (on_total kind_of nat_cmp_total) (then_total (on_total id_of nat_cmp_total) (on_total types_of (lists_total tree_cmp_total)))

pub head_cmp_total : IsTotalOrder head_cmp
unfolding head_cmp
head_cmp_total = then_total (on_total (λ h. h.tr.0) nat_cmp_total) (on_total (λ h. h.args) (lists_total tree_cmp_total))

-- ---- what compares equal is one

-- both parts of a comparison that answers `Equal`
both_equal : (a b : Ordering) → ordering_then a b ≡ Equal → (a ≡ Equal) × (b ≡ Equal)
both_equal Less b h = cc
both_equal Equal b h = (refl, h)
both_equal Greater b h = cc

nat_cmp_equal : (m n : ℕ) → nat_cmp m n ≡ Equal → m ≡ n
nat_cmp_equal m n h = ranked m n Equal (sym h)

def_id : ℕ → DefId
def_id k = record { 0 = k }

-- the head of a variant and a number
head_from : ℕ → ℕ → TyHead
head_from zero k = Param k
head_from (suc zero) k = U64
head_from (suc (suc zero)) k = Bool
head_from (suc (suc (suc zero))) k = Tuple
head_from (suc (suc (suc (suc zero)))) k = Ref
head_from (suc (suc (suc (suc (suc zero))))) k = Boxed
head_from (suc (suc (suc (suc (suc (suc zero)))))) k = FnPtr
head_from (suc (suc (suc (suc (suc (suc (suc zero))))))) k = FnItem (def_id k)
head_from (suc (suc (suc (suc (suc (suc (suc (suc zero)))))))) k = Closure (def_id k)
head_from (suc (suc (suc (suc (suc (suc (suc (suc (suc zero))))))))) k = Dyn (def_id k)
head_from (suc (suc (suc (suc (suc (suc (suc (suc (suc (suc n)))))))))) k = Adt (def_id k)

head_from-parts : (h : TyHead) → head_from (variant_of h) (number_of h) ≡ h
unfolding head_from def_id
head_from-parts (Param k) = refl
head_from-parts U64 = refl
head_from-parts Bool = refl
head_from-parts Tuple = refl
head_from-parts Ref = refl
head_from-parts Boxed = refl
head_from-parts FnPtr = refl
head_from-parts (FnItem d) = refl
head_from-parts (Closure d) = refl
head_from-parts (Dyn d) = refl
head_from-parts (Adt d) = refl

-- heads that compare equal are one
pub ty_head_cmp_equal : (a b : TyHead) → ty_head_cmp a b ≡ Equal → a ≡ b
unfolding ty_head_cmp
ty_head_cmp_equal a b h =
    let parts = both_equal (nat_cmp (variant_of a) (variant_of b)) (nat_cmp (number_of a) (number_of b)) h in
    sym (head_from-parts a)
    ∙ (λ i. head_from (nat_cmp_equal (variant_of a) (variant_of b) parts.0 i) (nat_cmp_equal (number_of a) (number_of b) parts.1 i))
    ∙ head_from-parts b

lists_equal : {X : Type 0} (R : X → X → Ordering) (size : X → ℕ) (n : ℕ) → ((x y : X) → size x ≤ n → R x y ≡ Equal → x ≡ y) → (xs ys : List X) → sum (map size xs) ≤ n → slice_cmp R xs ys ≡ Equal → xs ≡ ys
lists_equal R size n one [] [] small h = refl
lists_equal R size n one [] (y ∷ ys) small h = cc
lists_equal R size n one (x ∷ xs) [] small h = cc
lists_equal R size n one (x ∷ xs) (y ∷ ys) small h =
    let sums = sum_by-cons (λ k. k) (size x) (map size xs) in
    let parts = both_equal (R x y) (slice_cmp R xs ys) h in
    let heads : x ≡ y = one x y (omega arith) parts.0 in
    let tails : xs ≡ ys = lists_equal R size n one xs ys (omega arith) parts.1 in
    λ i. heads i ∷ tails i

equal_within : (n : ℕ) (s t : Tree) → length_of s ≤ n → tree_cmp s t ≡ Equal → s ≡ t
equal_within zero s t small h = absurd (let parts = length_of-parts s in omega arith)
equal_within (suc n) s t small h =
    let parts = length_of-parts s in
    let both = both_equal (ty_head_cmp (head_of s) (head_of t)) (slice_cmp tree_cmp (children_of s) (children_of t)) (sym (tree_cmp-parts s t) ∙ h) in
    let heads : head_of s ≡ head_of t = ty_head_cmp_equal (head_of s) (head_of t) both.0 in
    let children : children_of s ≡ children_of t = lists_equal tree_cmp length_of n (equal_within n) (children_of s) (children_of t) (omega arith) both.1 in
    sym (node-parts s) ∙ (λ i. node (heads i) (children i)) ∙ node-parts t

-- types that compare equal are one
pub tree_cmp_equal : (s t : Tree) → tree_cmp s t ≡ Equal → s ≡ t
tree_cmp_equal s t = equal_within (length_of s) s t (omega arith)

type_lists_equal : (ss ts : List Tree) → slice_cmp tree_cmp ss ts ≡ Equal → ss ≡ ts
type_lists_equal ss ts = lists_equal tree_cmp (λ _. 0) (sum (map (λ _. 0) ss)) (λ s t _. tree_cmp_equal s t) ss ts (omega arith)

-- the item of a kind, an id and types
item_from : ℕ → ℕ → List Tree → Item
item_from zero k ts = Fn (def_id k) ts
item_from (suc zero) k [] = Static (def_id k)
item_from (suc zero) k (t ∷ ts) = Glue t
item_from (suc (suc zero)) k [] = Static (def_id k)
item_from (suc (suc zero)) k (t ∷ ts) = Shim t
item_from (suc (suc (suc n))) k ts = Static (def_id k)

item_from-parts : (x : Item) → item_from (kind_of x) (id_of x) (types_of x) ≡ x
unfolding item_from def_id
item_from-parts (Fn f args) = refl
item_from-parts (Glue t) = refl
item_from-parts (Shim t) = refl
item_from-parts (Static d) = refl

-- items that compare equal are one
pub item_cmp_equal : (x y : Item) → item_cmp x y ≡ Equal → x ≡ y
unfolding item_cmp
item_cmp_equal x y h =
    let first = both_equal (nat_cmp (kind_of x) (kind_of y)) (ordering_then (nat_cmp (id_of x) (id_of y)) (slice_cmp tree_cmp (types_of x) (types_of y))) h in
    let rest = both_equal (nat_cmp (id_of x) (id_of y)) (slice_cmp tree_cmp (types_of x) (types_of y)) first.1 in
    let kinds = nat_cmp_equal (kind_of x) (kind_of y) first.0 in
    let ids = nat_cmp_equal (id_of x) (id_of y) rest.0 in
    let types = type_lists_equal (types_of x) (types_of y) rest.1 in
    sym (item_from-parts x) ∙ (λ i. item_from (kinds i) (ids i) (types i)) ∙ item_from-parts y

-- heads of impls that compare equal are one
pub head_cmp_equal : (a b : Head) → head_cmp a b ≡ Equal → a ≡ b
unfolding head_cmp
head_cmp_equal a b h =
    let parts = both_equal (nat_cmp a.tr.0 b.tr.0) (slice_cmp tree_cmp a.args b.args) h in
    let traits = nat_cmp_equal a.tr.0 b.tr.0 parts.0 in
    let types = type_lists_equal a.args b.args parts.1 in
    λ i. record { tr = record { 0 = traits i }; args = types i }
