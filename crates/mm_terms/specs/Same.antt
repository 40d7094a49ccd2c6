-- When types and items are the same: a test that computes, and that it is equality.
use Rattle.std.specs.Prelude.{◌≡◌, ◌==◌, ◌&&◌, Bool, true, refl}
use Rattle.std.proofs.Common.{subst, ap, ◌∙◌, sym}
use Rattle.std.specs.Bool.{Decides}
use Rattle.std.specs.Cmp.{IsEquivalence, IsPartialOrder, IsTotalOrder, eq_by_cmp_equiv, partial_order_from_total, tied_itself, tied_then, unsigned_tied, Equal-is}
use Rattle.std.specs.Cmp.Lexicographic.{pointwise, slice_cmp, lists_ties}
use Rattle.std.specs.declared.cmp.Ordering.{Ordering}
use Rattle.std.specs.declared.cmp.Ordering.TheVariants.{Equal}
use Rattle.std.specs.Ordering.{as_partial_cmp, eq_by_cmp, is_eq, nat_cmp, ordering_then}
use Rattle.mm_terms.specs.declared.tree.Tree.{Tree}
use Rattle.mm_terms.specs.declared.head.Head.{Head}
use Rattle.mm_terms.specs.declared.item.Item.{Item}
use Rattle.mm_terms.specs.Tree.{head_of, children_of}
use Rattle.mm_terms.specs.Order.{ty_head_cmp, tree_cmp, item_cmp, head_cmp, kind_of, id_of, types_of}
use Rattle.mm_terms.specs.OrderLaws.{tree_cmp-parts, tree_cmp_total, tree_cmp_equal, item_cmp_total, item_cmp_equal, head_cmp_total, head_cmp_equal}

-- neither type is before the other
unfoldable pub same_tree : Tree → Tree → Bool
same_tree = eq_by_cmp tree_cmp

-- neither item is before the other
unfoldable pub same_item : Item → Item → Bool
same_item = eq_by_cmp item_cmp

-- neither head of an impl is before the other
unfoldable pub same_head : Head → Head → Bool
same_head = eq_by_cmp head_cmp

-- ---- laws

decides : {X : Type 0} (R : X → X → Ordering) → IsTotalOrder R → ((x y : X) → R x y ≡ Equal → x ≡ y) → (x y : X) → Decides (eq_by_cmp R x y) (x ≡ y)
decides R total equal x y =
    (λ h. equal x y ((Equal-is (R x y)).0 h), λ e. subst (λ z. eq_by_cmp R x z ≡ true) e (ap is_eq (tied_itself total x)))

-- the test of types is equality
pub types_equal : (s t : Tree) → Decides (same_tree s t) (s ≡ t)
unfolding same_tree
types_equal = decides tree_cmp tree_cmp_total tree_cmp_equal

-- the test of items is equality
pub items_equal : (x y : Item) → Decides (same_item x y) (x ≡ y)
unfolding same_item
items_equal = decides item_cmp item_cmp_total item_cmp_equal

-- the test of heads of impls is equality
pub heads_equal : (a b : Head) → Decides (same_head a b) (a ≡ b)
unfolding same_head
heads_equal = decides head_cmp head_cmp_total head_cmp_equal

-- what the traits of std ask of `==`, `partial_cmp` and `cmp` together
pub same_tree_equiv : IsEquivalence same_tree
unfolding same_tree
same_tree_equiv = eq_by_cmp_equiv tree_cmp_total

pub same_tree_order : IsPartialOrder same_tree (as_partial_cmp tree_cmp)
unfolding same_tree
same_tree_order = partial_order_from_total tree_cmp_total

pub same_tree-cmp : (s t : Tree) → same_tree s t ≡ eq_by_cmp tree_cmp s t
unfolding same_tree
same_tree-cmp s t = refl

pub same_item_equiv : IsEquivalence same_item
unfolding same_item
same_item_equiv = eq_by_cmp_equiv item_cmp_total

pub same_item_order : IsPartialOrder same_item (as_partial_cmp item_cmp)
unfolding same_item
same_item_order = partial_order_from_total item_cmp_total

pub same_item-cmp : (x y : Item) → same_item x y ≡ eq_by_cmp item_cmp x y
unfolding same_item
same_item-cmp x y = refl

pub same_head_equiv : IsEquivalence same_head
unfolding same_head
same_head_equiv = eq_by_cmp_equiv head_cmp_total

pub same_head_order : IsPartialOrder same_head (as_partial_cmp head_cmp)
unfolding same_head
same_head_order = partial_order_from_total head_cmp_total

pub same_head-cmp : (a b : Head) → same_head a b ≡ eq_by_cmp head_cmp a b
unfolding same_head
same_head-cmp a b = refl

-- types are the same where their heads are, and their children are, one by one
pub same_tree-parts : (s t : Tree) → same_tree s t ≡ (eq_by_cmp ty_head_cmp (head_of s) (head_of t) && pointwise same_tree (children_of s) (children_of t))
unfolding same_tree
same_tree-parts s t =
    let heads : Ordering = ty_head_cmp (head_of s) (head_of t) in
    let children : Ordering = slice_cmp tree_cmp (children_of s) (children_of t) in
    ap is_eq (tree_cmp-parts s t)
    ∙ sym (tied_then heads children)
    ∙ ap (λ b. is_eq heads && b) (sym (lists_ties tree_cmp (λ _ _. refl) (children_of s) (children_of t)))

-- items are the same where their variants, their ids and their types are
pub same_item-parts : (x y : Item) → same_item x y ≡ ((kind_of x == kind_of y) && ((id_of x == id_of y) && pointwise same_tree (types_of x) (types_of y)))
unfolding same_item same_tree item_cmp
same_item-parts x y =
    let ids : Ordering = nat_cmp (id_of x) (id_of y) in
    let types : Ordering = slice_cmp tree_cmp (types_of x) (types_of y) in
    let below : is_eq (ordering_then ids types) ≡ ((id_of x == id_of y) && pointwise same_tree (types_of x) (types_of y)) =
    sym (tied_then ids types) ∙ (λ i. unsigned_tied (id_of x) (id_of y) i && sym (lists_ties tree_cmp (λ _ _. refl) (types_of x) (types_of y)) i) in
    sym (tied_then (nat_cmp (kind_of x) (kind_of y)) (ordering_then ids types))
    ∙ (λ i. unsigned_tied (kind_of x) (kind_of y) i && below i)

-- heads of impls are the same where their traits and their types are
pub same_head-parts : (a b : Head) → same_head a b ≡ ((a.tr.0 == b.tr.0) && pointwise same_tree a.args b.args)
unfolding same_head same_tree head_cmp
same_head-parts a b =
    sym (tied_then (nat_cmp a.tr.0 b.tr.0) (slice_cmp tree_cmp a.args b.args))
    ∙ (λ i. unsigned_tied a.tr.0 b.tr.0 i && sym (lists_ties tree_cmp (λ _ _. refl) a.args b.args) i)
