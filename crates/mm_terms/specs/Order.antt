-- The order of types and of items.
use Rattle.std.specs.Prelude.{ℕ, List, [], ◌∷◌}
use Rattle.std.specs.Cmp.Lexicographic.{slice_cmp}
use Rattle.std.specs.declared.cmp.Ordering.{Ordering}
use Rattle.std.specs.Ordering.{nat_cmp, on, then_cmp, ordering_then}
use Rattle.mm_terms.specs.declared.ty_head.TyHead.{TyHead}
use Rattle.mm_terms.specs.declared.ty_head.TyHead.TheVariants.{Param, U64, Bool, Tuple, Ref, Boxed, FnPtr, FnItem, Closure, Dyn, Adt}
use Rattle.mm_terms.specs.declared.tree.Tree.{Tree}
use Rattle.mm_terms.specs.declared.head.Head.{Head}
use Rattle.mm_terms.specs.declared.item.Item.{Item}
use Rattle.mm_terms.specs.declared.item.Item.TheVariants.{Fn, Glue, Shim, Static}
use Rattle.mm_terms.specs.Tree.{tree_fold, head_of, children_of}

-- the place of a head's variant among the variants
abbrev pub variant_of : TyHead → ℕ
variant_of (Param k) = 0
variant_of U64 = 1
variant_of Bool = 2
variant_of Tuple = 3
variant_of Ref = 4
variant_of Boxed = 5
variant_of FnPtr = 6
variant_of (FnItem d) = 7
variant_of (Closure d) = 8
variant_of (Dyn d) = 9
variant_of (Adt d) = 10

-- the number that a head has beside its variant: a parameter's place, or the id of a definition
abbrev pub number_of : TyHead → ℕ
number_of (Param k) = k
number_of U64 = 0
number_of Bool = 0
number_of Tuple = 0
number_of Ref = 0
number_of Boxed = 0
number_of FnPtr = 0
number_of (FnItem d) = d.0
number_of (Closure d) = d.0
number_of (Dyn d) = d.0
number_of (Adt d) = d.0

-- heads by their variants, and then by their numbers
unfoldable pub ty_head_cmp : TyHead → TyHead → Ordering
ty_head_cmp = then_cmp (on variant_of nat_cmp) (on number_of nat_cmp)

-- types by their heads, and then by their children: child by child, and a list that ends first is less
unfoldable pub tree_cmp : Tree → Tree → Ordering
tree_cmp = tree_fold (λ head comparisons other. ordering_then (ty_head_cmp head (head_of other)) (slice_cmp (λ compare child. compare child) comparisons (children_of other)))

-- the place of an item's variant among the variants
abbrev pub kind_of : Item → ℕ
kind_of (Fn f args) = 0
kind_of (Glue t) = 1
kind_of (Shim t) = 2
kind_of (Static d) = 3

-- the id of the definition that an item has
abbrev pub id_of : Item → ℕ
id_of (Fn f args) = f.0
id_of (Glue t) = 0
id_of (Shim t) = 0
id_of (Static d) = d.0

-- the types that an item has
abbrev pub types_of : Item → List Tree
types_of (Fn f args) = args
types_of (Glue t) = t ∷ []
types_of (Shim t) = t ∷ []
types_of (Static d) = []

-- items by their variants, then by their ids, and then by their types, as lists
unfoldable pub item_cmp : Item → Item → Ordering
item_cmp = then_cmp (on kind_of nat_cmp) (then_cmp (on id_of nat_cmp) (on types_of (slice_cmp tree_cmp)))

-- heads of impls by their traits, and then by their types, as lists
unfoldable pub head_cmp : Head → Head → Ordering
head_cmp = then_cmp (on (λ h. h.tr.0) nat_cmp) (on (λ h. h.args) (slice_cmp tree_cmp))
