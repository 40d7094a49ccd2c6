-- What the derived comparisons of `TyHead` answer.
use Rattle.std.proofs.Common.{◌≡◌, refl}
use Rattle.std.specs.Cmp.{unsigned_ties}
use Rattle.std.specs.Ordering.{eq_by_cmp}
use Rattle.mm_terms.specs.declared.ty_head.TyHead.{TyHead}
use Rattle.mm_terms.specs.declared.ty_head.TyHead.TheVariants.{Param, U64, Bool as Boolean, Tuple, Ref, Boxed, FnPtr, FnItem, Closure, Dyn, Adt}
use Rattle.mm_terms.specs.contracts.ty_head.TyHeadOrd.TheImpl as order
use Rattle.mm_terms.specs.contracts.ty_head.TyHeadPartialEq.TheImpl as equality
use Rattle.mm_terms.specs.Order.{ty_head_cmp}

pub derived_cmp : (a b : TyHead) → (order.ghosts).cmp a b ≡ ty_head_cmp a b
unfolding ty_head_cmp
derived_cmp (Param j) (Param k) = refl
derived_cmp U64 U64 = refl
derived_cmp Boolean Boolean = refl
derived_cmp Tuple Tuple = refl
derived_cmp Ref Ref = refl
derived_cmp Boxed Boxed = refl
derived_cmp FnPtr FnPtr = refl
derived_cmp (FnItem d) (FnItem e) = refl
derived_cmp (Closure d) (Closure e) = refl
derived_cmp (Dyn d) (Dyn e) = refl
derived_cmp (Adt d) (Adt e) = refl
derived_cmp a b = refl

pub derived_eq : (a b : TyHead) → (equality.ghosts).eq a b ≡ eq_by_cmp ty_head_cmp a b
unfolding ty_head_cmp
derived_eq (Param j) (Param k) = unsigned_ties j k
derived_eq U64 U64 = refl
derived_eq Boolean Boolean = refl
derived_eq Tuple Tuple = refl
derived_eq Ref Ref = refl
derived_eq Boxed Boxed = refl
derived_eq FnPtr FnPtr = refl
derived_eq (FnItem d) (FnItem e) = unsigned_ties d.0 e.0
derived_eq (Closure d) (Closure e) = unsigned_ties d.0 e.0
derived_eq (Dyn d) (Dyn e) = unsigned_ties d.0 e.0
derived_eq (Adt d) (Adt e) = unsigned_ties d.0 e.0
derived_eq a b = refl
