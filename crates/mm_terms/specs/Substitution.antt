-- Substitution: types put in place of the parameters of a type.
use Rattle.std.specs.Prelude.{◌≡◌, ◌≢◌, ◌⊎◌, ℕ, ◌<◌, ◌≤◌, List, [], ◌∷◌, ◌++◌, length, map, get_or, flat_map, All}
use Rattle.std.proofs.Common.{◌∙◌, refl, sym, ap, arith, inl, inr, ⊎_elim, subst as cast}
use Rattle.std.proofs.lemmas.List.{get_or_default, get_or-map, length-map}
use Rattle.std.proofs.lemmas.List.Elements.{All-nil, All-cons, All-head, All-tail, All-append, All-same, All-map, All-get_or, All-weaker}
use Rattle.std.proofs.lemmas.List.Folds.{flat_map-map}
use Rattle.mm_terms.specs.declared.ty_head.TyHead.{TyHead}
use Rattle.mm_terms.specs.declared.ty_head.TyHead.TheVariants.{Param}
use Rattle.mm_terms.specs.declared.tree.Tree.{Tree}
use Rattle.mm_terms.specs.Formed.{FitsHead, IsFormed, IsFormed-head, IsFormed-children, IsFormed-node}
use Rattle.mm_terms.specs.Lists.{All-apart}
use Rattle.mm_terms.specs.Tree.{node, head_of, children_of, tree_fold, tree_fold-node, tree_fold-parts, tree_ind, node-parts, head_of-node, children_of-node}

-- what stands in place of a head, over children that are substituted: its argument where it is a parameter, and else the head itself. A parameter past the arguments stays too
abbrev pub put : List Tree → TyHead → List Tree → Tree
put args (Param i) children = get_or args i (node (Param i) children)
put args head children = node head children

-- substitution: the i-th argument in place of each parameter i, and all else kept
unfoldable pub subst : List Tree → Tree → Tree
subst args = tree_fold (put args)

-- the same in several types
abbrev pub subst_all : List Tree → List Tree → List Tree
subst_all args = map (subst args)

-- the parameter that a head is, if it is one
abbrev pub param_of : TyHead → List ℕ
param_of (Param i) = i ∷ []
param_of head = []

-- the parameters in a type from the left, repeats kept
unfoldable pub params_of : Tree → List ℕ
params_of = tree_fold (λ head params. param_of head ++ flat_map (λ is. is) params)

-- every parameter in the type is below n
abbrev pub ParamsBelow : ℕ → Tree → Type 0
ParamsBelow n t = All (λ i. i < n) (params_of t)

-- a type without parameters
abbrev pub HasNoParam : Tree → Type 0
HasNoParam t = params_of t ≡ []

-- ---- the equations of `subst`

pub subst-parts : (args : List Tree) (t : Tree) → subst args t ≡ put args (head_of t) (subst_all args (children_of t))
unfolding subst
subst-parts args t = tree_fold-parts (put args) t

-- a parameter gives way to its argument
pub subst-param : (args : List Tree) (i : ℕ) (children : List Tree) (d : Tree) → i < length args → subst args (node (Param i) children) ≡ get_or args i d
unfolding subst
subst-param args i children d within =
    tree_fold-node (put args) (Param i) children ∙ get_or_default args i (node (Param i) (map (tree_fold (put args)) children)) d within

put-node : (args : List Tree) (head : TyHead) (children : List Tree) → ((i : ℕ) → head ≢ Param i) → put args head children ≡ node head children
put-node args (Param i) children other = absurd (other i refl)
put-node args head children other = refl

-- each other head stays, over its children substituted
pub subst-node : (args : List Tree) (head : TyHead) (children : List Tree) → ((i : ℕ) → head ≢ Param i) → subst args (node head children) ≡ node head (subst_all args children)
unfolding subst
subst-node args head children other =
    tree_fold-node (put args) head children ∙ put-node args head (map (tree_fold (put args)) children) other

-- a head is a parameter or it is none
pub param_or_not : (head : TyHead) → ((i : ℕ) × (head ≡ Param i)) ⊎ ((i : ℕ) → head ≢ Param i)
param_or_not (Param i) = inl (i, refl)
param_or_not head = inr (λ i is. (cc))

-- ---- the parameters of a type, by its parts

pub params_of-node : (head : TyHead) (children : List Tree) → params_of (node head children) ≡ param_of head ++ flat_map params_of children
unfolding params_of
params_of-node head children =
    tree_fold-node (λ head params. param_of head ++ flat_map (λ is. is) params) head children
    ∙ ap (λ is. param_of head ++ is) (flat_map-map (λ is. is) params_of children)

pub params_of-parts : (t : Tree) → params_of t ≡ param_of (head_of t) ++ flat_map params_of (children_of t)
params_of-parts t = ap params_of (sym (node-parts t)) ∙ params_of-node (head_of t) (children_of t)

each_apart : (P : ℕ → Type 0) (ts : List Tree) → All P (flat_map params_of ts) → All (λ t. All P (params_of t)) ts
each_apart P [] all = All-nil (λ t. All P (params_of t))
each_apart P (t ∷ ts) all =
    let parts = All-apart P (params_of t) (flat_map params_of ts) all in
    All-cons (λ t. All P (params_of t)) t ts parts.0 (each_apart P ts parts.1)

together : (P : ℕ → Type 0) (ts : List Tree) → All (λ t. All P (params_of t)) ts → All P (flat_map params_of ts)
together P [] each = All-nil P
together P (t ∷ ts) each =
    All-append P (params_of t) (flat_map params_of ts)
    (All-head (λ t. All P (params_of t)) t ts each)
    (together P ts (All-tail (λ t. All P (params_of t)) t ts each))

parts_below : (n : ℕ) (t : Tree) → ParamsBelow n t → All (λ i. i < n) (param_of (head_of t)) × All (λ i. i < n) (flat_map params_of (children_of t))
parts_below n t below =
    All-apart (λ i. i < n) (param_of (head_of t)) (flat_map params_of (children_of t))
    (All-same (λ i. i < n) (param_of (head_of t) ++ flat_map params_of (children_of t)) (params_of t) (sym (params_of-parts t)) below)

-- a parameter among them is below n
pub ParamsBelow-param : (n : ℕ) (t : Tree) (i : ℕ) → head_of t ≡ Param i → ParamsBelow n t → i < n
ParamsBelow-param n t i is below =
    All-head (λ i. i < n) i [] (All-same (λ i. i < n) (i ∷ []) (param_of (head_of t)) (sym (ap param_of is)) (parts_below n t below).0)

-- those of each child are below n
pub ParamsBelow-children : (n : ℕ) (t : Tree) → ParamsBelow n t → All (ParamsBelow n) (children_of t)
ParamsBelow-children n t below = each_apart (λ i. i < n) (children_of t) (parts_below n t below).1

-- where the head and each child have theirs below n, so has the type
pub ParamsBelow-node : (n : ℕ) (head : TyHead) (children : List Tree) → All (λ i. i < n) (param_of head) → All (ParamsBelow n) children → ParamsBelow n (node head children)
ParamsBelow-node n head children own each =
    All-same (λ i. i < n) (params_of (node head children)) (param_of head ++ flat_map params_of children) (params_of-node head children)
    (All-append (λ i. i < n) (param_of head) (flat_map params_of children) own (together (λ i. i < n) children each))

-- a type without parameters has all of them below any n
pub ParamsBelow-none : (n : ℕ) (t : Tree) → HasNoParam t → ParamsBelow n t
ParamsBelow-none n t none = All-same (λ i. i < n) (params_of t) [] none (All-nil (λ i. i < n))

none_below : (is : List ℕ) → All (λ i. i < 0) is → is ≡ []
none_below [] below = refl
none_below (i ∷ is) below = absurd (let first = All-head (λ i. i < 0) i is below in omega arith)

-- no parameter is below 0
pub HasNoParam-below : (t : Tree) → ParamsBelow 0 t → HasNoParam t
HasNoParam-below t below = none_below (params_of t) below

-- ---- laws of `subst`

map_keeps : (f : Tree → Tree) (ts : List Tree) → All (λ t. f t ≡ t) ts → map f ts ≡ ts
map_keeps f [] each = refl
map_keeps f (t ∷ ts) each =
    let first = All-head (λ t. f t ≡ t) t ts each in
    let others = map_keeps f ts (All-tail (λ t. f t ≡ t) t ts each) in
    λ i. first i ∷ others i

map_agree : (f g h : Tree → Tree) (ts : List Tree) → All (λ t. f (g t) ≡ h t) ts → map f (map g ts) ≡ map h ts
map_agree f g h [] each = refl
map_agree f g h (t ∷ ts) each =
    let first = All-head (λ t. f (g t) ≡ h t) t ts each in
    let others = map_agree f g h ts (All-tail (λ t. f (g t) ≡ h t) t ts each) in
    λ i. first i ∷ others i

below_children : (n : ℕ) (head : TyHead) (children : List Tree) → ParamsBelow n (node head children) → All (ParamsBelow n) children
below_children n head children below =
    All-same (ParamsBelow n) children (children_of (node head children)) (sym (children_of-node head children)) (ParamsBelow-children n (node head children) below)

below_head : (n : ℕ) (head : TyHead) (children : List Tree) (i : ℕ) → head ≡ Param i → ParamsBelow n (node head children) → i < n
below_head n head children i is = ParamsBelow-param n (node head children) i (head_of-node head children ∙ is)

-- a type without parameters stays as it is
pub subst-no_param : (args : List Tree) (t : Tree) → HasNoParam t → subst args t ≡ t
subst-no_param args t none =
    tree_ind (λ t. ParamsBelow 0 t → subst args t ≡ t)
    (λ head children each below.
    subst-node args head children (λ i is. absurd (let under = below_head 0 head children i is below in omega arith))
    ∙ ap (node head) (map_keeps (subst args) children (λ k d within. each k d within (below_children 0 head children below k d within))))
    t (ParamsBelow-none 0 t none)

module _ (outer args : List Tree) where
  Composes : Tree → Type 0
  Composes t = subst outer (subst args t) ≡ subst (subst_all outer args) t

  composes_param : (head : TyHead) (children : List Tree) (i : ℕ) → head ≡ Param i → i < length args → Composes (node head children)
  unfolding Composes
  composes_param head children i is within =
      let t : Tree = node head children in
      let inner : subst args t ≡ get_or args i t = ap (λ h. subst args (node h children)) is ∙ subst-param args i children t within in
      let many : i < length (subst_all outer args) = omega (arith, length-map args (subst outer)) in
      let whole : subst (subst_all outer args) t ≡ get_or (subst_all outer args) i t =
      ap (λ h. subst (subst_all outer args) (node h children)) is ∙ subst-param (subst_all outer args) i children t many in
      ap (subst outer) inner ∙ sym (get_or-map (subst outer) args i t t within) ∙ sym whole

  composes_node : (head : TyHead) (children : List Tree) → ((i : ℕ) → head ≢ Param i) → All Composes children → Composes (node head children)
  unfolding Composes
  composes_node head children other each =
      ap (subst outer) (subst-node args head children other)
      ∙ subst-node outer head (subst_all args children) other
      ∙ ap (node head) (map_agree (subst outer) (subst args) (subst (subst_all outer args)) children each)
      ∙ sym (subst-node (subst_all outer args) head children other)

  -- one substitution after another is one, whose arguments are those of the first with the second applied
  pub subst-subst : (t : Tree) → ParamsBelow (length args) t → subst outer (subst args t) ≡ subst (subst_all outer args) t
  unfolding Composes
  subst-subst =
      tree_ind (λ t. ParamsBelow (length args) t → Composes t)
      (λ head children each below.
      ⊎_elim
      (λ param. composes_param head children param.0 param.1 (below_head (length args) head children param.0 param.1 below))
      (λ other. composes_node head children other (λ k d within. each k d within (below_children (length args) head children below k d within)))
      (param_or_not head))

below_all : (n : ℕ) (args ts : List Tree) → All (λ t. ParamsBelow n (subst args t)) ts → All (ParamsBelow n) (subst_all args ts)
below_all n args ts each = All-map (ParamsBelow n) (subst args) ts each

none_own : (n : ℕ) (head : TyHead) → ((i : ℕ) → head ≢ Param i) → All (λ i. i < n) (param_of head)
none_own n (Param i) other = absurd (other i refl)
none_own n head other = All-nil (λ i. i < n)

-- arguments whose parameters are below n leave no others
pub subst-below : (n : ℕ) (args : List Tree) → All (ParamsBelow n) args → (t : Tree) → ParamsBelow (length args) t → ParamsBelow n (subst args t)
subst-below n args each_arg =
    tree_ind (λ t. ParamsBelow (length args) t → ParamsBelow n (subst args t))
    (λ head children each below.
    let t : Tree = node head children in
    ⊎_elim
    (λ param.
    let within = below_head (length args) head children param.0 param.1 below in
    let is : subst args t ≡ get_or args param.0 t = ap (λ h. subst args (node h children)) param.1 ∙ subst-param args param.0 children t within in
    cast (ParamsBelow n) (sym is) (All-get_or (ParamsBelow n) args param.0 t within each_arg))
    (λ other.
    cast (ParamsBelow n) (sym (subst-node args head children other))
    (ParamsBelow-node n head (subst_all args children) (none_own n head other)
    (below_all n args children (λ k d within. each k d within (below_children (length args) head children below k d within)))))
    (param_or_not head))

-- arguments without parameters leave none
pub subst-leaves_none : (args : List Tree) (t : Tree) → All HasNoParam args → ParamsBelow (length args) t → HasNoParam (subst args t)
subst-leaves_none args t none below =
    HasNoParam-below (subst args t) (subst-below 0 args (λ k d within. ParamsBelow-none 0 (get_or args k d) (none k d within)) t below)

-- what is below a bound is below a greater one
pub ParamsBelow-weaker : (n m : ℕ) (t : Tree) → n ≤ m → ParamsBelow n t → ParamsBelow m t
ParamsBelow-weaker n m t le below = All-weaker (λ i. i < n) (λ i. i < m) (λ i under. omega arith) (params_of t) below

-- a formed type stays formed under formed arguments
pub IsFormed-subst : (args : List Tree) → All IsFormed args → (t : Tree) → IsFormed t → ParamsBelow (length args) t → IsFormed (subst args t)
IsFormed-subst args each_arg =
    tree_ind (λ t. IsFormed t → ParamsBelow (length args) t → IsFormed (subst args t))
    (λ head children each formed below.
    let t : Tree = node head children in
    let parts : All IsFormed children = All-same IsFormed children (children_of t) (sym (children_of-node head children)) (IsFormed-children t formed) in
    let fits : FitsHead head (length children) =
    cast (λ h. FitsHead h (length children)) (head_of-node head children)
    (cast (λ list. FitsHead (head_of t) (length list)) (children_of-node head children) (IsFormed-head t formed)) in
    ⊎_elim
    (λ param.
    let within = below_head (length args) head children param.0 param.1 below in
    let is : subst args t ≡ get_or args param.0 t = ap (λ h. subst args (node h children)) param.1 ∙ subst-param args param.0 children t within in
    cast IsFormed (sym is) (All-get_or IsFormed args param.0 t within each_arg))
    (λ other.
    cast IsFormed (sym (subst-node args head children other))
    (IsFormed-node head (subst_all args children)
    (cast (FitsHead head) (sym (length-map children (subst args))) fits)
    (All-map IsFormed (subst args) children (λ k d within. each k d within (parts k d within) (below_children (length args) head children below k d within)))))
    (param_or_not head))

-- ---- the same laws for several types

pub subst_all-no_param : (args ts : List Tree) → All HasNoParam ts → subst_all args ts ≡ ts
subst_all-no_param args ts none = map_keeps (subst args) ts (λ k d within. subst-no_param args (get_or ts k d) (none k d within))

pub subst_all-subst_all : (outer args ts : List Tree) → All (ParamsBelow (length args)) ts → subst_all outer (subst_all args ts) ≡ subst_all (subst_all outer args) ts
subst_all-subst_all outer args ts below =
    map_agree (subst outer) (subst args) (subst (subst_all outer args)) ts (λ k d within. subst-subst outer args (get_or ts k d) (below k d within))

pub subst_all-leaves_none : (args ts : List Tree) → All HasNoParam args → All (ParamsBelow (length args)) ts → All HasNoParam (subst_all args ts)
subst_all-leaves_none args ts none below =
    All-map HasNoParam (subst args) ts (λ k d within. subst-leaves_none args (get_or ts k d) none (below k d within))
