-- Which parameters a type has, by its head and its children.
use Rattle.std.proofs.Common.{◌≡◌, ℕ, ◌<◌, ◌≤◌, take, List, [], length, get_or, refl, sym, ap, ◌∙◌, subst as cast, arith}
use Rattle.std.specs.Prelude.{All}
use Rattle.std.proofs.lemmas.List.Elements.{All-nil, All-cons, All-get_or, All-same}
use Rattle.std.proofs.lemmas.Grind.{common_steps}
use Rattle.mm_terms.specs.declared.ty_head.TyHead.{TyHead}
use Rattle.mm_terms.specs.declared.ty_head.TyHead.TheVariants.{Param}
use Rattle.mm_terms.specs.declared.tree.Tree.{Tree}
use Rattle.mm_terms.specs.Order.{number_of}
use Rattle.mm_terms.specs.Substitution.{ParamsBelow, ParamsBelow-children, ParamsBelow-node, param_of}
use Rattle.mm_terms.specs.Tree.{head_of, children_of, node-parts}

-- the parameters of a child are below n where those of the type are
pub child_below : (n : ℕ) (t child : Tree) (k : ℕ) → k < length (children_of t) → child ≡ get_or (children_of t) k child → ParamsBelow n t → ParamsBelow n child
child_below n t child k within is below =
    cast (ParamsBelow n) (sym is) (All-get_or (ParamsBelow n) (children_of t) k child within (ParamsBelow-children n t below))

no_params : (n : ℕ) (head : TyHead) → ((i : ℕ) → head ≡ Param i → i < n) → All (λ i. i < n) (param_of head)
no_params n (Param i) own = All-cons (λ i. i < n) i [] (own i refl) (All-nil (λ i. i < n))
no_params n head own = All-nil (λ i. i < n)

-- the parameters of a type are below n where the head and the children have theirs so
pub below_by_parts : (n : ℕ) (t : Tree) → ((i : ℕ) → head_of t ≡ Param i → i < n) → All (ParamsBelow n) (children_of t) → ParamsBelow n t
below_by_parts n t own each =
    cast (ParamsBelow n) (node-parts t) (ParamsBelow-node n (head_of t) (children_of t) (no_params n (head_of t) own) each)

-- a head is no other parameter than it is
pub same_param : (head : TyHead) (n i k : ℕ) → head ≡ Param i → head ≡ Param k → k < n → i < n
same_param head n i k is was within = let same : i ≡ k = ap number_of (sym is ∙ was) in omega arith

-- past the end of the list all have been gone over
pub all_seen : (n : ℕ) (ts : List Tree) (k : ℕ) → length ts ≤ k → All (ParamsBelow n) (take k ts) → All (ParamsBelow n) ts
all_seen n ts k ended each =
    let whole : take k ts ≡ ts = grind (arith, common_steps) in
    All-same (ParamsBelow n) ts (take k ts) (sym whole) each
