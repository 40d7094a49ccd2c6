-- Types by their heads and their children.
use Rattle.std.proofs.Common.{◌≡◌, ℕ, ◌+◌, ◌<◌, List, [], ◌∷◌, ◌++◌, length, get_or, map, take, sym, ap, ◌∙◌}
use Rattle.std.proofs.lemmas.List.{append_assoc, map-append, take_more}
use Rattle.mm_ast.specs.declared.types.Type as types
use Rattle.mm_definitions.specs.Trees.{head_of, children_of}
use Rattle.mm_definitions.proofs.TreeLemmas.{type_fold-parts}
use Rattle.mm_terms.specs.Tree.{node}
use Rattle.mm_lower.specs.Params.{Params}
use Rattle.mm_lower.specs.Paths.{Paths}
use Rattle.mm_lower.specs.Types as lowered
use Rattle.mm_lower.specs.Types.{type_of}

pub type_of_parts : (paths : Paths) (params : Params) (t : types.«Type») → lowered.type_of paths params t ≡ node (lowered.head_of paths params (head_of t)) (map (lowered.type_of paths params) (children_of t))
unfolding type_of
type_of_parts paths params t = type_fold-parts (λ line head below. node (lowered.head_of paths params head) below) t

-- what f gives of each of a list, after one more of it
pub mapped_more : {A B : Type 0} (f : A → B) (xs : List A) (i : ℕ) (x : A) (y : B) (old now new : List B)
    → i < length xs → x ≡ get_or xs i x → y ≡ f x → now ≡ old ++ map f (take i xs) → new ≡ now ++ y ∷ [] → new ≡ old ++ map f (take (i + 1) xs)
mapped_more f xs i x y old now new within at is so_far more =
    more
    ∙ (λ j. so_far j ++ is j ∷ [])
    ∙ append_assoc old (map f (take i xs)) (f x ∷ [])
    ∙ ap (λ ys. old ++ ys) (sym (map-append f (take i xs) (x ∷ [])))
    ∙ ap (λ zs. old ++ map f zs) (sym (take_more xs i x within ∙ ap (λ z. take i xs ++ z ∷ []) (sym at)))
