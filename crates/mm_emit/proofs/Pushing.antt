-- A list that is made element by element, where something holds of each.
use Rattle.std.proofs.Common.{◌≡◌, ℕ, ◌+◌, ◌<◌, List, [], ◌∷◌, ◌++◌, map, take, length, get_or, sym, ◌∙◌, ap, subst}
use Rattle.std.specs.Prelude.{All}
use Rattle.std.proofs.lemmas.List.{map_more}
use Rattle.std.proofs.lemmas.List.Elements.{All-push}

pub pushed : {X Y : Type 0} (f : X → Y) (P : Y → Type 0) (from : List X) (i : ℕ) (x : X) (made new : List Y) (one : Y) → i < length from → (made ≡ map f (take i from)) × All P made → one ≡ f (get_or from i x) → P one → new ≡ made ++ one ∷ [] → (new ≡ map f (take (i + 1) from)) × All P new
pushed f P from i x made new one within before is holds pushed_is = (
  pushed_is ∙ ap (λ list. list ++ one ∷ []) before.0 ∙ ap (λ y. map f (take i from) ++ y ∷ []) is ∙ sym (map_more f from i x within),
  subst (All P) (sym pushed_is) (All-push P made one before.1 holds),
)
