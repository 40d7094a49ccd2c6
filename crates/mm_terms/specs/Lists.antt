-- What holds of the elements of lists put together.
use Rattle.std.specs.Prelude.{List, [], ◌∷◌, ◌++◌, All}
use Rattle.std.proofs.lemmas.List.Elements.{All-nil, All-cons, All-head, All-tail}

-- what holds of each element of two lists put together holds of each of either
pub All-apart : {X : Type 0} (P : X → Type 0) (xs ys : List X) → All P (xs ++ ys) → All P xs × All P ys
All-apart P [] ys all = (All-nil P, all)
All-apart P (x ∷ xs) ys all =
    let rest = All-apart P xs ys (All-tail P x (xs ++ ys) all) in
    (All-cons P x xs (All-head P x (xs ++ ys) all) rest.0, rest.1)
