-- What holds of all that is made of the elements of a list, each with its place.
use Rattle.std.proofs.Common.{◌≡◌, ℕ, ◌+◌, List, map, Some, subst, arith}
use Rattle.std.specs.Prelude.{All, slice_get}
use Rattle.std.specs.List.{enumerate_from}
use Rattle.std.proofs.lemmas.List.Elements.{All-map}
use Rattle.mm_terms.proofs.ListLemmas.{All-enumerate}

pub All-places : {X Y : Type 0} (P : Y → Type 0) (f : ℕ × X → Y) (xs : List X) → ((k : ℕ) (x : X) → slice_get xs k ≡ Some x → P (f (k, x))) → All P (map f (enumerate_from 0 xs))
All-places P f xs each =
    All-map P f (enumerate_from 0 xs) (All-enumerate (λ one. P (f one)) xs 0 (λ k x at. let same : k ≡ 0 + k = omega arith in subst (λ j. P (f (j, x))) same (each k x at)))
