-- Few, of a list and of what is made of each part.
use Rattle.std.proofs.Common.{◌≡◌, List, map, nat_lt, ap}
use Rattle.std.proofs.lemmas.List.{length-map}
use Rattle.mm_written.specs.Lists.{few}

pub few-map : {A B : Type 0} (xs : List A) (f : A → B) → few (map f xs) ≡ few xs
unfolding few
few-map xs f = ap (λ n. nat_lt n 4294967296) (length-map xs f)
