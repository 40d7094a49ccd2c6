-- How many parts a list may have.
use Rattle.std.specs.Prelude.{◌+◌, ◌&&◌, List, length, Bool, not, nat_eq, nat_lt}
use Rattle.std.specs.List.{list_all}

-- fewer than 2^32
unfoldable pub few : {A : Type 0} → List A → Bool
few xs = nat_lt (length xs) 4294967296

-- one at least
abbrev pub some : {A : Type 0} → List A → Bool
some xs = not (nat_eq (length xs) 0)

-- the reference to a closure's own type over its type parameters is a type whose constructors can be counted
abbrev pub few_in_self : {A : Type 0} → List A → Bool
few_in_self names = nat_lt (length names + 2) 4294967296

-- few, and each of them passes the test
abbrev pub few_each : {A : Type 0} → (A → Bool) → List A → Bool
few_each test xs = few xs && list_all test xs
