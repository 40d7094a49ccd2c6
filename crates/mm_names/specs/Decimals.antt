-- The numbers that decimal digits write.
use Rattle.std.specs.Prelude.{ℕ, ◌==◌, ◌&&◌, Bool, false, not, List, [], ◌∷◌, if◌then◌else◌, Option, Some, None, nat_le}
use Rattle.std.specs.List.{list_all}
use Rattle.std.specs.Char.{is_ascii_digit}
use Rattle.std.specs.Str.Parse.{digits_value}

-- digits only, and no leading zero but for 0 itself
abbrev pub is_numeral : List ℕ → Bool
is_numeral [] = false
is_numeral (c ∷ []) = is_ascii_digit c
is_numeral (c ∷ d ∷ ds) = not (c == 48) && list_all is_ascii_digit (c ∷ d ∷ ds)

-- the number that the digits write, up to a limit
unfoldable pub number_in : ℕ → List ℕ → Option ℕ
number_in limit cs = if is_numeral cs && nat_le (digits_value 10 cs) limit then Some (digits_value 10 cs) else None
