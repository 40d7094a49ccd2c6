-- Paths are UTF-8 where their names are.
use Rattle.std.proofs.Common.{◌≡◌, ℕ, zero, suc, ◌<◌, List, [], ◌∷◌, ◌++◌, codes, IsUtf8, true, refl, nat_lt, slice_index, arith}
use Rattle.std.specs.List.{list_all}
use Rattle.std.proofs.lemmas.Bool.{ltb-true}
use Rattle.std.proofs.lemmas.Str.{IsUtf8-append, IsUtf8-from_ascii}
use Rattle.mm_definitions.specs.Paths.{path_in}
use Rattle.mm_names.proofs.RunLemmas.{is_name-sound}
use Rattle.mm_names.specs.Runs.{is_name}
use Rattle.mm_terms.proofs.ListLemmas.{and_left, and_right}

-- each byte is below 128
ascii : (bs : List ℕ) → list_all (λ b. nat_lt b 128) bs ≡ true → (i : ℕ) → slice_index bs i < 128
ascii [] test i = omega arith
ascii (b ∷ bs) test zero = ltb-true b 128 (and_left (nat_lt b 128) (list_all (λ b. nat_lt b 128) bs) test)
ascii (b ∷ bs) test (suc i) = ascii bs (and_right (nat_lt b 128) (list_all (λ b. nat_lt b 128) bs) test) i

pub ascii_utf8 : (bs : List ℕ) → list_all (λ b. nat_lt b 128) bs ≡ true → IsUtf8 bs
ascii_utf8 bs test = IsUtf8-from_ascii bs (ascii bs test)

pub name_utf8 : (name : List ℕ) → is_name name ≡ true → IsUtf8 name
name_utf8 name is = (is_name-sound name is).utf8

pub path_utf8 : (prefix name : List ℕ) → IsUtf8 prefix → is_name name ≡ true → IsUtf8 (path_in prefix name)
path_utf8 prefix name utf8 is =
    IsUtf8-append (prefix ++ codes "::") name (IsUtf8-append prefix (codes "::") utf8 (ascii_utf8 (codes "::") refl)) (name_utf8 name is)
