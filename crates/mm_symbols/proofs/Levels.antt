-- Types that nest no deeper than so many levels, one level at a time.
use Rattle.std.proofs.Common.{◌≡◌, ℕ, zero, suc, ◌-◌, List, None, refl, sym, ap, arith}
use Rattle.mm_symbols.specs.Reading.{within_in, node_in}

pub no_level : (n : ℕ) (bytes : List ℕ) → n ≡ 0 → within_in n bytes ≡ None
unfolding within_in
no_level n bytes e = ap (λ m. within_in m bytes) e

pub one_level : (n : ℕ) (bytes : List ℕ) → (n ≡ 0 → ⊥) → within_in n bytes ≡ node_in (within_in (n - 1)) bytes
unfolding within_in
one_level zero bytes h = absurd (h refl)
one_level (suc n) bytes h = let e : suc n - 1 ≡ n = omega arith in ap (λ m. node_in (within_in m) bytes) (sym e)
