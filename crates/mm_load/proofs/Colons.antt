-- A path is that of one module and one name, since no name has a colon.
use Rattle.std.proofs.Common.{◌≡◌, ℕ, true, false, eqb, List, [], ◌∷◌, ◌++◌, append_assoc, codes, refl, sym, ◌∙◌, ap, arith}
use Rattle.std.specs.Prelude.{All}
use Rattle.std.proofs.lemmas.Bool.{both_ways}
use Rattle.std.proofs.lemmas.List.Elements.{All-nil, All-head, All-tail, All-same}
use Rattle.mm_definitions.specs.Paths.{path_in}
use Rattle.mm_names.specs.Runs.{is_name}
use Rattle.mm_names.proofs.NameLemmas.{IsName-without}
use Rattle.mm_names.proofs.RunLemmas.{is_name-sound}
use Rattle.mm_terms.specs.Lists.{All-apart}

-- a byte other than a colon
abbrev IsOther : ℕ → Type 0
IsOther b = eqb b 58 ≡ false

no_colon : (n : List ℕ) → is_name n ≡ true → All IsOther n
no_colon n is = IsName-without 58 (omega arith) refl n (is_name-sound n is)

not_colon : IsOther 58 → ⊥
not_colon other = both_ways (eqb 58 58) other refl

-- where a colon stands, not all bytes are others
has_colon : (p n : List ℕ) → All IsOther (p ++ 58 ∷ n) → ⊥
has_colon p n all = not_colon (All-head IsOther 58 n (All-apart IsOther p (58 ∷ n) all).1)

-- ---- the first colon

before_first : (n m r s : List ℕ) → All IsOther n → All IsOther m → n ++ 58 ∷ r ≡ m ++ 58 ∷ s → n ≡ m
before_first [] [] r s n_other m_other same = refl
before_first [] (d ∷ m) r s n_other m_other same =
    let first : 58 ≡ d = cc same in
    absurd (not_colon (ap (λ b. eqb b 58) first ∙ All-head IsOther d m m_other))
before_first (c ∷ n) [] r s n_other m_other same =
    let first : c ≡ 58 = cc same in
    absurd (not_colon (ap (λ b. eqb b 58) (sym first) ∙ All-head IsOther c n n_other))
before_first (c ∷ n) (d ∷ m) r s n_other m_other same =
    let first : c ≡ d = cc same in
    let others : n ++ 58 ∷ r ≡ m ++ 58 ∷ s = cc same in
    let rest = before_first n m r s (All-tail IsOther c n n_other) (All-tail IsOther d m m_other) others in
    λ i. first i ∷ rest i

-- two names before colons, where all is the same, are one
pub one_first : (n m r s : List ℕ) → is_name n ≡ true → is_name m ≡ true → n ++ 58 ∷ r ≡ m ++ 58 ∷ s → n ≡ m
one_first n m r s is_n is_m = before_first n m r s (no_colon n is_n) (no_colon m is_m)

-- ---- the last colon

around_last : (p q n m : List ℕ) → All IsOther n → All IsOther m → p ++ 58 ∷ n ≡ q ++ 58 ∷ m → (p ≡ q) × (n ≡ m)
around_last [] [] n m n_other m_other same = (refl, cc same)
around_last [] (d ∷ q) n m n_other m_other same =
    let rest : n ≡ q ++ 58 ∷ m = cc same in
    absurd (has_colon q m (All-same IsOther (q ++ 58 ∷ m) n (sym rest) n_other))
around_last (c ∷ p) [] n m n_other m_other same =
    let rest : p ++ 58 ∷ n ≡ m = cc same in
    absurd (has_colon p n (All-same IsOther (p ++ 58 ∷ n) m rest m_other))
around_last (c ∷ p) (d ∷ q) n m n_other m_other same =
    let first : c ≡ d = cc same in
    let others : p ++ 58 ∷ n ≡ q ++ 58 ∷ m = cc same in
    let rest = around_last p q n m n_other m_other others in
    ((λ i. first i ∷ rest.0 i), rest.1)

-- a path up to its last colon, and the name behind it
cut : (p n : List ℕ) → path_in p n ≡ (p ++ 58 ∷ []) ++ 58 ∷ n
cut p n = append_assoc p (codes "::") n ∙ sym (append_assoc p (58 ∷ []) (58 ∷ n))

pub one_last : (p q n m : List ℕ) → is_name n ≡ true → is_name m ≡ true → path_in p n ≡ path_in q m → (p ≡ q) × (n ≡ m)
one_last p q n m is_n is_m same =
    let last = around_last (p ++ 58 ∷ []) (q ++ 58 ∷ []) n m (no_colon n is_n) (no_colon m is_m) (sym (cut p n) ∙ same ∙ cut q m) in
    let before = around_last p q [] [] (All-nil IsOther) (All-nil IsOther) last.0 in
    (before.0, last.1)

-- and no name alone is a path
pub no_path : (p n m : List ℕ) → is_name m ≡ true → m ≡ path_in p n → ⊥
no_path p n m is_m same = has_colon (p ++ 58 ∷ []) n (All-same IsOther ((p ++ 58 ∷ []) ++ 58 ∷ n) m (sym (same ∙ cut p n)) (no_colon m is_m))
