-- The step of a loop that reads things one after the other, up to an E.
use Rattle.std.proofs.Common.{◌≡◌, ℕ, suc, ◌+◌, ◌-◌, ◌<◌, List, [], ◌∷◌, ◌++◌, false, Some, None, refl, sym, ◌∙◌, ap, append_assoc, arith}
use Rattle.std.proofs.lemmas.Bool.{cond-false}
use Rattle.mm_symbols.specs.Reading.{Read, ◌>>=◌, starts, each_in}

-- what a loop has read, and then what is read of the others
abbrev pub with_prefix : {A : Type 0} → List A → Read (List A) → Read (List A)
with_prefix xs read = read >>= λ x. Some (xs ++ x.0, x.1)

prefix_more : {A : Type 0} (xs : List A) (x : A) (r : Read (List A)) → with_prefix xs (r >>= λ ys. Some (x ∷ ys.0, ys.1)) ≡ with_prefix (xs ++ x ∷ []) r
prefix_more xs x (Some p) = ap (λ l. Some (l, p.1)) (sym (append_assoc xs (x ∷ []) p.0))
prefix_more xs x None = refl

one_more : {A : Type 0} (read : List ℕ → Read A) (m : ℕ) (bytes after : List ℕ) (x : A) (xs : List A) → starts 69 bytes ≡ false → read bytes ≡ Some (x, after)
    → with_prefix xs (each_in read (suc m) bytes) ≡ with_prefix (xs ++ x ∷ []) (each_in read m after)
one_more read m bytes after x xs b r =
    ap (with_prefix xs) (cond-false (starts 69 bytes) (Some ([], bytes)) (read bytes >>= λ x. each_in read m x.1 >>= λ xs. Some (x.0 ∷ xs.0, xs.1)) b ∙ ap (λ s. s >>= λ x. each_in read m x.1 >>= λ xs. Some (x.0 ∷ xs.0, xs.1)) r)
    ∙ prefix_more xs x (each_in read m after)

each_more : {A : Type 0} (read : List ℕ → Read A) (n k : ℕ) (bytes after : List ℕ) (x : A) (xs : List A) → k < n → starts 69 bytes ≡ false → read bytes ≡ Some (x, after)
    → with_prefix xs (each_in read (n - k) bytes) ≡ with_prefix (xs ++ x ∷ []) (each_in read (n - (k + 1)) after)
each_more read n k bytes after x xs l b r =
    let e : n - k ≡ suc (n - (k + 1)) = omega arith in
    ap (λ m. with_prefix xs (each_in read m bytes)) e ∙ one_more read (n - (k + 1)) bytes after x xs b r

-- what a loop keeps after one more turn
pub each_step : {A : Type 0} (read : List ℕ → Read A) (n k : ℕ) (bytes after : List ℕ) (x : A) (xs more : List A) (whole : Read (List A))
    → whole ≡ with_prefix xs (each_in read (n - k) bytes) → k < n → starts 69 bytes ≡ false → read bytes ≡ Some (x, after) → more ≡ xs ++ x ∷ []
    → whole ≡ with_prefix more (each_in read (n - (k + 1)) after)
each_step read n k bytes after x xs more whole so_far l b r grown =
    so_far ∙ each_more read n k bytes after x xs l b r ∙ ap (λ ys. with_prefix ys (each_in read (n - (k + 1)) after)) (sym grown)
