-- Things that stand one after the other, of which the first is read apart from those behind it.
use Rattle.std.proofs.Common.{◌≡◌, ℕ, ◌-◌, ◌<◌, List, [], ◌∷◌, length, Bool, true, Ok, Err, refl, ◌∙◌, ap, arith}
use Rattle.mm_lex.specs.Lexemes.{Lexeme}
use Rattle.mm_forms.specs.Forms.{Read, begins, each_in}
use Rattle.mm_forms.proofs.Loops.{with_front, each_step}
use Rattle.mm_grammar.specs.Codes.{code}

none_before : {A : Type 0} (read : Read Lexeme (List A)) → read ≡ with_front [] read
none_before (Ok p) = refl
none_before (Err e) = refl

-- where something begins there is a token
pub some_token : (kinds : List ℕ) (ts : List Lexeme) → begins code kinds ts ≡ true → 0 < length ts
some_token kinds [] begun = cc
some_token kinds (t ∷ ts) begun = omega arith

-- things that stand one after the other are the first, and those behind it
pub first_and_others : {A : Type 0} (begun : List Lexeme → Bool) (read : ℕ → List Lexeme → Read Lexeme A) (n : ℕ) (ts after rest : List Lexeme) (x : A) (xs : List A)
    → 0 < n → begun ts ≡ true → read 0 ts ≡ Ok (x, after) → each_in code begun read (n - 1) 1 after ≡ Ok (xs, rest)
    → each_in code begun read n 0 ts ≡ Ok (x ∷ xs, rest)
first_and_others begun read n ts after rest x xs some first_begins first others =
    let all : n ≡ n - 0 = omega arith in
    each_step code begun read n 0 ts after x [] (x ∷ []) (each_in code begun read n 0 ts) (none_before (each_in code begun read n 0 ts) ∙ ap (λ m. with_front [] (each_in code begun read m 0 ts)) all) some first_begins first refl
    ∙ ap (with_front (x ∷ [])) others
