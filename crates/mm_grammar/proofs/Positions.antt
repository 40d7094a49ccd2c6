-- Where so many tokens are left.
use Rattle.std.proofs.Common.{◌≡◌, ℕ, zero, suc, ◌-◌, ◌+◌, List, [], ◌∷◌, ◌++◌, length, map, Option, Some, None, refl, sym, ap, ◌∙◌, subst, arith, length-append, true, ltb, get_or}
use Rattle.std.specs.List.{slice_get}
use Rattle.std.specs.Option.{option_map}
use Rattle.std.proofs.lemmas.List.{length-map}
use Rattle.std.proofs.lemmas.Option.{slice_get-map, slice_get-get_or}
use Rattle.std.proofs.lemmas.Bool.{ltb-true}
use Rattle.mm_lex.specs.declared.token.Token.{Token}
use Rattle.mm_lex.specs.Lexemes.{Lexeme, lexeme_at, lexemes}
use Rattle.mm_grammar.specs.Faults.{StandsAt}

behind : {A : Type 0} (front rest : List A) → slice_get (front ++ rest) (length front) ≡ slice_get rest 0
behind [] rest = refl
behind (x ∷ front) rest = behind front rest

some_same : {A : Type 0} (a b : A) → Some a ≡ Some b → a ≡ b
some_same a b e = cc

first_stands : (text : List ℕ) (t : Lexeme) (rest : List Lexeme) → slice_get rest 0 ≡ Some t → StandsAt text rest t.line t.column
first_stands text t [] is = cc
first_stands text t (u ∷ rest) is = by is
  where
    by : Some u ≡ Some t → (t.line ≡ u.line) × (t.column ≡ u.column)
    by same = (ap (λ k. k.line) (sym (some_same u t same)), ap (λ k. k.column) (sym (some_same u t same)))

pub token_stands : (text : List ℕ) (tokens : List Token) (left : ℕ) (token : Token) → slice_get tokens (length tokens - left) ≡ Some token
    → (front rest : List Lexeme) → lexemes text tokens ≡ front ++ rest → length rest ≡ left → StandsAt text rest token.line token.column
token_stands text tokens left token found front rest are long =
    let whole : length (lexemes text tokens) ≡ length tokens = length-map tokens (lexeme_at text) in
    let parts = ap length are ∙ length-append front rest in
    let at : length tokens - left ≡ length front = omega (arith, whole, parts, long) in
    first_stands text (lexeme_at text token) rest
    (sym (behind front rest)
    ∙ ap (λ ts. slice_get ts (length front)) (sym are)
    ∙ slice_get-map (lexeme_at text) tokens (length front)
    ∙ ap (λ k. option_map (lexeme_at text) (slice_get tokens k)) (sym at)
    ∙ ap (option_map (lexeme_at text)) found)

pub token_found : (tokens : List Token) (i : ℕ) (d token : Token) → true ≡ ltb i (length tokens) → token ≡ get_or tokens i d → slice_get tokens i ≡ Some token
token_found tokens i d token within is = slice_get-get_or tokens i d (ltb-true i (length tokens) (sym within)) ∙ ap Some (sym is)
