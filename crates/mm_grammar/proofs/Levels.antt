-- Types and constant terms that nest no deeper than so many levels, one level at a time.
use Rattle.std.proofs.Common.{◌≡◌, ℕ, zero, suc, ◌-◌, List, refl, sym, ap, arith}
use Rattle.mm_lex.specs.Lexemes.{Lexeme}
use Rattle.mm_forms.specs.Nesting.{within_in}
use Rattle.mm_grammar.specs.Grammar.{type_node}
use Rattle.mm_grammar.specs.TermGrammar.{term_node}
use Rattle.mm_grammar.specs.Reading.{read_in_type, read_in_term, type_in, term_in, no_type, no_term}

pub no_type_level : (n : ℕ) (ts : List Lexeme) → n ≡ 0 → type_in n ts ≡ no_type ts
unfolding within_in
no_type_level n ts e = ap (λ m. type_in m ts) e

pub one_type_level : (n : ℕ) (ts : List Lexeme) → (n ≡ 0 → ⊥) → type_in n ts ≡ read_in_type (n - 1) type_node ts
unfolding within_in
one_type_level zero ts h = absurd (h refl)
one_type_level (suc n) ts h = let e : suc n - 1 ≡ n = omega arith in ap (λ m. read_in_type m type_node ts) (sym e)

pub no_term_level : (n : ℕ) (ts : List Lexeme) → n ≡ 0 → term_in n ts ≡ no_term ts
unfolding within_in
no_term_level n ts e = ap (λ m. term_in m ts) e

pub one_term_level : (n : ℕ) (ts : List Lexeme) → (n ≡ 0 → ⊥) → term_in n ts ≡ read_in_term (n - 1) term_node ts
unfolding within_in
one_term_level zero ts h = absurd (h refl)
one_term_level (suc n) ts h = let e : suc n - 1 ≡ n = omega arith in ap (λ m. read_in_term m term_node ts) (sym e)
