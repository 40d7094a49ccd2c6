-- What is read of the tokens of a text: the tree that they spell, or the first fault.
use Rattle.std.proofs.Common.{◌≡◌, ◌⊎◌, inl, inr, refl, sym, ◌∙◌, ap, ℕ, List, ◌++◌, length, Result, Ok, Err}
use Rattle.mm_lex.specs.declared.token.Token.{Token}
use Rattle.mm_lex.specs.Lexemes.{Lexeme, lexemes}
use Rattle.mm_ast.specs.declared.items.Ast.{Ast}
use Rattle.mm_forms.specs.declared.fault.Fault.{Fault}
use Rattle.mm_forms.specs.declared.fault.Fault.TheVariants.{Unfit, TooMany, TooDeep}
use Rattle.mm_forms.specs.Given.{Fails}
use Rattle.mm_forms.specs.Verdict.{whole_in}
use Rattle.mm_forms.proofs.Verdicts as verdicts
use Rattle.mm_grammar.specs.Codes.{code}
use Rattle.mm_grammar.specs.Faults.{IsTreeFault, StandsAt, rule_of, IsGrammarFault}
use Rattle.mm_grammar.specs.ItemGrammar.{crates}
use Rattle.mm_grammar.specs.Reading.{read, IsText, IsAnyText}
use Rattle.mm_grammar.proofs.Knots.{text_law, text_split}

-- what is read is spelled
pub read_is_text : (ts : List Lexeme) (tree : Ast) → whole_in (read crates ts) ≡ Ok tree → IsText tree ts
read_is_text = verdicts.whole_sound code text_law text_split IsAnyText (λ a us s. s) (λ a us s. s)

-- where nothing is read, the first fault is told
pub stop_is_fault : (ts rest : List Lexeme) (x : Fault) → whole_in (read crates ts) ≡ Err (x, rest) → IsTreeFault x ts rest
stop_is_fault = verdicts.whole_told code text_law text_split IsAnyText (λ a us s. s) (λ a us s. s)

-- the faulty token stands behind a front of the tokens
pub fault_front : (x : Fault) (ts rest : List Lexeme) → IsTreeFault x ts rest → (front : List Lexeme) × (ts ≡ front ++ rest)
fault_front Unfit ts rest f = (f.front, f.is)
fault_front TooMany ts rest f = (f.front, f.is ∙ ap (λ z. f.front ++ z) (sym f.rest_is))
fault_front TooDeep ts rest f = (f.front, f.is ∙ ap (λ z. f.front ++ z) (sym f.rest_is))

-- the first fault and where it stands, of how many tokens are left
pub stop_is_first : (text : List ℕ) (tokens : List Token) (x : Fault) (left line column : ℕ) → Fails x left (whole_in (read crates (lexemes text tokens)))
    → ((front rest : List Lexeme) → lexemes text tokens ≡ front ++ rest → length rest ≡ left → StandsAt text rest line column) → IsGrammarFault text tokens (rule_of x) line column
stop_is_first text tokens x left line column f at =
    let first = stop_is_fault (lexemes text tokens) f.rest x f.is in
    let front = fault_front x (lexemes text tokens) f.rest first in
    record { fault = x; rest = f.rest; first = first; rule_is = refl; stands = at front.0 f.rest front.1 f.left_is }

-- tokens spell one tree
pub one_tree : (ts : List Lexeme) (a b : Ast) → IsText a ts → IsText b ts → a ≡ b
one_tree = verdicts.one_text code text_law text_split IsAnyText (λ a us s. s) (λ a us s. s)

-- tokens spell a tree or have a first fault
pub some_verdict : (ts : List Lexeme) → ((a : Ast) × IsText a ts) ⊎ ((x : Fault) × (rest : List Lexeme) × IsTreeFault x ts rest)
some_verdict ts = by (whole_in (read crates ts)) refl
  where
    by : (r : Result Ast (Fault × List Lexeme)) → whole_in (read crates ts) ≡ r → ((a : Ast) × IsText a ts) ⊎ ((x : Fault) × (rest : List Lexeme) × IsTreeFault x ts rest)
    by (Ok a) h = inl (a, verdicts.whole_sound code text_law text_split IsAnyText (λ a us s. s) (λ a us s. s) ts a h)
    by (Err e) h = inr (e.0, e.1, verdicts.whole_told code text_law text_split IsAnyText (λ a us s. s) (λ a us s. s) ts e.1 e.0 h)

-- and never both
pub text_or_fault : (ts rest : List Lexeme) (a : Ast) (x : Fault) → IsText a ts → IsTreeFault x ts rest → ⊥
text_or_fault = verdicts.no_fault code text_law text_split IsAnyText (λ a us s. s) (λ a us s. s)

-- and one first fault
pub one_first : (ts rest others : List Lexeme) (x y : Fault) → IsTreeFault x ts rest → IsTreeFault y ts others → (x ≡ y) × (rest ≡ others)
one_first = verdicts.one_fault code text_law text_split IsAnyText (λ a us s. s) (λ a us s. s)

-- what tokens spell is read
pub text_is_read : (ts : List Lexeme) (a : Ast) → IsText a ts → whole_in (read crates ts) ≡ Ok a
text_is_read = verdicts.text_whole code text_law text_split IsAnyText (λ a us s. s) (λ a us s. s)

-- the first fault is the one that is told
pub fault_is_told : (x : Fault) (ts rest : List Lexeme) → IsTreeFault x ts rest → whole_in (read crates ts) ≡ Err (x, rest)
fault_is_told = verdicts.fault_whole code text_law text_split IsAnyText (λ a us s. s) (λ a us s. s)
