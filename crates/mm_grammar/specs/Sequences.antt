-- What is read where one thing stands behind another.
use Rattle.std.specs.Prelude.{List, ◌∷◌, Ok}
use Rattle.mm_lex.specs.declared.punct.Punct.{Punct}
use Rattle.mm_lex.specs.Lexemes.{Lexeme}
use Rattle.mm_lex.specs.Lexemes as kinds
use Rattle.mm_forms.specs.Forms.{Read, ◌>>=◌, past}
use Rattle.mm_grammar.specs.Codes.{kind_code, code}

-- this, and then the punctuation
abbrev pub then_punct : {A : Type 0} → Punct → Read Lexeme A → Read Lexeme A
then_punct p read = read >>= λ a. past code (kind_code (kinds.Punct p)) a.1 >>= λ rest. Ok (a.0, rest)

-- the one that was read, and then the other
abbrev pub and_then : {A B : Type 0} → A → Read Lexeme B → Read Lexeme (A × B)
and_then a read = read >>= λ b. Ok ((a, b.0), b.1)

-- the first that was read, and then the others
abbrev pub first_of : {A : Type 0} → A → Read Lexeme (List A) → Read Lexeme (List A)
first_of a read = and_then a read >>= λ x. Ok (x.0.0 ∷ x.0.1, x.1)
