-- What rules of the grammar are made of: tokens, and how parts stand together.
use Rattle.std.specs.Prelude.{ℕ, List, [], ◌∷◌, Bool, true, false, Option, Some, None}
use Rattle.mm_names.specs.declared.word.Word.{Word}
use Rattle.mm_lex.specs.declared.punct.Punct.{Punct}
use Rattle.mm_lex.specs.declared.punct.Punct.TheVariants as puncts
use Rattle.mm_lex.specs.Lexemes.{LexemeKind, Lexeme}
use Rattle.mm_lex.specs.Lexemes as kinds
use Rattle.mm_ast.specs.declared.items.Item as items
use Rattle.mm_ast.specs.declared.types.Type as types
use Rattle.mm_ast.specs.declared.terms.Term as terms
use Rattle.mm_forms.specs.Forms.{Form, Nothing, Token, Preceded, Terminated, Then, Or, Map}
use Rattle.mm_grammar.specs.Codes.{kind_code}

-- the parts that lead back to themselves: types, constant terms, and what stands in the braces of a module
pub data Sort : Type 0 where
  Types : Sort
  Terms : Sort
  Modules : Sort

abbrev pub Value : Sort → Type 0
Value Types = types.«Type»
Value Terms = terms.Term
Value Modules = List items.Item

-- a rule of the grammar, for what it gives
abbrev pub Rule : Type 0 → Type 1
Rule = Form Lexeme Sort Value

-- the line of a token
abbrev pub line_of : Lexeme → ℕ
line_of t = t.line

-- the bytes of a name
abbrev pub text_of_kind : LexemeKind → List ℕ
text_of_kind (kinds.Name bytes) = bytes
text_of_kind _ = []

abbrev pub text_of : Lexeme → List ℕ
text_of t = text_of_kind t.kind

-- the number of a local, a label or a number
abbrev pub number_of_kind : LexemeKind → ℕ
number_of_kind (kinds.Local n) = n
number_of_kind (kinds.Label n) = n
number_of_kind (kinds.Number n) = n
number_of_kind _ = 0

abbrev pub number_of : Lexeme → ℕ
number_of t = number_of_kind t.kind

-- the word, and then this
abbrev pub word : {A : Type 0} → Word → Rule A → Rule A
word w = Preceded (kind_code (kinds.Word w))

-- the punctuation, and then this
abbrev pub punct : {A : Type 0} → Punct → Rule A → Rule A
punct p = Preceded (kind_code (kinds.Punct p))

-- this, and then the punctuation
abbrev pub ends : {A : Type 0} → Punct → Rule A → Rule A
ends p f = Terminated f (kind_code (kinds.Punct p))

-- the one and then the other
infixr 5 ◌⋅◌
abbrev pub ◌⋅◌ : {A B : Type 0} → Rule A → Rule B → Rule (A × B)
f ⋅ g = Then f (λ a. 0) g

-- the one or the other
infixr 4 ◌or◌
abbrev pub ◌or◌ : {A : Type 0} → Rule A → Rule A → Rule A
f or g = Or f g

-- the word alone, for this value
abbrev pub bare : {A : Type 0} → Word → A → Rule A
bare w a = word w (Nothing a)

-- [ word ]
abbrev pub flag : Word → Rule Bool
flag w = bare w true or Nothing false

-- [ x ]
abbrev pub optional : {A : Type 0} → Rule A → Rule (Option A)
optional f = Map Some f or Nothing None

-- the first, and the others behind it
abbrev pub list : {A : Type 0} → Rule A → Rule (List A) → Rule (List A)
list first others = Map (λ p. p.0 ∷ p.1) (first ⋅ others)

-- [ x ], and then the punctuation
abbrev pub closed : {A : Type 0} → Punct → Rule (List A) → Rule (List A)
closed p f = punct p (Nothing []) or ends p f

-- [ "<" x ">" ]
abbrev pub in_angles : {A : Type 0} → Rule (List A) → Rule (List A)
in_angles f = punct puncts.Less (ends puncts.Greater f) or Nothing []

-- "(" x ")"
abbrev pub in_parens : {A : Type 0} → Rule A → Rule A
in_parens f = punct puncts.Open (ends puncts.Close f)

abbrev pub text : Rule (List ℕ)
text = Token 2 text_of

abbrev pub local : Rule ℕ
local = Token 3 number_of

abbrev pub label_number : Rule ℕ
label_number = Token 4 number_of

abbrev pub number : Rule ℕ
number = Token 5 number_of
