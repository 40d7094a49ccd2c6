-- Tokens as a reader of the text sees them: what the bytes of a span spell, and where they stand.
use Rattle.std.specs.Prelude.{ℕ, ◌-◌, List, Option, Some, None, map, take, drop}
use Rattle.mm_names.specs.declared.word.Word as words
use Rattle.mm_names.specs.Runs.{word_in}
use Rattle.mm_lex.specs.declared.punct.Punct as puncts
use Rattle.mm_lex.specs.declared.token.TokenKind.{TokenKind}
use Rattle.mm_lex.specs.declared.token.TokenKind.TheVariants as kinds
use Rattle.mm_lex.specs.declared.token.Token.{Token}
use Rattle.mm_lex.specs.Puncts.{punct_in}

-- a token by what it spells; there is no text of which `Other` is one
pub data LexemeKind : Type 0 where
  Name : List ℕ → LexemeKind
  Word : words.Word → LexemeKind
  Local : ℕ → LexemeKind
  Label : ℕ → LexemeKind
  Number : ℕ → LexemeKind
  Punct : puncts.Punct → LexemeKind
  Other : LexemeKind

-- a token by what it spells, with its position
pub record Lexeme : Type 0 where
  pub kind : LexemeKind
  pub line : ℕ
  pub column : ℕ

-- the bytes of the text from an offset up to another
abbrev pub span : List ℕ → ℕ → ℕ → List ℕ
span text start stop = take (stop - start) (drop start text)

abbrev pub word_kind : Option words.Word → LexemeKind
word_kind (Some w) = Word w
word_kind None = Other

abbrev pub punct_kind : Option puncts.Punct → LexemeKind
punct_kind (Some p) = Punct p
punct_kind None = Other

-- what a token spells that has these bytes
abbrev pub kind_by : TokenKind → List ℕ → LexemeKind
kind_by kinds.Name bytes = Name bytes
kind_by kinds.Word bytes = word_kind (word_in bytes)
kind_by (kinds.Local n) bytes = Local n
kind_by (kinds.Label n) bytes = Label n
kind_by (kinds.Number n) bytes = Number n
kind_by kinds.Punct bytes = punct_kind (punct_in bytes)

-- a token of the text
abbrev pub lexeme_at : List ℕ → Token → Lexeme
lexeme_at text token = record { kind = kind_by token.kind (span text token.start token.stop); line = token.line; column = token.column }

-- tokens of the text
abbrev pub lexemes : List ℕ → List Token → List Lexeme
lexemes text tokens = map (lexeme_at text) tokens
