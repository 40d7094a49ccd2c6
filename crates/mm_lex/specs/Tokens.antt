-- The tokens of a text, and the first fault of one that has none.
use Rattle.std.specs.Prelude.{◌≡◌, ◌≢◌, ℕ, List, [], ◌∷◌, ◌++◌, if◌then◌else◌, fold, flat_map, take}
use Rattle.std.specs.Char.{is_ascii_digit}
use Rattle.std.specs.Str.{IsUtf8, chars}
use Rattle.std.specs.Str.Lossy.{utf8_valid_len}
use Rattle.mm_names.specs.Names.{starts_name}
use Rattle.mm_names.specs.Prefixes.{StopsAt}
use Rattle.mm_lex.specs.declared.position.Position.{Position}
use Rattle.mm_lex.specs.declared.text_fault.TextRule.{TextRule}
use Rattle.mm_lex.specs.declared.text_fault.TextRule.TheVariants as rules
use Rattle.mm_lex.specs.declared.text_fault.TextFault.{TextFault}
use Rattle.mm_lex.specs.declared.text_fault.TextFault.TheVariants.{BadText, NoMemory}
use Rattle.mm_lex.specs.declared.token.TokenKind.{TokenKind}
use Rattle.mm_lex.specs.declared.token.TokenKind.TheVariants as kinds
use Rattle.mm_lex.specs.declared.token.Token as tokens
use Rattle.mm_lex.specs.Lexemes.{LexemeKind, Name, Word, Local, Label, Number, Lexeme}
use Rattle.mm_lex.specs.Pieces.{Piece, Blank, Comment, Token, spelling, IsToken, written, IsPiece, goes_on, AreCut}
use Rattle.mm_lex.specs.Positions.{past, text_start}

-- the kind of a token, without its text
abbrev pub kind_of : LexemeKind → TokenKind
kind_of (Name bytes) = kinds.Name
kind_of (Word word) = kinds.Word
kind_of (Local n) = kinds.Local n
kind_of (Label n) = kinds.Label n
kind_of (Number n) = kinds.Number n
kind_of _ = kinds.Punct

-- a token between two positions
abbrev pub token_at : TokenKind → Position → Position → tokens.Token
token_at kind at behind = record { kind = kind; start = at.offset; stop = behind.offset; line = at.line; column = at.column }

-- the tokens among the pieces, of which the first stands at the position
abbrev pub tokens_from : Position → List Piece → List tokens.Token
tokens_from at [] = []
tokens_from at (Blank c ∷ pieces) = tokens_from (past at c) pieces
tokens_from at (Comment line ∷ pieces) = tokens_from (fold past at (written (Comment line))) pieces
tokens_from at (Token kind ∷ pieces) = token_at (kind_of kind) at (fold past at (spelling kind)) ∷ tokens_from (fold past at (spelling kind)) pieces

-- the same by what they spell
abbrev pub lexemes_from : Position → List Piece → List Lexeme
lexemes_from at [] = []
lexemes_from at (Blank c ∷ pieces) = lexemes_from (past at c) pieces
lexemes_from at (Comment line ∷ pieces) = lexemes_from (fold past at (written (Comment line))) pieces
lexemes_from at (Token kind ∷ pieces) = record { kind = kind; line = at.line; column = at.column } ∷ lexemes_from (fold past at (spelling kind)) pieces

-- The characters up to a rest are cut into pieces, and these are the tokens among them; the rest stands at the position.
pub record IsRead (text : List ℕ) (tokens : List tokens.Token) (at : Position) (rest : List ℕ) : Type 0 where
  pub pieces : List Piece
  pub cut : AreCut pieces rest
  pub whole : flat_map written pieces ++ rest ≡ text
  pub are : tokens_from text_start pieces ≡ tokens
  pub behind : fold past text_start (flat_map written pieces) ≡ at

-- The text, by its bytes, has these tokens: it is UTF-8, and its characters are cut into pieces among which they are.
pub record AreTokensOf (text : List ℕ) (tokens : List tokens.Token) : Type 0 where
  pub utf8 : IsUtf8 text
  pub end : Position
  pub read : IsRead (chars text) tokens end []

-- a lexeme of a token that there is
abbrev pub IsLexeme : Lexeme → Type 0
IsLexeme lexeme = IsToken lexeme.kind

-- the characters of the longest front of a text that is UTF-8
abbrev pub valid_chars : List ℕ → List ℕ
valid_chars text = chars (take (utf8_valid_len text) text)

-- no piece stands at the head of the characters
abbrev pub IsStuck : List ℕ → Type 0
IsStuck rest = (piece : Piece) (after : List ℕ) → IsPiece piece → StopsAt (goes_on piece) after → written piece ++ after ≢ rest

-- the rule that is broken where no piece stands at this character
abbrev pub rule_at : ℕ → TextRule
rule_at c = if is_ascii_digit c then rules.Number else (if starts_name c then rules.Name else rules.Char)

-- The rest of what is UTF-8 breaks the rule: at its first character no piece stands, or it is empty and the text goes on.
abbrev pub IsFaultAt : List ℕ → List ℕ → TextRule → Type 0
IsFaultAt text [] rule = (rule ≡ rules.Utf8) × (IsUtf8 text → ⊥)
IsFaultAt text (c ∷ cs) rule = (rule ≡ rule_at c) × IsStuck (c ∷ cs)

-- The first fault of a text: what stands before it is read, and there the rule is broken.
pub record IsLexicalFault (text : List ℕ) (rule : TextRule) (line column : ℕ) : Type 0 where
  pub tokens : List tokens.Token
  pub offset : ℕ
  pub rest : List ℕ
  pub read : IsRead (valid_chars text) tokens (record { offset = offset; line = line; column = column }) rest
  pub fault : IsFaultAt text rest rule

-- what an answer without tokens says of the text
abbrev pub IsFaultOf : List ℕ → TextFault → Type 0
IsFaultOf text (BadText line column rule) = IsLexicalFault text rule line column
IsFaultOf text NoMemory = Unit {0}
