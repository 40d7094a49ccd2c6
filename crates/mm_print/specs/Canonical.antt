-- The canonical text of tokens: in their order, with a line feed, nothing or a blank behind each.
use Rattle.std.specs.Prelude.{◌≡◌, ℕ, Bool, true, false, cond, ◌||◌, List, [], ◌∷◌, ◌++◌, Option, Some, None, map, flat_map}
use Rattle.std.specs.Str.{encode_utf8_all}
use Rattle.mm_lex.specs.declared.punct.Punct as puncts
use Rattle.mm_lex.specs.declared.punct.Punct.TheVariants.{Open, Close, OpenBrace, CloseBrace, OpenBracket, CloseBracket, Less, Greater, Comma, Semicolon, Colon, PathSep, Dot, At, Ampersand, Equals}
use Rattle.mm_lex.specs.declared.token.Token as tokens
use Rattle.mm_print.specs.declared.gap.Gap as gaps
use Rattle.mm_print.specs.declared.gap.Gap.TheVariants.{LineFeed, Nothing, OneBlank}
use Rattle.mm_lex.specs.Lexemes.{LexemeKind, Punct, Lexeme, lexemes}
use Rattle.mm_lex.specs.Pieces.{Piece, Blank, Token, written}
use Rattle.mm_lex.specs.Tokens.{AreTokensOf}
use Rattle.mm_shape.specs.Shapes.{kinds_of}

-- `;` `{` `}`
abbrev pub ends_line : puncts.Punct → Bool
ends_line Semicolon = true
ends_line OpenBrace = true
ends_line CloseBrace = true
ends_line _ = false

-- `(` `<` `[` `::` `.` `@` `&`
abbrev pub holds_next : puncts.Punct → Bool
holds_next Open = true
holds_next Less = true
holds_next OpenBracket = true
holds_next PathSep = true
holds_next Dot = true
holds_next At = true
holds_next Ampersand = true
holds_next _ = false

-- `(` `)` `<` `>` `[` `]` `,` `;` `:` `::` `.` `@`
abbrev pub holds_last : puncts.Punct → Bool
holds_last Open = true
holds_last Close = true
holds_last Less = true
holds_last Greater = true
holds_last OpenBracket = true
holds_last CloseBracket = true
holds_last Comma = true
holds_last Semicolon = true
holds_last Colon = true
holds_last PathSep = true
holds_last Dot = true
holds_last At = true
holds_last _ = false

abbrev pub passes : (puncts.Punct → Bool) → Option puncts.Punct → Bool
passes test (Some p) = test p
passes test None = false

-- What stands between a token and the next, each by its punctuation where it is one: the first of these rules that applies. Behind
-- what ends a line stands a line feed; behind what holds the next token and before what holds the last one, nothing; else a blank.
abbrev pub gap_of : Option puncts.Punct → Option puncts.Punct → gaps.Gap
gap_of token next = cond (passes ends_line token) LineFeed (cond (passes holds_next token || passes holds_last next) Nothing OneBlank)

abbrev pub punct_of : LexemeKind → Option puncts.Punct
punct_of (Punct p) = Some p
punct_of _ = None

abbrev pub pieces_in : gaps.Gap → List Piece
pieces_in LineFeed = Blank 10 ∷ []
pieces_in Nothing = []
pieces_in OneBlank = Blank 32 ∷ []

-- what stands behind a token: at the end of the text a line feed, where it ends a line
abbrev pub behind : LexemeKind → List LexemeKind → List Piece
behind k [] = cond (passes ends_line (punct_of k)) (Blank 10 ∷ []) []
behind k (next ∷ ks) = pieces_in (gap_of (punct_of k) (punct_of next))

-- the tokens and what stands between them
abbrev pub parted : List LexemeKind → List Piece
parted [] = []
parted (k ∷ ks) = Token k ∷ (behind k ks ++ parted ks)

-- the bytes of the canonical text
abbrev pub canonical : List LexemeKind → List ℕ
canonical ks = encode_utf8_all (flat_map written (parted ks))

-- `:` before `:` or `::`, and `=` before `>`, would be read as one token
abbrev pub puncts_join : puncts.Punct → puncts.Punct → Bool
puncts_join Colon Colon = true
puncts_join Colon PathSep = true
puncts_join Equals Greater = true
puncts_join _ _ = false

abbrev pub join : LexemeKind → LexemeKind → Bool
join (Punct p) (Punct q) = puncts_join p q
join _ _ = false

-- no token joins with the next
abbrev pub NoneJoin : List LexemeKind → Type 0
NoneJoin [] = Unit {0}
NoneJoin (k ∷ []) = Unit {0}
NoneJoin (k ∷ next ∷ ks) = (join k next ≡ false) × NoneJoin (next ∷ ks)

-- the text has tokens that spell this
pub record ReadsAs (ks : List LexemeKind) (text : List ℕ) : Type 0 where
  pub tokens : List tokens.Token
  pub are : AreTokensOf text tokens
  pub spell : kinds_of (lexemes text tokens) ≡ ks
