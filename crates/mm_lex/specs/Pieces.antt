-- What a text is made of: blanks, comments and tokens.
use Rattle.std.specs.Prelude.{◌≡◌, ℕ, ◌<◌, ◌≤◌, ◌^◌, ◌||◌, ◌==◌, Bool, true, false, not, List, [], ◌∷◌, ◌++◌, codes, flat_map}
use Rattle.std.specs.List.{AllPass}
use Rattle.std.specs.Char.{is_ascii_digit}
use Rattle.std.specs.Str.{chars}
use Rattle.std.specs.Fmt.{decimal}
use Rattle.unicode_ident.specs.Ident.{is_xid_continue}
use Rattle.mm_names.specs.Words.{word_spelling}
use Rattle.mm_names.specs.Names.{IsName}
use Rattle.mm_names.specs.Prefixes.{StopsAt}
use Rattle.mm_lex.specs.declared.punct.Punct as puncts
use Rattle.mm_lex.specs.declared.punct.Punct.TheVariants.{Colon, Equals}
use Rattle.mm_lex.specs.Puncts.{punct_spelling}
use Rattle.mm_lex.specs.Lexemes.{LexemeKind, Name, Word, Local, Label, Number, Punct, Other}

-- the characters of a token
abbrev pub spelling : LexemeKind → List ℕ
spelling (Name bytes) = chars bytes
spelling (Word word) = word_spelling word
spelling (Local n) = codes "_" ++ decimal n
spelling (Label n) = codes "bb" ++ decimal n
spelling (Number n) = decimal n
spelling (Punct punct) = punct_spelling punct
spelling Other = []

-- which tokens there are
abbrev pub IsToken : LexemeKind → Type 0
IsToken (Name bytes) = IsName bytes
IsToken (Word word) = Unit {0}
IsToken (Local n) = n ≤ 65535
IsToken (Label n) = n ≤ 65535
IsToken (Number n) = n < 2 ^ 64
IsToken (Punct punct) = Unit {0}
IsToken Other = ⊥

-- the characters that make punctuation longer: `::` and `=>` are taken before `:` and `=`
abbrev pub lengthens_punct : puncts.Punct → ℕ → Bool
lengthens_punct Colon = λ c. c == 58
lengthens_punct Equals = λ c. c == 62
lengthens_punct _ = λ c. false

-- the characters that make a token longer, of which none stands behind it
abbrev pub lengthens : LexemeKind → ℕ → Bool
lengthens (Number n) = is_ascii_digit
lengthens (Punct punct) = lengthens_punct punct
lengthens _ = is_xid_continue

-- a blank, a comment by what stands behind its `//`, or a token
pub data Piece : Type 0 where
  Blank : ℕ → Piece
  Comment : List ℕ → Piece
  Token : LexemeKind → Piece

-- the characters of a piece
abbrev pub written : Piece → List ℕ
written (Blank c) = c ∷ []
written (Comment line) = codes "//" ++ line
written (Token kind) = spelling kind

-- space, tab, LF and CR
abbrev pub is_blank : ℕ → Bool
is_blank c = (c == 32) || (c == 9) || (c == 10) || (c == 13)

-- any character but LF
abbrev pub is_within_line : ℕ → Bool
is_within_line c = not (c == 10)

-- which pieces there are
abbrev pub IsPiece : Piece → Type 0
IsPiece (Blank c) = is_blank c ≡ true
IsPiece (Comment line) = AllPass is_within_line line
IsPiece (Token kind) = IsToken kind

-- the characters that make a piece longer: a comment goes to the end of its line
abbrev pub goes_on : Piece → ℕ → Bool
goes_on (Blank c) = λ d. false
goes_on (Comment line) = is_within_line
goes_on (Token kind) = lengthens kind

-- Each is a piece, and what stands behind it does not make it longer; behind the last one stands the rest.
abbrev pub AreCut : List Piece → List ℕ → Type 0
AreCut [] rest = Unit {0}
AreCut (piece ∷ pieces) rest = IsPiece piece × StopsAt (goes_on piece) (flat_map written pieces ++ rest) × AreCut pieces rest
