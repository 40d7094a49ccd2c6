-- The bytes that are written for tokens: those of each, and of the gap behind it.
use Rattle.std.specs.Prelude.{ℕ, List, [], ◌∷◌, ◌++◌, cond, codes, decimal}
use Rattle.mm_names.specs.Words.{word_spelling}
use Rattle.mm_lex.specs.Puncts.{punct_spelling}
use Rattle.mm_lex.specs.Lexemes.{LexemeKind, Name, Word, Local, Label, Number, Punct, Other}
use Rattle.mm_print.specs.declared.gap.Gap as gaps
use Rattle.mm_print.specs.declared.gap.Gap.TheVariants.{LineFeed, Nothing, OneBlank}
use Rattle.mm_print.specs.Canonical.{ends_line, passes, punct_of, gap_of}

-- the bytes of a token
abbrev pub token_bytes : LexemeKind → List ℕ
token_bytes (Name bytes) = bytes
token_bytes (Word word) = word_spelling word
token_bytes (Local n) = codes "_" ++ decimal n
token_bytes (Label n) = codes "bb" ++ decimal n
token_bytes (Number n) = decimal n
token_bytes (Punct p) = punct_spelling p
token_bytes Other = []

abbrev pub gap_bytes : gaps.Gap → List ℕ
gap_bytes LineFeed = 10 ∷ []
gap_bytes Nothing = []
gap_bytes OneBlank = 32 ∷ []

-- what stands behind a token: at the end a line feed, where it ends a line
abbrev pub gap_behind : LexemeKind → List LexemeKind → gaps.Gap
gap_behind k [] = cond (passes ends_line (punct_of k)) LineFeed Nothing
gap_behind k (next ∷ ks) = gap_of (punct_of k) (punct_of next)

-- the bytes of tokens and of what stands between them
abbrev pub printed : List LexemeKind → List ℕ
printed [] = []
printed (k ∷ ks) = token_bytes k ++ (gap_bytes (gap_behind k ks) ++ printed ks)
