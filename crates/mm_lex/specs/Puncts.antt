-- How punctuation is spelled.
use Rattle.std.specs.Prelude.{ℕ, List, [], ◌∷◌, Option, codes}
use Rattle.std.specs.List.{find}
use Rattle.std.specs.Str.{bytes_eq}
use Rattle.mm_lex.specs.declared.punct.Punct.{Punct}
use Rattle.mm_lex.specs.declared.punct.Punct.TheVariants as puncts

-- the characters of a punctuation token
abbrev pub punct_spelling : Punct → List ℕ
punct_spelling puncts.PathSep = codes "::"
punct_spelling puncts.Arrow = codes "->"
punct_spelling puncts.FatArrow = codes "=>"
punct_spelling puncts.Open = codes "("
punct_spelling puncts.Close = codes ")"
punct_spelling puncts.OpenBrace = codes "{"
punct_spelling puncts.CloseBrace = codes "}"
punct_spelling puncts.Less = codes "<"
punct_spelling puncts.Greater = codes ">"
punct_spelling puncts.OpenBracket = codes "["
punct_spelling puncts.CloseBracket = codes "]"
punct_spelling puncts.Comma = codes ","
punct_spelling puncts.Semicolon = codes ";"
punct_spelling puncts.Colon = codes ":"
punct_spelling puncts.Dot = codes "."
punct_spelling puncts.Star = codes "*"
punct_spelling puncts.At = codes "@"
punct_spelling puncts.Ampersand = codes "&"
punct_spelling puncts.Equals = codes "="

-- every punctuation token
abbrev pub all_puncts : List Punct
all_puncts =
    puncts.PathSep ∷ puncts.Arrow ∷ puncts.FatArrow ∷ puncts.Open ∷ puncts.Close ∷ puncts.OpenBrace ∷ puncts.CloseBrace ∷
    puncts.Less ∷ puncts.Greater ∷ puncts.OpenBracket ∷ puncts.CloseBracket ∷ puncts.Comma ∷ puncts.Semicolon ∷
    puncts.Colon ∷ puncts.Dot ∷ puncts.Star ∷ puncts.At ∷ puncts.Ampersand ∷ puncts.Equals ∷ []

-- the punctuation token that the bytes spell
unfoldable pub punct_in : List ℕ → Option Punct
punct_in bytes = find (λ punct. bytes_eq (punct_spelling punct) bytes) all_puncts
