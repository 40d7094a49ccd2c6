-- Tokens that are written, and how they stand around parts.
use Rattle.std.specs.Prelude.{ℕ, Bool, List, [], ◌∷◌, ◌++◌, map, flat_map}
use Rattle.mm_names.specs.declared.word.Word as words
use Rattle.mm_lex.specs.declared.punct.Punct as puncts
use Rattle.mm_lex.specs.declared.punct.Punct.TheVariants.{Open, Close, Less, Greater, Comma}
use Rattle.mm_lex.specs.Lexemes.{LexemeKind, Name, Word, Local, Label, Number, Punct}
use Rattle.mm_spell.specs.declared.spelled.Spelled as spelleds
use Rattle.mm_spell.specs.declared.spelled.Spelled.TheVariants as spelled

-- what kind of token is written
abbrev pub kind_of : spelleds.Spelled → LexemeKind
kind_of (spelled.Name bytes) = Name bytes.now
kind_of (spelled.Word w) = Word w
kind_of (spelled.Local n) = Local n
kind_of (spelled.Label n) = Label n
kind_of (spelled.Number n) = Number n
kind_of (spelled.Punct p) = Punct p

abbrev pub kinds : List spelleds.Spelled → List LexemeKind
kinds written = map kind_of written

-- one behind a comma
abbrev pub behind_comma : List LexemeKind → List LexemeKind
behind_comma tokens = Punct Comma ∷ tokens

-- one after the other, with commas between them
abbrev pub listed : List (List LexemeKind) → List LexemeKind
listed [] = []
listed (first ∷ others) = first ++ flat_map behind_comma others

abbrev pub in_parens : List LexemeKind → List LexemeKind
in_parens tokens = Punct Open ∷ (tokens ++ Punct Close ∷ [])

-- in angle brackets, which are left out around nothing
abbrev pub in_angles : List (List LexemeKind) → List LexemeKind
in_angles [] = []
in_angles (first ∷ others) = Punct Less ∷ (listed (first ∷ others) ++ Punct Greater ∷ [])
