-- The tokens that a reader sees.
use Rattle.std.specs.Prelude.{List}
use Rattle.mm_lex.specs.Lexemes.{Lexeme, lexemes}
use Rattle.mm_grammar.specs.declared.cursor.Tokens.{Tokens}

abbrev pub seen : Tokens → List Lexeme
seen tokens = lexemes tokens.text.now tokens.tokens.now
