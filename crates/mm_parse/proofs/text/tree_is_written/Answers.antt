use Rattle.mm_lex.specs.Lexemes.{lexemes}
use Rattle.mm_lex.proofs.TextLaws.{lexemes-IsLexeme}
use Rattle.mm_grammar.proofs.WrittenItems.{text_written}
use Rattle.mm_parse.proofs.text.tree_is_written.Goals as goal

pub returns : goal.returns
returns c text tokens tree are spelled = text_written tree (lexemes text tokens) (lexemes-IsLexeme text tokens are) spelled
