use Rattle.std.proofs.Common.{◌∙◌, sym}
use Rattle.mm_names.specs.declared.word.Word.TheVariants as words
use Rattle.mm_lex.specs.Lexemes as kinds
use Rattle.mm_forms.specs.Forms.{firsts}
use Rattle.mm_grammar.specs.Codes.{code, kind_code}
use Rattle.mm_grammar.specs.Seen.{seen}
use Rattle.mm_grammar.specs.Grammar.{set, statement, place, base}
use Rattle.mm_grammar.specs.Reading.{start}
use Rattle.mm_grammar.proofs.Starting.{begins_else}
use Rattle.mm_parse_bodies.proofs.statements.starts_statement.Goals as goal

pub returns-else-starts_word : goal.returns-else-starts_word
unfolding statement set place base
returns-else-starts_word c = c.starts_place.ensures ∙ begins_else code (kind_code (kinds.Word words.Print)) (firsts code start place) (seen c.args.tokens) (sym c.starts_word.ensures ∙ c.if-starts_word.false)
