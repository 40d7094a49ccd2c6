use Rattle.std.proofs.Common.{◌≡◌, List}
use Rattle.mm_lex.specs.Lexemes.{LexemeKind}
use Rattle.mm_print.specs.Printing.{Spell}
use Rattle.mm_tool.specs.Formatting.{IsTreeFormat, IsFormat}
use Rattle.mm_tool.proofs.Formats.{read_is}
use Rattle.mm_tool.proofs.Verdicts.{IfOk-then}
use Rattle.mm_tool.proofs.formatting.format_tokens.Goals as goal

pub returns-in-Ok : goal.returns-in-Ok
returns-in-Ok c =
    let tree = c.in-Ok.tree in
    IfOk-then c.format_tree.result (λ answer. (kinds : List LexemeKind) → Spell tree kinds → IsTreeFormat tree answer.status answer.output.items) (λ answer. IsFormat c.args.text.now answer.status answer.output.items)
    c.format_tree.ensures
    (λ answer told. read_is c.args.text.now c.args.tokens.now tree answer.status answer.output.items c.requires.lexed c.in-Ok.ensures.read told)
