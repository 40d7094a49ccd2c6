use Rattle.std.proofs.Common.{◌≡◌, Err, inl, ap, List}
use Rattle.mm_lex.specs.Lexemes.{LexemeKind}
use Rattle.mm_print.specs.Printing.{Spell, IsCanonical}
use Rattle.mm_tool.specs.Formatting.{TellsUnloaded, IsTreeFormat}
use Rattle.mm_tool.proofs.Formats.{unloaded_is}
use Rattle.mm_tool.proofs.Verdicts.{IfOk-then, IfOk-both}
use Rattle.mm_tool.proofs.formatting.format_tree.Goals as goal

pub returns-in-Ok : goal.returns-in-Ok
returns-in-Ok c =
    let tree = c.args.tree.now in
    IfOk-both c.printed.result (λ answer. answer.status ≡ 0) (λ answer. (kinds : List LexemeKind) → Spell tree kinds → IsCanonical tree answer.output.items)
    (λ answer. (kinds : List LexemeKind) → Spell tree kinds → IsTreeFormat tree answer.status answer.output.items) c.printed.ensures.status c.printed.ensures.canonical
    (λ answer status canonical kinds spell. inl (record { status_is = status; program = c.in-Ok._program; loaded = c.in-Ok.ensures.program; canonical = canonical kinds spell }))

pub returns-in-Err : goal.returns-in-Err
returns-in-Err c =
    let tree = c.args.tree.now in
    IfOk-then c.unloaded.result (λ answer. TellsUnloaded c.in-Err.error answer.status answer.output.items) (λ answer. (kinds : List LexemeKind) → Spell tree kinds → IsTreeFormat tree answer.status answer.output.items)
    c.unloaded.ensures
    (λ answer told kinds spell. unloaded_is tree c.in-Err.error answer.status answer.output.items (λ rule line is. c.in-Err.ensures.fault rule line (ap Err is)) (λ is. c.in-Err.ensures.not_built (ap Err is)) told)
