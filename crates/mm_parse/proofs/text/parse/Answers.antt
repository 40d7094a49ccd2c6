use Rattle.std.proofs.Common.{sym, subst}
use Rattle.mm_lex.specs.declared.text_fault.TextRule.{TextRule}
use Rattle.mm_forms.specs.Given.{Stops}
use Rattle.mm_forms.specs.Verdict.{whole_in}
use Rattle.mm_lex.specs.Lexemes.{lexemes}
use Rattle.mm_grammar.specs.Faults.{IsGrammarFault}
use Rattle.mm_grammar.specs.ItemGrammar.{crates}
use Rattle.mm_grammar.specs.Reading.{read}
use Rattle.mm_grammar.proofs.Outcomes.{read_is_text, stop_is_first}
use Rattle.mm_parse.proofs.text.parse.Goals as goal

pub returns-in-Ok-clause-read : goal.returns-in-Ok-clause-read
returns-in-Ok-clause-read c = read_is_text (lexemes c.args.text.now c.args.tokens.now) c.in-Ok.tree c.in-Ok.ensures

pub returns-in-Err-At-clause-fault : goal.returns-in-Err-At-clause-fault
returns-in-Err-At-clause-fault c =
    let ts = lexemes c.args.text.now c.args.tokens.now in
    let fails = subst (λ stop. Stops stop (whole_in (read crates ts))) c.in-Err-At.field-0-is c.in-Err-At.ensures in
    subst (λ (rule : TextRule). IsGrammarFault c.args.text.now c.args.tokens.now rule c.position-line.result.0 c.position-line.result.1) (sym c.broken.ensures)
    (stop_is_first c.args.text.now c.args.tokens.now c.in-Err-At.fault c.in-Err-At.left c.position-line.result.0 c.position-line.result.1 fails c.position-line.ensures)
