use Rattle.std.proofs.lemmas.Result.{err_from_is_err_and}
use Rattle.mm_load_plain.specs.Rules.{unknown_in_statement, unknown_in_statements}
use Rattle.mm_load_plain.specs.declared.rule.Rule.TheVariants.{UnknownName}
use Rattle.mm_load_plain.proofs.AskingLemmas.{fault_more, handed}
use Rattle.mm_load_plain.proofs.unknown_name.check_statements.Goals as goal

pub returns-in_err-check_statement : goal.returns-in_err-check_statement
unfolding unknown_in_statements
returns-in_err-check_statement c =
    let f = c.args.function.now in
    let xs = c.args.statements.now in
    let i = c.loop-statement.statement-index in
    let e = c.in_err-check_statement.field-0.0 in
    handed UnknownName (unknown_in_statements f xs) c.from_residual.result e (err_from_is_err_and c.from_residual.result c.from_residual.ensures.1)
    (fault_more (unknown_in_statement f) xs i UnknownName c.statement-item.result e c.loop-statement.invariant c.loop-statement-test.true c.statement-item.is c.in_err-check_statement.ensures)
