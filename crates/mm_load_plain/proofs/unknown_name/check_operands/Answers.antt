use Rattle.std.proofs.lemmas.Result.{err_from_is_err_and}
use Rattle.mm_load_plain.specs.Rules.{unknown_in_operand, unknown_in_operands}
use Rattle.mm_load_plain.specs.declared.rule.Rule.TheVariants.{UnknownName}
use Rattle.mm_load_plain.proofs.AskingLemmas.{fault_more, handed}
use Rattle.mm_load_plain.proofs.unknown_name.check_operands.Goals as goal

pub returns-in_err-check_operand : goal.returns-in_err-check_operand
unfolding unknown_in_operands
returns-in_err-check_operand c =
    let f = c.args.function.now in
    let xs = c.args.operands.now in
    let i = c.loop-operand.operand-index in
    let e = c.in_err-check_operand.field-0.0 in
    handed UnknownName (unknown_in_operands f xs) c.from_residual.result e (err_from_is_err_and c.from_residual.result c.from_residual.ensures.1)
    (fault_more (unknown_in_operand f) xs i UnknownName c.operand-item.result e c.loop-operand.invariant c.loop-operand-test.true c.operand-item.is c.in_err-check_operand.ensures)
