use Rattle.std.proofs.lemmas.List.{get_or_default}
use Rattle.std.proofs.lemmas.Result.{err_from_is_err_and}
use Rattle.mm_load_plain.specs.Rules.{unknown_label, unknown_in_arms}
use Rattle.mm_load_plain.specs.declared.rule.Rule.TheVariants.{UnknownName}
use Rattle.mm_load_plain.proofs.AskingLemmas.{fault_more, handed}
use Rattle.mm_load_plain.proofs.unknown_name.check_arms.Goals as goal

pub returns-in_err-check_label : goal.returns-in_err-check_label
unfolding unknown_in_arms
returns-in_err-check_label c =
    let f = c.args.function.now in
    let xs = c.args.arms.now in
    let i = c.loop-arm.arm-index in
    let e = c.in_err-check_label.field-0.0 in
    handed UnknownName (unknown_in_arms f xs) c.from_residual.result e (err_from_is_err_and c.from_residual.result c.from_residual.ensures.1)
    (fault_more (λ arm. unknown_label f arm.label) xs i UnknownName _ e c.loop-arm.invariant c.loop-arm-test.true (get_or_default xs i _ _ c.loop-arm-test.true) c.in_err-check_label.ensures)
