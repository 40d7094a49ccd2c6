use Rattle.std.proofs.Common.{map}
use Rattle.std.proofs.lemmas.Result.{err_from_is_err_and}
use Rattle.mm_load_plain.specs.Names.{look_up}
use Rattle.mm_load_plain.specs.Rules.{unknown_in_function, unknown_in_functions}
use Rattle.mm_load_plain.specs.Seen.{function_seen}
use Rattle.mm_load_plain.specs.declared.rule.Rule.TheVariants.{UnknownName}
use Rattle.mm_load_plain.proofs.AskingLemmas.{fault_seen, handed}
use Rattle.mm_load_plain.proofs.unknown_name.check.Goals as goal

pub returns-in_err-check_function : goal.returns-in_err-check_function
unfolding unknown_in_functions
returns-in_err-check_function c =
    let xs = c.args.functions.now in
    let e = c.in_err-check_function.field-0.0 in
    handed UnknownName (unknown_in_functions (look_up c.args.paths.now) (map function_seen xs)) c.from_residual.result e (err_from_is_err_and c.from_residual.result c.from_residual.ensures.1)
    (fault_seen (λ d. unknown_in_function (look_up c.args.paths.now) d.function) function_seen xs c.loop-function.function-index UnknownName c.function-item.result e c.loop-function.invariant c.loop-function-test.true c.function-item.is c.in_err-check_function.ensures)
