use Rattle.std.proofs.Common.{Ok, Err, map, subst}
use Rattle.std.proofs.lemmas.Result.{err_from_is_err_and}
use Rattle.mm_load_plain.specs.Asking.{Reports}
use Rattle.mm_load_plain.specs.Names.{look_up}
use Rattle.mm_load_plain.specs.Seen.{function_seen}
use Rattle.mm_load_plain.specs.WrittenItem.{functions_of, paths_in}
use Rattle.mm_load_plain.specs.Rules.{fails, unknown_in_functions, double_in_items, misfits_in_functions, bad_main, long_in_functions}
use Rattle.mm_load_plain.specs.declared.rule.Rule.TheVariants.{UnknownName, DoubleName, WrongArity, BadMain, LongType}
use Rattle.mm_load_plain.proofs.Judgements.{asked_of, judged_fault, judged_all}
use Rattle.mm_load_plain.proofs.check_rules.Goals as goal

pub returns-in_err-check : goal.returns-in_err-check
unfolding fails
returns-in_err-check c those same =
    let e = c.in_err-check.field-0.0 in
    judged_fault c.args.krate.now UnknownName c.from_residual.result e (err_from_is_err_and c.from_residual.result c.from_residual.ensures.1) tt
    (asked_of UnknownName (λ ns fs. unknown_in_functions ns fs) (Err e) (look_up c.args.paths.now) (paths_in c.args.krate.now) (map function_seen c.args.functions.now) (functions_of c.args.krate.now) same those c.in_err-check.ensures)

pub returns-in_err-check-2 : goal.returns-in_err-check-2
unfolding fails
returns-in_err-check-2 c those same =
    let kept-0 = (asked_of UnknownName (λ ns fs. unknown_in_functions ns fs) (Ok c.in_ok-check.field-0) (look_up c.args.paths.now) (paths_in c.args.krate.now) (map function_seen c.args.functions.now) (functions_of c.args.krate.now) same those c.in_ok-check.ensures).answer in
    let e = c.in_err-check-2.field-0.0 in
    judged_fault c.args.krate.now DoubleName c.from_residual-in_err-check-2.result e (err_from_is_err_and c.from_residual-in_err-check-2.result c.from_residual-in_err-check-2.ensures.1) (kept-0, tt)
    (subst (λ is. Reports DoubleName (double_in_items is) (Err e)) c.as_slice.ensures c.in_err-check-2.ensures)

pub returns-in_err-check-3 : goal.returns-in_err-check-3
unfolding fails
returns-in_err-check-3 c those same =
    let kept-0 = (asked_of UnknownName (λ ns fs. unknown_in_functions ns fs) (Ok c.in_ok-check.field-0) (look_up c.args.paths.now) (paths_in c.args.krate.now) (map function_seen c.args.functions.now) (functions_of c.args.krate.now) same those c.in_ok-check.ensures).answer in
    let kept-1 = (subst (λ is. Reports DoubleName (double_in_items is) (Ok c.in_ok-check-2.field-0)) c.as_slice.ensures c.in_ok-check-2.ensures).answer in
    let e = c.in_err-check-3.field-0.0 in
    judged_fault c.args.krate.now WrongArity c.from_residual-in_err-check-3.result e (err_from_is_err_and c.from_residual-in_err-check-3.result c.from_residual-in_err-check-3.ensures.1) (kept-0, (kept-1, tt))
    (asked_of WrongArity (λ ns fs. misfits_in_functions ns fs) (Err e) (look_up c.args.paths.now) (paths_in c.args.krate.now) (map function_seen c.args.functions.now) (functions_of c.args.krate.now) same those c.in_err-check-3.ensures)

pub returns-in_err-check-4 : goal.returns-in_err-check-4
unfolding fails
returns-in_err-check-4 c those same =
    let kept-0 = (asked_of UnknownName (λ ns fs. unknown_in_functions ns fs) (Ok c.in_ok-check.field-0) (look_up c.args.paths.now) (paths_in c.args.krate.now) (map function_seen c.args.functions.now) (functions_of c.args.krate.now) same those c.in_ok-check.ensures).answer in
    let kept-1 = (subst (λ is. Reports DoubleName (double_in_items is) (Ok c.in_ok-check-2.field-0)) c.as_slice.ensures c.in_ok-check-2.ensures).answer in
    let kept-2 = (asked_of WrongArity (λ ns fs. misfits_in_functions ns fs) (Ok c.in_ok-check-3.field-0) (look_up c.args.paths.now) (paths_in c.args.krate.now) (map function_seen c.args.functions.now) (functions_of c.args.krate.now) same those c.in_ok-check-3.ensures).answer in
    let e = c.in_err-check-4.field-0.0 in
    judged_fault c.args.krate.now BadMain c.from_residual-in_err-check-4.result e (err_from_is_err_and c.from_residual-in_err-check-4.result c.from_residual-in_err-check-4.ensures.1) (kept-0, (kept-1, (kept-2, tt)))
    (asked_of BadMain (λ ns fs. bad_main ns fs c.args.krate.now) (Err e) (look_up c.args.paths.now) (paths_in c.args.krate.now) (map function_seen c.args.functions.now) (functions_of c.args.krate.now) same those c.in_err-check-4.ensures)

pub returns : goal.returns
unfolding fails
returns c those same =
    let kept-0 = (asked_of UnknownName (λ ns fs. unknown_in_functions ns fs) (Ok c.in_ok-check.field-0) (look_up c.args.paths.now) (paths_in c.args.krate.now) (map function_seen c.args.functions.now) (functions_of c.args.krate.now) same those c.in_ok-check.ensures).answer in
    let kept-1 = (subst (λ is. Reports DoubleName (double_in_items is) (Ok c.in_ok-check-2.field-0)) c.as_slice.ensures c.in_ok-check-2.ensures).answer in
    let kept-2 = (asked_of WrongArity (λ ns fs. misfits_in_functions ns fs) (Ok c.in_ok-check-3.field-0) (look_up c.args.paths.now) (paths_in c.args.krate.now) (map function_seen c.args.functions.now) (functions_of c.args.krate.now) same those c.in_ok-check-3.ensures).answer in
    let kept-3 = (asked_of BadMain (λ ns fs. bad_main ns fs c.args.krate.now) (Ok c.in_ok-check-4.field-0) (look_up c.args.paths.now) (paths_in c.args.krate.now) (map function_seen c.args.functions.now) (functions_of c.args.krate.now) same those c.in_ok-check-4.ensures).answer in
    judged_all c.args.krate.now c.check-5.result (kept-0, (kept-1, (kept-2, (kept-3, tt))))
    (asked_of LongType (λ ns fs. long_in_functions fs) c.check-5.result (look_up c.args.paths.now) (paths_in c.args.krate.now) (map function_seen c.args.functions.now) (functions_of c.args.krate.now) same those c.check-5.ensures)
