use Rattle.std.proofs.Common.{Err, map, subst, arith}
use Rattle.std.proofs.lemmas.Result.{err_from_is_err_and}
use Rattle.mm_load_plain.specs.Asking.{Reports}
use Rattle.mm_load_plain.specs.Rules.{again, repeated}
use Rattle.mm_load_plain.specs.declared.rule.Rule.TheVariants.{DoubleName}
use Rattle.mm_load_plain.proofs.AskingLemmas.{along_fault, along_all, handed}
use Rattle.mm_load_plain.proofs.double_name.check_names.Goals as goal

pub returns-in_err-check_name : goal.returns-in_err-check_name
unfolding repeated
returns-in_err-check_name c =
    let e = c.in_err-check_name.field-0.0 in
    let xs = c.args.names.now in
    let x = c.name-item.result in
    let reported = subst (λ ns. Reports DoubleName (again ns x.text x.line) (Err e)) c.loop-name.invariant.0 (subst (λ name. Reports DoubleName (again (map (λ k. k.now) c.loop-name.seen.keys) name x.line) (Err e)) c.as_slice.ensures c.in_err-check_name.ensures.answer) in
    handed DoubleName (repeated xs) c.from_residual.result e (err_from_is_err_and c.from_residual.result c.from_residual.ensures.1)
    (along_fault (λ before name. again (map (λ n. n.text) before) name.text name.line) xs c.loop-name.name-index DoubleName x e c.loop-name.invariant.1 c.loop-name-test.true c.name-item.is reported)

pub returns : goal.returns
unfolding repeated
returns c = along_all (λ before name. again (map (λ n. n.text) before) name.text name.line) c.args.names.now c.loop-name.name-index DoubleName c.loop-name.invariant.1 (omega arith)
