use Rattle.std.proofs.Common.{◌≡◌, IfErr, Result, Vec, Global, sym, subst}
use Rattle.std.proofs.lemmas.Result.{err_from_is_err_and}
use Rattle.mm_lex.specs.declared.text_fault.TextFault.{TextFault}
use Rattle.mm_lex.specs.declared.token.Token.{Token}
use Rattle.mm_lex.specs.Tokens.{IsFaultOf}
use Rattle.mm_lex.proofs.Scanning.{IsFaultOf-front, front_short, AreTokensOf-front}
use Rattle.mm_lex.proofs.scan.lex.Goals as goal

pub returns-in_err-tokens-clause-bad : goal.returns-in_err-tokens-clause-bad
returns-in_err-tokens-clause-bad c =
    let p = err_from_is_err_and c.from_residual.result c.from_residual.ensures.1 in
    let same : c.in_err-tokens.field-0.0 ≡ p.0 = cc in
    let fault = IsFaultOf-front c.args.text.now c.valid_front-valid.result.now c.in_err-tokens.field-0.0 c.valid_front-valid.ensures.value c.in_err-tokens.ensures.bad in
    subst (λ (r : Result (Vec Token Global) TextFault). IfErr r (IsFaultOf c.args.text.now)) (sym p.1) (subst (IsFaultOf c.args.text.now) same fault)

pub returns-then-valid-text-clause-bad : goal.returns-then-valid-text-clause-bad
returns-then-valid-text-clause-bad c =
    let read = c.in_ok-tokens.ensures.ok in
    subst (IsFaultOf c.args.text.now) (sym c.fault.ensures)
    (front_short c.args.text.now c.valid_front-valid.result.now c.in_ok-tokens.tokens.items c.in_ok-tokens.end c.valid_front-valid.ensures.value c.if-valid-text.true read)

pub returns-clause-ok : goal.returns-clause-ok
returns-clause-ok c =
    AreTokensOf-front c.args.text.now c.valid_front-valid.result.now c.in_ok-tokens.tokens.items c.in_ok-tokens.end c.valid_front-valid.ensures.value c.if-valid-text.false c.in_ok-tokens.ensures.ok
