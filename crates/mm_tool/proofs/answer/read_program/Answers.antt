use Rattle.std.proofs.Common.{◌≡◌, Err, ap, sym, subst}
use Rattle.std.proofs.lemmas.Result.{err_from_is_err_and}
use Rattle.mm_tool.specs.declared.text_refusal.TextRefusal.TheVariants.{BadText}
use Rattle.mm_lex.specs.Tokens.{AreTokensOf}
use Rattle.mm_tool.specs.Refusals.{of_text, of_load}
use Rattle.mm_tool.proofs.Meanings.{unlexed, unparsed, unloaded, program_of, handed_on}
use Rattle.mm_tool.proofs.answer.read_program.Goals as goal

pub returns-in_err-tokens-clause-bad : goal.returns-in_err-tokens-clause-bad
returns-in_err-tokens-clause-bad c bad p m =
    let e = err_from_is_err_and c.from_residual.result c.from_residual.ensures.1 in
    let fault = c.in_err-tokens.field-0.0 in
    unlexed c.args.text.now fault p c.in_err-tokens.ensures.bad (handed_on c.from_residual.result e.0 (of_text fault) BadText e.1 e.2 bad) m

pub returns-in_err-tree-clause-bad : goal.returns-in_err-tree-clause-bad
returns-in_err-tree-clause-bad c bad p m =
    let e = err_from_is_err_and c.from_residual-in_err-tree.result c.from_residual-in_err-tree.ensures.1 in
    let fault = c.in_err-tree.field-0.0 in
    let same : c.in_ok-tokens.tokens.items ≡ c.deref.result.now = sym c.deref.ensures.value in
    let lexed = subst (AreTokensOf c.args.text.now) same c.in_ok-tokens.ensures.ok in
    unparsed c.args.text.now c.deref.result.now fault p lexed c.in_err-tree.ensures.fault (handed_on c.from_residual-in_err-tree.result e.0 (of_text fault) BadText e.1 e.2 bad) m

pub returns-in_err-load-clause-bad : goal.returns-in_err-load-clause-bad
returns-in_err-load-clause-bad c bad p m =
    let e = err_from_is_err_and c.from_residual-in_err-load.result c.from_residual-in_err-load.ensures.1 in
    let error = c.in_err-load.field-0.0 in
    let same : c.in_ok-tokens.tokens.items ≡ c.deref.result.now = sym c.deref.ensures.value in
    let lexed = subst (AreTokensOf c.args.text.now) same c.in_ok-tokens.ensures.ok in
    unloaded c.in_ok-tree.tree error p (λ rule line is. c.in_err-load.ensures.fault rule line (ap Err is)) (λ is. c.in_err-load.ensures.not_built (ap Err is))
    (handed_on c.from_residual-in_err-load.result e.0 (of_load error) BadText e.1 e.2 bad)
    (program_of c.args.text.now c.deref.result.now c.in_ok-tree.tree p lexed c.in_ok-tree.ensures.read m)
