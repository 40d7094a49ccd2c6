use Rattle.std.proofs.Common.{◌≡◌, ◌+◌, ◌<◌, take, get_or, ap, sym, ◌∙◌, subst, arith}
use Rattle.std.specs.Char.{digit_value}
use Rattle.std.specs.Str.Parse.{digits_value}
use Rattle.std.proofs.lemmas.List.{take_all}
use Rattle.std.proofs.lemmas.Int.Digits.{digits_value_more}
use Rattle.mm_names.proofs.Numerals.{number_in-large, number_in-whole, is_numeral-at}
use Rattle.mm_names.proofs.decimals.decimal.Goals as goal

-- every character is a digit
pub returns-in_err-digit-clause-value : goal.returns-in_err-digit-clause-value
returns-in_err-digit-clause-value c =
    let bytes = c.args.bytes.now in
    let i = c.loop-b.b-index in
    let here : c.from.result ≡ get_or bytes i 0 = c.from.ensures in
    let digit : digit_value (get_or bytes i 0) < 10 = is_numeral-at bytes i (cc) (omega arith) in
    absurd (c.in_err-digit.ensures.value (subst (λ d. digit_value d < 10) (sym here) digit))

pub returns-in_err-checked_mul-clause-value : goal.returns-in_err-checked_mul-clause-value
returns-in_err-checked_mul-clause-value c =
    let bytes = c.args.bytes.now in
    let i = c.loop-b.b-index in
    let more = digits_value_more 10 bytes i (omega arith) in
    c.from_residual-in_err-checked_mul.ensures ∙ sym (number_in-large c.args.limit bytes (i + 1) (omega arith))

pub returns-in_err-n-clause-value : goal.returns-in_err-n-clause-value
returns-in_err-n-clause-value c =
    let bytes = c.args.bytes.now in
    let i = c.loop-b.b-index in
    let here : c.from.result ≡ get_or bytes i 0 = c.from.ensures in
    let more = digits_value_more 10 bytes i (omega arith) in
    c.from_residual-in_err-n.ensures ∙ sym (number_in-large c.args.limit bytes (i + 1) (omega (arith, ap digit_value here, c.in_ok-digit.ensures.value, c.in_err-n.ensures, c.in_ok-checked_mul.ensures)))

pub loop-b-preserved : goal.loop-b-preserved
loop-b-preserved c =
    let bytes = c.args.bytes.now in
    let i = c.loop-b.b-index in
    let here : c.from.result ≡ get_or bytes i 0 = c.from.ensures in
    let more = digits_value_more 10 bytes i (omega arith) in
    omega (arith, ap digit_value here, c.in_ok-digit.ensures.value, c.in_ok-n.ensures, c.in_ok-checked_mul.ensures)

pub returns-clause-value : goal.returns-clause-value
returns-clause-value c =
    let bytes = c.args.bytes.now in
    let whole : take c.loop-b.b-index bytes ≡ bytes = take_all c.loop-b.b-index bytes (omega arith) in
    c.then_some.ensures ∙ sym (number_in-whole c.args.limit c.loop-b.n bytes (cc) (c.loop-b.invariant ∙ ap (digits_value 10) whole))
