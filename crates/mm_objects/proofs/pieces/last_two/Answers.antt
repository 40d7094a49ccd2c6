use Rattle.std.proofs.Common.{◌≡◌, sym, None, refl, arith}
use Rattle.mm_objects.specs.LineReading.{last_two}
use Rattle.mm_objects.proofs.PieceLemmas.{seen, last_two-seen, last_two-short}
use Rattle.mm_objects.proofs.pieces.last_two.Goals as goal

pub returns-in_err-last : goal.returns-in_err-last
returns-in_err-last c =
    let none : last_two (seen c.args.words.now) ≡ None = last_two-short c.args.words.now (omega (arith, c.in_err-last.ensures.cases)) in
    rw (c.from_residual.ensures, none) refl

pub returns-in_err-mark : goal.returns-in_err-mark
returns-in_err-mark c =
    let none : last_two (seen c.args.words.now) ≡ None = last_two-short c.args.words.now (omega (arith, c.in_err-mark.ensures.cases, c.in_ok-last.ensures.cases.1)) in
    rw (c.from_residual-in_err-mark.ensures, none) refl

pub returns : goal.returns
returns c = sym (last_two-seen c.args.words.now c.in_ok-last.prefix.now c.in_ok-mark.prefix.now _ _ c.in_ok-last.ensures.cases.0 c.in_ok-mark.ensures.cases.0)
