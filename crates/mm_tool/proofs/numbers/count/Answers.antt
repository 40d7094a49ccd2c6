use Rattle.std.proofs.Common.{nat_eq, codes, ap, ◌∙◌}
use Rattle.std.proofs.lemmas.Bool.{false≢true}
use Rattle.std.specs.Cmp.Lexicographic.{pointwise, same_text}
use Rattle.mm_tool.proofs.CommandNumbers.{zero_counts, counts_from_one}
use Rattle.mm_tool.proofs.numbers.count.Goals as goal

pub returns-then-eq-clause-some : goal.returns-then-eq-clause-some
returns-then-eq-clause-some c = zero_counts c.args.most c.args.digits.now (same_text c.args.digits.now (codes "0") c.if-eq.ensures)

pub returns-clause-none : goal.returns-clause-none
returns-clause-none c none n is = c.number.ensures.none none n (counts_from_one c.args.most n c.args.digits.now is (λ zero. false≢true (c.if-eq.ensures ∙ ap (λ digits. pointwise nat_eq digits (codes "0")) zero)))
