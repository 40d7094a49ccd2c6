use Rattle.std.proofs.Common.{◌∷◌, take, sym, ◌∙◌, ap, subst}
use Rattle.std.proofs.lemmas.List.{take_all, take_more}
use Rattle.mm_rules.specs.Faults.{IsFirst}
use Rattle.mm_rules.proofs.FaultLemmas.{first_alone, first_more}
use Rattle.mm_rules.proofs.order.first_fault.Goals as goal

pub loop-fault-init : goal.loop-fault-init
loop-fault-init c = first_alone c.in_ok-first.first.now

pub loop-fault-preserved : goal.loop-fault-preserved
loop-fault-preserved c =
    let first = c.in_ok-first.first.now in
    let others = c.in_ok-first.others.now in
    let i = c.loop-fault.fault-index in
    let least = c.earlier-least.result in
    subst (λ fs. IsFirst (first ∷ fs) least) (sym (take_more others i _ c.loop-fault-test.true))
    (first_more (first ∷ take i others) c.loop-fault.least _ least c.loop-fault.invariant c.earlier-least.ensures.one c.earlier-least.ensures.before_one c.earlier-least.ensures.before_other)

pub returns-clause-some : goal.returns-clause-some
returns-clause-some c =
    let first = c.in_ok-first.first.now in
    subst (λ fs. IsFirst fs c.loop-fault.least)
    (ap (λ fs. first ∷ fs) (take_all c.loop-fault.fault-index c.in_ok-first.others.now c.loop-fault-test.false) ∙ sym c.in_ok-first.ensures.cases.0)
    c.loop-fault.invariant
