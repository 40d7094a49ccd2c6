use Rattle.std.proofs.Common.{refl, subst}
use Rattle.mm_load_plain.specs.Asking.{Reports}
use Rattle.mm_load_plain.specs.Rules.{line_if}
use Rattle.mm_load_plain.specs.declared.rule.Rule.TheVariants.{DoubleName}
use Rattle.mm_load_plain.proofs.IndexLemmas.{was_there}
use Rattle.mm_load_plain.proofs.double_name.check_name.Goals as goal

pub returns-clause-answer : goal.returns-clause-answer
returns-clause-answer c =
    subst (λ b. Reports DoubleName (line_if b c.args.line) c.fault_if.result)
    (was_there (λ k. k.now) c.args.seen.now.keys c.args.name.now c.args.name.now c.in_ok-is_new.is_new c.in_ok-is_new.ensures.added refl)
    c.fault_if.ensures
