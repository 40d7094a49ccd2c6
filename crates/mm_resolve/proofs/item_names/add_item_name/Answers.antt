use Rattle.std.proofs.Common.{[], ◌++◌, sym, ◌∙◌, ap}
use Rattle.std.specs.List.{cons_option}
use Rattle.mm_resolve.specs.Doubles.{repeated}
use Rattle.mm_resolve.proofs.DoubleLemmas.{repeated-one}
use Rattle.mm_resolve.proofs.item_names.add_item_name.Goals as goal

pub returns-in_ok-add_again-clause-lines : goal.returns-in_ok-add_again-clause-lines
returns-in_ok-add_again-clause-lines c = λ among outside seen.
    c.in_ok-add_again.ensures.lines [] among outside seen
    ∙ ap (λ more. c.args.lines.now ++ more) (sym (repeated-one among c.in-Some.name.now))
    ∙ ap (λ o. c.args.lines.now ++ repeated among (cons_option o [])) c.in-Some.ensures
