use Rattle.std.proofs.Common.{◌≡◌, ◌+◌, ◌∷◌, [], ◌++◌, take, sym, ◌∙◌, ap}
use Rattle.mm_definitions.specs.Definitions.{definitions_in}
use Rattle.mm_definitions.specs.Placed.{count_in}
use Rattle.mm_rules.specs.TreeFaults.{Reached, start, all_defined, behind}
use Rattle.mm_rules.proofs.TreeLemmas.{defined_more, behind_more}
use Rattle.mm_rules.proofs.tree_faults.all_definitions.Goals as goal

pub loop-krate-preserved : goal.loop-krate-preserved
loop-krate-preserved c =
    let crates = c.args.crates.now in
    let i = c.loop-krate.krate-index in
    let k = c.krate-item.result in
    let found = c.in_ok-found.found in
    let so_far = all_defined start (take i crates) in
    let own = c.in_ok-found.ensures.named ∙ ap (λ n. definitions_in n k) c.loop-krate.invariant.1 in (
      c.in_ok-push.ensures.items
          ∙ ap (λ ds. ds ++ found.named ∷ []) c.loop-krate.invariant.0
          ∙ ap (λ d. so_far ++ d ∷ []) own
          ∙ sym (defined_more start crates i k c.loop-krate-test.true c.krate-item.is),
      c.in_ok-found.ensures.next
          ∙ ap (λ n. n + count_in k) c.loop-krate.invariant.1
          ∙ sym (ap (λ (r : Reached). r.count) (behind_more start crates i k c.loop-krate-test.true c.krate-item.is)),
    )
