use Rattle.std.proofs.Common.{◌≡◌, ◌∙◌, ap, arith, get_or, length, take, sym, subst}
use Rattle.mm_definitions.specs.Definitions.{definitions_in}
use Rattle.mm_mentions.specs.ItemMentions.{mentions_in}
use Rattle.mm_resolve.specs.Scopes.{Knows, next}
use Rattle.mm_rules.specs.DropTargets.{targets_in}
use Rattle.mm_rules.specs.TreeFaults.{Reached, start, all_defined, behind}
use Rattle.mm_rules.proofs.FaultLemmas.{flat_map-more}
use Rattle.mm_rules.proofs.TreeLemmas.{length_defined, own_is, behind_more, faults_more}
use Rattle.mm_rules.proofs.tree_faults.add_crates.Goals as goal

pub bounds-defined-place : goal.bounds-defined-place
bounds-defined-place c = omega (arith, c.each-test.true, ap length c.requires, length_defined start c.args.crates.now)

pub each-preserved : goal.each-preserved
each-preserved c =
    let crates = c.args.crates.now in
    let i = c.each.place in
    let k = c.index-crates-place.result in
    let reached = behind start (take i crates) in
    let seen = reached.scope in
    let there = c.index-defined-place.result in
    let at : there ≡ get_or (all_defined start crates) i there = c.index-defined-place.is ∙ ap (λ ds. get_or ds i there) c.requires in
    let own = c.as_slice.ensures ∙ own_is start crates i k there c.each-test.true c.index-crates-place.is at in
    let knows = subst (λ ds. Knows c.in_ok-scope.scope (next seen ds)) own (c.in_ok-scope.ensures seen c.each.invariant.0) in (
      subst (λ (r : Reached). Knows c.in_ok-scope.scope r.scope) (sym (behind_more start crates i k c.each-test.true c.index-crates-place.is)) knows,
      faults_more start crates i k c.each-test.true c.index-crates-place.is c.args.faults.now c.each.faults c.add_crate.new.faults c.each.invariant.1
          (c.in_ok-add_crate.ensures.faults (next seen (definitions_in reached.count k)) knows),
      flat_map-more (λ j. targets_in (mentions_in j)) crates i k c.args.targets.now c.each.targets c.add_crate.new.targets c.each-test.true c.index-crates-place.is c.each.invariant.2 c.in_ok-add_crate.ensures.targets,
    )
