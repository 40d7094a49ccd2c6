use Rattle.std.proofs.Common.{◌≢◌, ◌+◌, ◌<◌, length, sym, ◌∙◌, arith}
use Rattle.mm_objects.proofs.UnitNames.{cut-no_name, cut-last, cut-no_gap, cut-turn, cut-end}
use Rattle.mm_objects.proofs.unit_name.is_path_cut.Goals as goal

pub returns-then-not-tests_name : goal.returns-then-not-tests_name
returns-then-not-tests_name c = cut-no_name _ c.args.parts.now c.each.at c.each.invariant _ c.each-test.true (sym c.tests_name.ensures ∙ c.if-not-tests_name.true)

pub returns-then-at-parts : goal.returns-then-at-parts
returns-then-at-parts c = cut-last _ c.args.parts.now c.each.at c.each.invariant _ c.if-at-parts.true (sym c.tests_name.ensures ∙ c.if-not-tests_name.false)

pub returns-then-not-is_empty : goal.returns-then-not-is_empty
returns-then-not-is_empty c =
    let apart : c.each.at + 1 ≢ length c.args.parts.now = c.if-at-parts.false in
    let within : c.each.at + 1 < length c.args.parts.now = omega (arith, c.each-test.true, apart) in
    cut-no_gap _ c.args.parts.now c.each.at c.each.invariant _ within (sym c.is_empty.ensures ∙ c.if-not-is_empty.true)

pub each-preserved : goal.each-preserved
each-preserved c =
    let apart : c.each.at + 1 ≢ length c.args.parts.now = c.if-at-parts.false in
    let within : c.each.at + 1 < length c.args.parts.now = omega (arith, c.each-test.true, apart) in
    cut-turn _ c.args.parts.now c.each.at c.each.invariant _ _ within (sym c.tests_name.ensures ∙ c.if-not-tests_name.false) (sym c.is_empty.ensures ∙ c.if-not-is_empty.false)

pub returns : goal.returns
returns c = cut-end _ c.args.parts.now c.each.at c.each.invariant c.each-test.false
