use Rattle.std.proofs.Common.{◌++◌, sym, ◌∙◌, ap}
use Rattle.std.specs.List.{flat_map}
use Rattle.std.proofs.lemmas.List.{append-nil, take_all}
use Rattle.mm_ast.specs.declared.items.Item.TheViews.{out-Item}
use Rattle.mm_resolve.specs.Doubles.{line_if}
use Rattle.mm_rules.specs.MainRule.{bad_entry}
use Rattle.mm_rules.proofs.FaultLemmas.{flat_map-more}
use Rattle.mm_rules.proofs.main_rule.add_bad_mains.Goals as goal

pub loop-item-init : goal.loop-item-init
loop-item-init c = sym (append-nil c.args.lines.now)

pub loop-item-preserved : goal.loop-item-preserved
loop-item-preserved c =
    flat_map-more bad_entry c.args.items.now c.loop-item.item-index c.item-item.result c.args.lines.now c.loop-item.lines c.add_if.new.lines
    c.loop-item-test.true c.item-item.is c.loop-item.invariant
    (c.in_ok-add_if.ensures ∙ ap (λ fails. c.loop-item.lines ++ line_if fails (out-Item c.item-item.result).line) c.is_bad_main.ensures)

pub returns : goal.returns
returns c = c.loop-item.invariant ∙ ap (λ items. c.args.lines.now ++ flat_map bad_entry items) (take_all c.loop-item.item-index c.args.items.now c.loop-item-test.false)
