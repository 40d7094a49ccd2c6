use Rattle.std.proofs.Common.{◌++◌, sym, ◌∙◌, ap}
use Rattle.std.proofs.lemmas.List.{append-nil, take_all}
use Rattle.mm_rules.specs.DropTargets.{target_of, targets_in}
use Rattle.mm_rules.proofs.FaultLemmas.{flat_map-more}
use Rattle.mm_rules.proofs.drop_targets.add_targets.Goals as goal

pub loop-mention-init : goal.loop-mention-init
loop-mention-init c = sym (append-nil c.args.targets.now)

pub loop-mention-preserved : goal.loop-mention-preserved
loop-mention-preserved c =
    flat_map-more (λ m. target_of m.line m.what) c.args.mentions.now c.loop-mention.mention-index c.mention-item.result c.args.targets.now c.loop-mention.targets c.add_target.new.targets
    c.loop-mention-test.true c.mention-item.is c.loop-mention.invariant c.in_ok-add_target.ensures

pub returns : goal.returns
returns c = c.loop-mention.invariant ∙ ap (λ ms. c.args.targets.now ++ targets_in ms) (take_all c.loop-mention.mention-index c.args.mentions.now c.loop-mention-test.false)
