use Rattle.std.proofs.Common.{◌≡◌, ◌++◌, take}
use Rattle.mm_rules.specs.DropTargets.{targets_in}
use Rattle.mm_rules.proofs.drop_targets.add_targets.Given as goal

abbrev pub invariant-loop-mention : goal.invariant-loop-mention
invariant-loop-mention l = l.targets ≡ l.initial.targets ++ targets_in (take l.mention-index l.mentions)
