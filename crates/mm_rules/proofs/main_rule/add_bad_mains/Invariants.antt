use Rattle.std.proofs.Common.{◌≡◌, ◌++◌, take}
use Rattle.std.specs.List.{flat_map}
use Rattle.mm_rules.specs.MainRule.{bad_entry}
use Rattle.mm_rules.proofs.main_rule.add_bad_mains.Given as goal

abbrev pub invariant-loop-item : goal.invariant-loop-item
invariant-loop-item l = l.lines ≡ l.initial.lines ++ flat_map bad_entry (take l.item-index l.items)
