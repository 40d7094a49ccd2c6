use Rattle.std.proofs.Common.{◌≡◌, map, take}
use Rattle.std.specs.List.{flat_map}
use Rattle.mm_load_plain.specs.Seen.{function_seen}
use Rattle.mm_load_plain.specs.WrittenItem.{functions_in}
use Rattle.mm_load_plain.proofs.functions.functions.Given as goal

abbrev pub invariant-loop-item : goal.invariant-loop-item
invariant-loop-item l = map function_seen l.functions.items ≡ flat_map (λ item. functions_in item l.krate.name.text) (take l.item-index l.krate.items)
