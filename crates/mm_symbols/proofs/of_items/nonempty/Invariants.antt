use Rattle.std.proofs.Common.{◌≡◌, map, take}
use Rattle.std.specs.Prelude.{filter}
use Rattle.mm_symbols.specs.ItemForms.{has_some}
use Rattle.mm_symbols.proofs.of_items.nonempty.Given as goal

abbrev pub invariant-loop-part : goal.invariant-loop-part
invariant-loop-part l = l.names ≡ filter has_some (map (λ x. x.now) (take l.part-index l.parts))
