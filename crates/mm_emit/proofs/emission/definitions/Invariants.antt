use Rattle.std.proofs.Common.{◌≡◌, map, take}
use Rattle.std.specs.Prelude.{All}
use Rattle.mm_objects.specs.declared.objects.Linkage.TheVariants.{External}
use Rattle.mm_objects.specs.Emitted.{def_of}
use Rattle.mm_emit.specs.Numbers.{FitsDef}
use Rattle.mm_emit.proofs.emission.definitions.Given as goal

abbrev pub invariant-loop-item : goal.invariant-loop-item
invariant-loop-item l = (l.defs.items ≡ map (def_of l.p External) (take l.item-index l.items)) × All FitsDef l.defs.items
