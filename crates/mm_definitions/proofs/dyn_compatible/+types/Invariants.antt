use Rattle.std.proofs.Common.{◌≡◌, false, take}
use Rattle.std.specs.List.{list_any}
use Rattle.mm_definitions.specs.DynCompatible.{has_self}
use Rattle.mm_definitions.proofs.dyn_compatible.+types.Given as goal

abbrev pub invariant-have_self-loop-ty : goal.invariant-have_self-loop-ty
invariant-have_self-loop-ty l = list_any has_self (take l.ty-index l.types) ≡ false
