use Rattle.std.proofs.Common.{◌≡◌, map, take}
use Rattle.mm_symbols.specs.ItemForms.{type_form}
use Rattle.mm_symbols.proofs.of_items.type_forms.Given as goal

abbrev pub invariant-loop-ty : goal.invariant-loop-ty
invariant-loop-ty l = l.forms.items ≡ map (type_form l.p) (take l.ty-index l.types)
