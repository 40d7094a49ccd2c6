use Rattle.std.proofs.Common.{◌≡◌, true, take}
use Rattle.std.specs.List.{list_all}
use Rattle.mm_built.specs.Built.{built_type}
use Rattle.mm_built.proofs.types.+types.Given as goal

abbrev pub invariant-each_type-loop-ty : goal.invariant-each_type-loop-ty
invariant-each_type-loop-ty l = list_all built_type (take l.ty-index l.types) ≡ true
