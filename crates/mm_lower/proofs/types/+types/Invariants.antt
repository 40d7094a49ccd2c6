use Rattle.std.proofs.Common.{◌≡◌, ◌++◌, take}
use Rattle.mm_lower.specs.Seen.{params, paths}
use Rattle.mm_lower.specs.Types.{types_of}
use Rattle.mm_lower.proofs.types.+types.Given as goal

abbrev pub invariant-add_types-loop-ty : goal.invariant-add_types-loop-ty
invariant-add_types-loop-ty l = l.tys.items ≡ l.fn.tys.items ++ types_of (paths l.names) (params l.names) (take l.ty-index l.types)
