use Rattle.std.proofs.Common.{◌≡◌, ◌++◌, map, take}
use Rattle.mm_load_plain.specs.Names.{look_up}
use Rattle.mm_load_plain.specs.Meaning.{type_of}
use Rattle.mm_load_plain.proofs.types.add_types.Given as goal

abbrev pub invariant-loop-ty : goal.invariant-loop-ty
invariant-loop-ty l = l.tys ≡ l.fn.tys ++ map (type_of (look_up l.scope)) (take l.ty-index l.types)
