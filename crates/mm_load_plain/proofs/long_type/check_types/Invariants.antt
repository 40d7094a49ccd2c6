use Rattle.std.proofs.Common.{◌≡◌, [], take}
use Rattle.std.specs.List.{flat_map}
use Rattle.mm_load_plain.specs.Rules.{long_type}
use Rattle.mm_load_plain.proofs.long_type.check_types.Given as goal

abbrev pub invariant-loop-ty : goal.invariant-loop-ty
invariant-loop-ty l = flat_map long_type (take l.ty-index l.types) ≡ []
