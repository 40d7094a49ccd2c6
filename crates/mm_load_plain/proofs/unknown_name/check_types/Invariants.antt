use Rattle.std.proofs.Common.{◌≡◌, [], take}
use Rattle.std.specs.List.{flat_map}
use Rattle.mm_load_plain.specs.Names.{look_up}
use Rattle.mm_load_plain.specs.Rules.{unknown_in_type}
use Rattle.mm_load_plain.proofs.unknown_name.check_types.Given as goal

abbrev pub invariant-loop-ty : goal.invariant-loop-ty
invariant-loop-ty l = flat_map (unknown_in_type (look_up l.scope)) (take l.ty-index l.types) ≡ []
