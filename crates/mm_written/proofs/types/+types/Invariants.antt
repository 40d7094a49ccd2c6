use Rattle.std.proofs.Common.{◌≡◌, ◌+◌, ◌<◌, ◌^◌, true, take, drop}
use Rattle.std.specs.List.{list_all}
use Rattle.mm_written.specs.Types.{formed, constructors_in}
use Rattle.mm_written.proofs.types.+types.Given as goal

-- the types so far are formed; what is counted, and the types that are left, is all
abbrev pub invariant-total-loop-ty : goal.invariant-total-loop-ty
invariant-total-loop-ty l =
    (list_all formed (take l.ty-index l.types) ≡ true)
    × (l.total + constructors_in (drop l.ty-index l.types) ≡ constructors_in l.types)
    × (l.total < 2 ^ 32)
