use Rattle.std.proofs.Common.{◌≡◌, ◌+◌, ◌<◌, ◌^◌, drop}
use Rattle.mm_terms.specs.Length.{lengths_of}
use Rattle.mm_terms.proofs.ty.total_length.Given as goal

-- what is counted, and the types that are left, is all
abbrev pub invariant-loop-ty : goal.invariant-loop-ty
invariant-loop-ty l = (l.total + lengths_of (drop l.ty-index l.types) ≡ lengths_of l.types) × (l.total < 2 ^ 32)
