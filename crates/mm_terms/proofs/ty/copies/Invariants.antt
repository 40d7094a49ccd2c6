use Rattle.std.proofs.Common.{◌≡◌, ◌++◌, drop}
use Rattle.mm_terms.proofs.ty.copies.Given as goal

-- the copies so far, and the types that are left, are the types
abbrev pub invariant-loop-ty : goal.invariant-loop-ty
invariant-loop-ty l = l.copies.items ++ drop l.ty-index l.types ≡ l.types
