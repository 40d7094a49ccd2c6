use Rattle.std.proofs.Common.{◌≡◌, ◌+◌, ◌<◌, ◌^◌, drop}
use Rattle.mm_terms.specs.Length.{lengths_of}
use Rattle.mm_terms.specs.Substitution.{subst_all}
use Rattle.mm_subst.proofs.substitution.applied_length.Given as goal

-- what is counted, and the types that are left with the arguments put in, is all
abbrev pub invariant-loop-ty : goal.invariant-loop-ty
invariant-loop-ty l =
    (l.total + lengths_of (subst_all l.args (drop l.ty-index l.types)) ≡ lengths_of (subst_all l.args l.types)) × (l.total < 2 ^ 32)
