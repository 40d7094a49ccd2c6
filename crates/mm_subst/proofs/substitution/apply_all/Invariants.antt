use Rattle.std.proofs.Common.{◌≡◌, ◌++◌, drop, map}
use Rattle.mm_terms.specs.Substitution.{subst}
use Rattle.mm_subst.proofs.substitution.apply_all.Given as goal

-- what is made so far, and the types that are left with the arguments put in, is all the types with them put in
abbrev pub invariant-loop-ty : goal.invariant-loop-ty
invariant-loop-ty l = l.applied.items ++ map (subst l.args) (drop l.ty-index l.types) ≡ map (subst l.args) l.types
