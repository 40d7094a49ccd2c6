use Rattle.std.proofs.Common.{arith}
use Rattle.mm_terms.specs.Formed.{IsFormed-head}
use Rattle.mm_terms.proofs.TypeLemmas.{arity_fits}
use Rattle.mm_terms.proofs.ty.Ty.arity.Goals as goal

pub overflow_cast-result : goal.overflow_cast-result
overflow_cast-result c = omega (arith, arity_fits c.self.inside.tree c.self.invariant.0)

pub returns-clause-fits : goal.returns-clause-fits
returns-clause-fits c = rw (c.len.ensures, ← c.self.view_is) (IsFormed-head c.self.inside.tree c.self.invariant.0.formed)
