use Rattle.std.proofs.Common.{◌≡◌}
use Rattle.mm_collect.proofs.RootLemmas.{first_roots}
use Rattle.mm_collect.proofs.roots.roots.Given as goal

abbrev pub invariant-loop-place : goal.invariant-loop-place
invariant-loop-place l = l.roots.items ≡ first_roots l.p l.function-items l.place
