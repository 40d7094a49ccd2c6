use Rattle.std.proofs.Common.{◌≡◌, ◌+◌, ◌++◌, drop}
use Rattle.mm_spell.specs.Listed.{kinds}
use Rattle.mm_spell_bodies.specs.BodyTokens.{lets_tokens}
use Rattle.mm_spell_bodies.proofs.bodies.write_lets.Given as goal

-- what is written, and the declarations that are left, are all declarations
abbrev pub invariant-loop-place : goal.invariant-loop-place
invariant-loop-place l = kinds l.out.items ++ lets_tokens (l.first + l.place) (drop l.place l.lets) ≡ kinds l.fn.out.items ++ lets_tokens l.first l.lets
