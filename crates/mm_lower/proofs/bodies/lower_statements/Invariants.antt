use Rattle.std.proofs.Common.{◌≡◌, map, take}
use Rattle.mm_lower.specs.Bodies.{statement_of}
use Rattle.mm_lower.specs.Seen.{params, paths}
use Rattle.mm_lower.proofs.bodies.lower_statements.Given as goal

abbrev pub invariant-loop-statement : goal.invariant-loop-statement
invariant-loop-statement l = l.out ≡ map (statement_of (paths l.names) (params l.names)) (take l.statement-index l.statements)
