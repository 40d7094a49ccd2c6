use Rattle.std.proofs.Common.{◌≡◌, map, take}
use Rattle.mm_load_plain.specs.Meaning.{statement_of}
use Rattle.mm_load_plain.proofs.bodies.load_statements.Given as goal

abbrev pub invariant-loop-statement : goal.invariant-loop-statement
invariant-loop-statement l = l.loaded ≡ map statement_of (take l.statement-index l.statements)
