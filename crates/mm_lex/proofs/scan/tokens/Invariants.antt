use Rattle.std.proofs.Common.{length}
use Rattle.mm_lex.proofs.Scanning.{IsScanned}
use Rattle.mm_lex.proofs.scan.tokens.Given as goal

abbrev pub invariant-loop-rest : goal.invariant-loop-rest
invariant-loop-rest l = IsScanned l.text l.tokens.items l.at l.rest

abbrev pub decreases-loop-rest : goal.decreases-loop-rest
decreases-loop-rest l = length l.rest
