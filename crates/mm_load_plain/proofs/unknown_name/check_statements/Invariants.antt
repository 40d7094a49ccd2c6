use Rattle.std.proofs.Common.{◌≡◌, [], take}
use Rattle.std.specs.List.{flat_map}
use Rattle.mm_load_plain.specs.Rules.{unknown_in_statement}
use Rattle.mm_load_plain.proofs.unknown_name.check_statements.Given as goal

abbrev pub invariant-loop-statement : goal.invariant-loop-statement
invariant-loop-statement l = flat_map (unknown_in_statement l.function) (take l.statement-index l.statements) ≡ []
