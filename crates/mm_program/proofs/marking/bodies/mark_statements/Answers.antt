use Rattle.mm_program.specs.Naming.{named_in_statement}
use Rattle.mm_program.proofs.MarkLemmas.{mark_each}
use Rattle.mm_program.proofs.marking.bodies.mark_statements.Goals as goal

pub loop-statement-preserved : goal.loop-statement-preserved
loop-statement-preserved c =
    mark_each named_in_statement c.args.statements.now c.loop-statement.statement-index c.statement-item.result c.loop-statement.marks c.mark_statement.new.marks _ c.loop-statement-test.true c.statement-item.is c.mark_statement.ensures c.loop-statement.invariant
