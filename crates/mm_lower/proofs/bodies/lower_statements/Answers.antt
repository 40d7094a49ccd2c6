use Rattle.std.proofs.Common.{[]}
use Rattle.mm_lower.specs.Bodies.{statement_of}
use Rattle.mm_lower.specs.Seen.{params, paths}
use Rattle.mm_lower.proofs.TypeLemmas.{mapped_more}
use Rattle.mm_lower.proofs.bodies.lower_statements.Goals as goal

pub loop-statement-preserved : goal.loop-statement-preserved
loop-statement-preserved c =
    let f = statement_of (paths c.args.names.now) (params c.args.names.now) in
    mapped_more f c.args.statements.now c.loop-statement.statement-index c.statement-item.result c.in_ok-lower_statement.field-0 [] c.loop-statement.out c.push.new.self
    c.loop-statement-test.true c.statement-item.is c.in_ok-lower_statement.ensures c.loop-statement.invariant c.in_ok-push.ensures.ok
