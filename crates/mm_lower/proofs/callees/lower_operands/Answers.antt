use Rattle.std.proofs.Common.{[]}
use Rattle.mm_lower.specs.Callees.{operand_of}
use Rattle.mm_lower.specs.Seen.{params, paths}
use Rattle.mm_lower.proofs.TypeLemmas.{mapped_more}
use Rattle.mm_lower.proofs.callees.lower_operands.Goals as goal

pub loop-operand-preserved : goal.loop-operand-preserved
loop-operand-preserved c =
    let f = operand_of (paths c.args.names.now) (params c.args.names.now) in
    mapped_more f c.args.operands.now c.loop-operand.operand-index c.operand-item.result c.in_ok-lower_operand.field-0 [] c.loop-operand.out c.push.new.self
    c.loop-operand-test.true c.operand-item.is c.in_ok-lower_operand.ensures c.loop-operand.invariant c.in_ok-push.ensures.ok
