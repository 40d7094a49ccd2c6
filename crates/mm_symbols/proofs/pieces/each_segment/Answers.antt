use Rattle.std.proofs.Common.{◌∙◌, sym, length}
use Rattle.mm_symbols.specs.Reading.{segment_in}
use Rattle.mm_symbols.proofs.Loops.{each_step}
use Rattle.mm_symbols.proofs.pieces.each_segment.Goals as goal

pub each-preserved : goal.each-preserved
each-preserved c = each_step segment_in (length c.args.bytes.now) c.each.place c.each.rest.now c.in_ok-text.after.now c.in_ok-text.text c.each.segments _ _ c.each.invariant c.each-test.true (sym c.starts.ensures ∙ c.if-starts.false) c.in_ok-text.ensures c.in_ok-push.ensures.ok
