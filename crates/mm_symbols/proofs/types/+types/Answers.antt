use Rattle.std.proofs.Common.{◌∙◌, sym, subst, length}
use Rattle.mm_symbols.specs.Reading.{Gives, within_in}
use Rattle.mm_symbols.proofs.Levels.{no_level, one_level}
use Rattle.mm_symbols.proofs.Loops.{each_step}
use Rattle.mm_symbols.proofs.types.+types.Goals as goal

pub each_type-each-preserved : goal.each_type-each-preserved
each_type-each-preserved t c = each_step (within_in c.args.levels) (length c.args.bytes.now) c.each.place c.each.rest.now c.in_ok-ty.after.now c.in_ok-ty.ty c.each.types _ _ c.each.invariant c.each-test.true (sym c.starts.ensures ∙ c.if-starts.false) c.in_ok-ty.ensures c.in_ok-push.ensures.ok

pub within-returns-then-levels-eq0 : goal.within-returns-then-levels-eq0
within-returns-then-levels-eq0 t c = no_level c.args.levels c.args.bytes.now c.if-levels-eq0.true

pub within-returns : goal.within-returns
within-returns t c = subst (Gives (λ x. (x.0, x.1.now)) c.node.result) (sym (one_level c.args.levels c.args.bytes.now c.if-levels-eq0.false)) c.node.ensures
