use Rattle.mm_collect.proofs.RootLemmas.{Kept}
use Rattle.mm_collect.proofs.roots.mark_callees.Given as goal

-- the callees of the blocks so far are marked too
abbrev pub invariant-loop-block : goal.invariant-loop-block
invariant-loop-block l = Kept l.fn.marks.items l.block-items l.block-index l.marks.items
