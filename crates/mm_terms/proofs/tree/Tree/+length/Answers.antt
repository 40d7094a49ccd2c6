use Rattle.std.proofs.Common.{sym}
use Rattle.mm_terms.specs.Length.{length_of-parts}
use Rattle.mm_terms.proofs.tree.Tree.+length.Goals as goal

pub loop-child-init : goal.loop-child-init
loop-child-init t c = sym (length_of-parts c.args.self.now)
