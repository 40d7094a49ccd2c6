use Rattle.mm_terms.proofs.HashedLemmas.{children_left}
use Rattle.mm_terms.proofs.tree.TreeHash.+hash.Goals as goal

pub loop-child-init : goal.loop-child-init
loop-child-init g t c =
    children_left g.H.Hasher.write c.args.state.now c.hash.new.state c.write_usize.new.self c.args.self.now c.as_slice-children.result.now c.hash.ensures c.as_slice-children.ensures c.write_usize.ensures
