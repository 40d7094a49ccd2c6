use Rattle.std.proofs.Common.{◌≡◌, drop, fold}
use Rattle.std.specs.List.{flat_map}
use Rattle.mm_terms.specs.Hashed.{fed_tree}
use Rattle.mm_terms.proofs.tree.TreeHash.+hash.Given as goal

-- what is fed so far, and then the children that are left, is all of the type
abbrev pub invariant-loop-child : goal.invariant-loop-child
invariant-loop-child g l = fold g.H.Hasher.write l.state (flat_map fed_tree (drop l.child-index l.children)) ≡ fold g.H.Hasher.write l.fn.state (fed_tree l.self)
