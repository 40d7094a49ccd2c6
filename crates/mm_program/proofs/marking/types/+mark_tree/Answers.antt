use Rattle.std.specs.Prelude.{◌+◌, List, drop, flat_map}
use Rattle.std.proofs.Common.{◌≡◌, ap, ◌∙◌, sym}
use Rattle.mm_terms.specs.Tree.{children_of}
use Rattle.mm_terms.specs.declared.tree.Tree.{Tree}
use Rattle.mm_program.specs.Marks.{marked}
use Rattle.mm_program.specs.Naming.{named_in_type}
use Rattle.mm_program.proofs.MarkLemmas.{mark_each}
use Rattle.mm_program.proofs.marking.types.+mark_tree.Goals as goal

pub loop-child-preserved : goal.loop-child-preserved
loop-child-preserved t c =
    let children : List Tree = c.as_slice-child-items.result.now in
    let i = c.loop-child.child-index in
    let same : children ≡ children_of c.args.tree.now = c.as_slice-child-items.ensures in
    ap (λ ts. marked c.mark_tree.new.marks (flat_map named_in_type (drop (i + 1) ts))) (sym same)
    ∙ mark_each named_in_type children i c.child-item.result c.loop-child.marks c.mark_tree.new.marks _ c.loop-child-test.true c.child-item.is c.mark_tree.ensures
    (ap (λ ts. marked c.loop-child.marks (flat_map named_in_type (drop i ts))) same ∙ c.loop-child.invariant)
