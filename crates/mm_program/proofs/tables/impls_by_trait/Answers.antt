use Rattle.mm_program.proofs.TableLemmas.{impl_each}
use Rattle.mm_program.proofs.tables.impls_by_trait.Goals as goal

pub loop-i-preserved : goal.loop-i-preserved
loop-i-preserved c =
    impl_each c.args.defs.now c.loop-i.i c.index-defs-i.result c.loop-i.lists.items c.add_impl.new.lists.items _ c.loop-i-test.true c.index-defs-i.is c.in_ok-add_impl.ensures c.loop-i.invariant
