use Rattle.mm_resolve.proofs.TableLemmas.{seen_own, seen_shared}
use Rattle.mm_resolve.proofs.scope_table.ScopeTable.sees.Goals as goal

pub returns-then-has : goal.returns-then-has
returns-then-has c = λ scope knows. seen_own c.args.self.now scope c.args.wanted c.args.path.now knows c.has.result c.has.ensures c.if-has.true

pub returns-else-has : goal.returns-else-has
returns-else-has c = λ scope knows. seen_shared c.args.self.now scope c.args.wanted c.args.path.now knows c.has-else-has.result c.has.result c.has.ensures c.if-has.false c.has-else-has.ensures
