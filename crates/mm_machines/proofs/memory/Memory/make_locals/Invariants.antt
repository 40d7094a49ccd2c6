use Rattle.std.proofs.Common.{◌≡◌}
use Rattle.std.specs.Vec.Iter.{into_iter_items}
use Rattle.mm_machines.specs.Answers.{allocations_of}
use Rattle.mm_machines.specs.Memory.{with_locals}
use Rattle.mm_machines.proofs.memory.Memory.make_locals.Given as goal

abbrev pub invariant-loop-value : goal.invariant-loop-value
invariant-loop-value g l =
    with_locals g.row.F.Denot g.row.V.Denot (into_iter_items l.value-iterator) (allocations_of g.row.F.Denot g.row.V.Denot l.self)
    ≡ with_locals g.row.F.Denot g.row.V.Denot l.fn.values.items (allocations_of g.row.F.Denot g.row.V.Denot l.fn.self)
