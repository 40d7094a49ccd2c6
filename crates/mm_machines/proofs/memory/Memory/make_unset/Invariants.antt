use Rattle.std.proofs.Common.{◌≡◌, replicate, ◌-◌}
use Rattle.mm_machines.specs.Answers.{allocations_of}
use Rattle.mm_machines.specs.Memory.{with_locals}
use Rattle.mm_machines.specs.Values.{uninit}
use Rattle.mm_machines.proofs.memory.Memory.make_unset.Given as goal

abbrev pub invariant-loop-i : goal.invariant-loop-i
invariant-loop-i g l =
    with_locals g.row.F.Denot g.row.V.Denot (replicate (l.count - l.i) (uninit g.row.F.Denot g.row.V.Denot)) (allocations_of g.row.F.Denot g.row.V.Denot l.self)
    ≡ with_locals g.row.F.Denot g.row.V.Denot (replicate l.count (uninit g.row.F.Denot g.row.V.Denot)) (allocations_of g.row.F.Denot g.row.V.Denot l.fn.self)
