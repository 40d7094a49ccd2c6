use Rattle.std.proofs.Common.{◌≡◌, ◌-◌}
use Rattle.mm_machines.specs.Answers.{allocations_of}
use Rattle.mm_machines.specs.Memory.{freed}
use Rattle.mm_machines.proofs.memory.Memory.free_locals.Given as goal

abbrev pub invariant-loop-block : goal.invariant-loop-block
invariant-loop-block g l =
    freed g.row.F.Denot g.row.V.Denot l.block (l.end - l.block) (allocations_of g.row.F.Denot g.row.V.Denot l.self)
    ≡ freed g.row.F.Denot g.row.V.Denot l.fn.locals.first l.fn.locals.count (allocations_of g.row.F.Denot g.row.V.Denot l.fn.self)
