use Rattle.std.proofs.Common.{◌≡◌, ◌+◌, map, drop}
use Rattle.std.specs.Prelude.{sum}
use Rattle.mm_machines.specs.Values.{cells_of}
use Rattle.mm_machines.proofs.value.Value.+cells_left.Given as goal

abbrev pub decreases-cells_left : goal.decreases-cells_left
decreases-cells_left g l = goal.size-cells_left g l

abbrev pub invariant-loop-part : goal.invariant-loop-part
invariant-loop-part g l = l.left + cells_of g.row.F.Denot g.row.V.Denot l.self ≡ l.limit + sum (map (cells_of g.row.F.Denot g.row.V.Denot) (drop l.part-index l.part-items))

abbrev pub invariant-loop-field : goal.invariant-loop-field
invariant-loop-field g l = l.left + cells_of g.row.F.Denot g.row.V.Denot l.self ≡ l.limit + sum (map (cells_of g.row.F.Denot g.row.V.Denot) (drop l.field-index l.field-items))
