use Rattle.std.proofs.Common.{◌≡◌, ◌+◌, nat_le, map, drop}
use Rattle.mm_machines.specs.Values.{greatest, depth_of}
use Rattle.mm_machines.proofs.value.Value.+is_within.Given as goal

abbrev pub decreases-is_within : goal.decreases-is_within
decreases-is_within g l = goal.size-is_within g l

abbrev pub invariant-loop-part : goal.invariant-loop-part
invariant-loop-part g l = nat_le (1 + greatest (map (depth_of g.row.F.Denot g.row.V.Denot) (drop l.part-index l.part-items))) l.levels ≡ nat_le (depth_of g.row.F.Denot g.row.V.Denot l.self) l.levels

abbrev pub invariant-loop-field : goal.invariant-loop-field
invariant-loop-field g l = nat_le (1 + greatest (map (depth_of g.row.F.Denot g.row.V.Denot) (drop l.field-index l.field-items))) l.levels ≡ nat_le (depth_of g.row.F.Denot g.row.V.Denot l.self) l.levels
