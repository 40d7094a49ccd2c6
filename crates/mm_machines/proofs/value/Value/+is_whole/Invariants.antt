use Rattle.std.proofs.Common.{◌≡◌, map, drop}
use Rattle.std.specs.List.{list_all}
use Rattle.mm_machines.specs.Values.{is_whole}
use Rattle.mm_machines.proofs.value.Value.+is_whole.Given as goal

abbrev pub decreases-is_whole : goal.decreases-is_whole
decreases-is_whole g l = goal.size-is_whole g l

abbrev pub invariant-loop-part : goal.invariant-loop-part
invariant-loop-part g l = list_all (λ b. b) (map (is_whole g.row.F.Denot g.row.V.Denot) (drop l.part-index l.part-items)) ≡ is_whole g.row.F.Denot g.row.V.Denot l.self

abbrev pub invariant-loop-field : goal.invariant-loop-field
invariant-loop-field g l = list_all (λ b. b) (map (is_whole g.row.F.Denot g.row.V.Denot) (drop l.field-index l.field-items)) ≡ is_whole g.row.F.Denot g.row.V.Denot l.self
