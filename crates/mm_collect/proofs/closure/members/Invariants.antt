use Rattle.std.proofs.Common.{◌-◌, ◌≤◌, length, take}
use Rattle.std.specs.Prelude.{flat_map}
use Rattle.mm_plain.specs.Notes.{IsLeast}
use Rattle.mm_collect.proofs.ClosingLemmas.{IsClosing}
use Rattle.mm_collect.proofs.closure.members.Given as goal

-- beside the closing, the least note is that of the items that are scanned
abbrev pub invariant-loop-item : goal.invariant-loop-item
invariant-loop-item g l =
    IsClosing (g.G.Graph.roots l.graph) (g.G.Graph.uses l.graph) l.found.keys l.next
    × (length l.found.keys ≤ l.limit)
    × (l.next ≤ length l.found.keys)
    × IsLeast (flat_map (g.G.Graph.notes l.graph) (take l.next l.found.keys)) l.over

abbrev pub decreases-loop-item : goal.decreases-loop-item
decreases-loop-item g l = l.limit - l.next
