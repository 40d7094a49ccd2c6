use Rattle.std.proofs.Common.{◌≡◌, ℕ, List, map, take}
use denote.Ref.{Bor}
use Rattle.mm_lower.specs.Params.{look_up, index_of}
use Rattle.mm_lower.proofs.params.param_table.Given as goal

abbrev pub invariant-loop-name : goal.invariant-loop-name
invariant-loop-name l =
    (l.place ≡ l.name-index)
    × ((q : List ℕ) → look_up l.table q ≡ index_of (take l.name-index (map (λ (n : Bor (List ℕ)). n.now) l.names)) q)
