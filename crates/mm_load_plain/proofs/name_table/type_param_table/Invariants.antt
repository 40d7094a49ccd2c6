use Rattle.std.proofs.Common.{◌≡◌, ℕ, List, map, take}
use Rattle.mm_load_plain.specs.Names.{look_up, index_of}
use Rattle.mm_load_plain.proofs.name_table.type_param_table.Given as goal

abbrev pub invariant-loop-index : goal.invariant-loop-index
invariant-loop-index l = (q : List ℕ) → look_up l.table q ≡ index_of (take l.index (map (λ n. n.text) l.function.type_params)) q
