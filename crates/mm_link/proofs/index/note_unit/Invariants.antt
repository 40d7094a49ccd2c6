use Rattle.std.proofs.Common.{◌≡◌, ℕ, List, drop}
use Rattle.std.specs.Option.{option_or}
use Rattle.mm_link.specs.Index.{found_from, look_up}
use Rattle.mm_link.proofs.index.note_unit.Given as goal

-- what is noted, and what the definitions that are left give, is what all give
abbrev pub invariant-loop-position : goal.invariant-loop-position
invariant-loop-position l =
    (s : List ℕ) → option_or (look_up l.names s) (found_from l.shared l.number l.position (drop l.position l.unit.defs) s)
    ≡ option_or (look_up l.fn.names s) (found_from l.shared l.number 0 l.unit.defs s)
