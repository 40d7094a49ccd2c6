use Rattle.std.proofs.Common.{◌≡◌, ℕ, List, drop}
use Rattle.std.specs.Option.{option_or}
use Rattle.mm_link.specs.Index.{look_up, shared_from}
use Rattle.mm_objects.specs.Resolution.{shared_in}
use Rattle.mm_link.proofs.index.shared_names.Given as goal

-- what is noted, and what the units that are left give, is what all give
abbrev pub invariant-loop-position : goal.invariant-loop-position
invariant-loop-position l = (s : List ℕ) → option_or (look_up l.names s) (shared_from l.position (drop l.position l.units) s) ≡ shared_in l.units s
