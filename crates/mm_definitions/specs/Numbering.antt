-- What a walk over items has found: what they define, and the number of the next definition.
use Rattle.std.specs.Prelude.{List, ◌++◌, ◌+◌}
use Rattle.mm_definitions.specs.declared.numbered.Numbered.{Numbered}
use Rattle.mm_definitions.specs.Definitions.{named_from}
use Rattle.mm_definitions.specs.Placed.{Placed, sizes}

-- with these items more
abbrev pub added : Numbered → List Placed → Numbered
added found ps = record { named = found.named ++ named_from found.next ps; next = found.next + sizes ps }
