use Rattle.std.proofs.Common.{◌≡◌, drop}
use Rattle.mm_load_plain.specs.Names.{joined}
use Rattle.mm_load_plain.proofs.name_table.path_text.Given as goal

abbrev pub invariant-loop-name : goal.invariant-loop-name
invariant-loop-name l = joined l.path.krate l.path.names ≡ joined l.text.items (drop l.name-index l.path.names)
