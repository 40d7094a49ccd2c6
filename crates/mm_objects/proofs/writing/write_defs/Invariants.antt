use Rattle.std.proofs.Common.{◌≡◌, ◌++◌, take, flat_map}
use Rattle.mm_objects.specs.ObjectText.{def_lines, written}
use Rattle.mm_objects.proofs.writing.write_defs.Given as goal

abbrev pub invariant-loop-def : goal.invariant-loop-def
invariant-loop-def l = l.out.items ≡ l.fn.out.items ++ written (flat_map def_lines (take l.def-index l.defs))
