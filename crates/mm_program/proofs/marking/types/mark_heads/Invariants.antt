use Rattle.std.proofs.Common.{◌≡◌, drop}
use Rattle.std.specs.Prelude.{flat_map}
use Rattle.mm_program.specs.Marks.{marked}
use Rattle.mm_program.specs.Naming.{named_in_head}
use Rattle.mm_program.proofs.marking.types.mark_heads.Given as goal

-- what is marked, and what those that are left name, is all that they name
abbrev pub invariant-loop-head : goal.invariant-loop-head
invariant-loop-head l = marked l.marks (flat_map named_in_head (drop l.head-index l.heads)) ≡ marked l.fn.marks (flat_map named_in_head l.heads)
