use Rattle.std.proofs.Common.{◌≡◌, drop}
use Rattle.std.specs.Prelude.{flat_map}
use Rattle.mm_program.specs.Marks.{marked}
use Rattle.mm_program.specs.Naming.{named_in_block}
use Rattle.mm_program.proofs.marking.bodies.mark_blocks.Given as goal

-- what is marked, and what those that are left name, is all that they name
abbrev pub invariant-loop-block : goal.invariant-loop-block
invariant-loop-block l = marked l.marks (flat_map named_in_block (drop l.block-index l.blocks)) ≡ marked l.fn.marks (flat_map named_in_block l.blocks)
