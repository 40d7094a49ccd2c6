use Rattle.std.proofs.Common.{◌≡◌, ◌++◌, take, flat_map}
use Rattle.std.specs.List.{enumerate_from}
use Rattle.mm_objects.specs.ObjectText.{block_lines, written}
use Rattle.mm_objects.proofs.writing.write_blocks.Given as goal

abbrev pub invariant-loop-block : goal.invariant-loop-block
invariant-loop-block l = record {
  wrote : l.out.items ≡ l.fn.out.items ++ written (flat_map block_lines (enumerate_from 0 (take l.block-index l.blocks)));
  counts : l.number ≡ l.block-index;
}
