use Rattle.std.proofs.Common.{◌≡◌, [], take}
use Rattle.std.specs.List.{flat_map}
use Rattle.mm_load_plain.specs.Rules.{long_in_block}
use Rattle.mm_load_plain.proofs.long_type.check_blocks.Given as goal

abbrev pub invariant-loop-block : goal.invariant-loop-block
invariant-loop-block l = flat_map long_in_block (take l.block-index l.blocks) ≡ []
