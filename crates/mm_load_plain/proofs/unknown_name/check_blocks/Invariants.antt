use Rattle.std.proofs.Common.{◌≡◌, [], take}
use Rattle.std.specs.List.{flat_map}
use Rattle.mm_load_plain.specs.Names.{look_up}
use Rattle.mm_load_plain.specs.Rules.{unknown_in_block}
use Rattle.mm_load_plain.proofs.unknown_name.check_blocks.Given as goal

abbrev pub invariant-loop-block : goal.invariant-loop-block
invariant-loop-block l = flat_map (unknown_in_block (look_up l.paths) (look_up l.scope) l.function) (take l.block-index l.function.body.blocks) ≡ []
