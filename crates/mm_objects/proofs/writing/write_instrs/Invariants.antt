use Rattle.std.proofs.Common.{◌≡◌, ◌++◌, map, take}
use Rattle.mm_objects.specs.ObjectText.{instr_words, written}
use Rattle.mm_objects.proofs.writing.write_instrs.Given as goal

abbrev pub invariant-loop-instr : goal.invariant-loop-instr
invariant-loop-instr l = l.out.items ≡ l.fn.out.items ++ written (map instr_words (take l.instr-index l.instrs))
