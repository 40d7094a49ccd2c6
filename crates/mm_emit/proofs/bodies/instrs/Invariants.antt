use Rattle.std.proofs.Common.{◌≡◌, map, take}
use Rattle.std.specs.Prelude.{All}
use Rattle.mm_objects.specs.Emitted.{instr_of}
use Rattle.mm_emit.specs.Numbers.{FitsInstr}
use Rattle.mm_emit.proofs.bodies.instrs.Given as goal

abbrev pub invariant-loop-one : goal.invariant-loop-one
invariant-loop-one l = (l.made ≡ map instr_of (take l.one-index l.from)) × All FitsInstr l.made
