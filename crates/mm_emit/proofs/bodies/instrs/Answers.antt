use Rattle.std.proofs.Common.{◌≡◌, rules, ◌<◌, length, ◌++◌, ◌∷◌, []}
use Rattle.mm_objects.specs.Emitted.{instr_of}
use Rattle.mm_emit.specs.Numbers.{FitsInstr}
use Rattle.mm_emit.proofs.Pushing.{pushed}
use Rattle.mm_emit.proofs.bodies.instrs.Goals as goal

pub loop-one-preserved : goal.loop-one-preserved
loop-one-preserved c =
    let within : c.loop-one.one-index < length c.args.from.now = search rules in
    let made : c.push.new.self ≡ c.loop-one.made ++ c.instr.result ∷ [] = search rules in
    pushed instr_of FitsInstr c.args.from.now c.loop-one.one-index _ c.loop-one.made c.push.new.self c.instr.result within c.loop-one.invariant c.instr.ensures.made c.instr.ensures.fits made
