use Rattle.mm_program.proofs.PartLemmas.{part_is}
use Rattle.mm_program.proofs.program.Program.part.Goals as goal

pub returns-clause-valid : goal.returns-clause-valid
returns-clause-valid c = part_is c.args.self.now c.self.inside.parts c.as_slice.result.now c.args.d c.index-as_slice-d.result c.self.invariant.0 c.self.view_is c.as_slice.ensures c.requires c.index-as_slice-d.is
