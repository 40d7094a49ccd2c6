use Rattle.std.proofs.Common.{◌∙◌}
use Rattle.mm_program.specs.Kinds.{has_term}
use Rattle.mm_program.proofs.PartLemmas.{kind_passes}
use Rattle.mm_program.proofs.program.Program.term.Goals as goal

pub unwrap-requires : goal.unwrap-requires
unwrap-requires c = c.as_ref.ensures.variant ∙ c.part.ensures.valid.has.term ∙ kind_passes c.args.self.now c.args.d c.part.result.now has_term c.part.ensures.there c.requires
