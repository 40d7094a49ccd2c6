use Rattle.std.proofs.Common.{◌≡◌, ◌∙◌, ap}
use Rattle.mm_program.specs.declared.kind.DefKind.TheVariants as kind
use Rattle.mm_program.specs.Kinds.{is_impl}
use Rattle.mm_program.proofs.PartLemmas.{kind_is}
use Rattle.mm_program.proofs.program.Program.head.Goals as goal

pub unwrap-requires : goal.unwrap-requires
unwrap-requires c =
    let is : c.part.result.now.kind ≡ kind.Impl = kind_is c.args.self.now c.args.d c.part.result.now kind.Impl c.part.ensures.there c.requires in
    c.as_ref.ensures.variant ∙ c.part.ensures.valid.has.head ∙ ap is_impl is
