use Rattle.std.proofs.Common.{◌≡◌, ◌∙◌, ap}
use Rattle.mm_program.specs.declared.kind.DefKind.TheVariants as kind
use Rattle.mm_program.specs.Kinds.{is_drop_impl}
use Rattle.mm_program.proofs.PartLemmas.{kind_is}
use Rattle.mm_program.proofs.program.Program.drop_self.Goals as goal

pub unwrap-requires : goal.unwrap-requires
unwrap-requires c =
    let is : c.part.result.now.kind ≡ kind.DropImpl = kind_is c.args.self.now c.args.d c.part.result.now kind.DropImpl c.part.ensures.there c.requires in
    c.as_ref.ensures.variant ∙ c.part.ensures.valid.has.drop_self ∙ ap is_drop_impl is
