use Rattle.std.proofs.Common.{◌||◌, sym, ◌∙◌, ap}
use Rattle.mm_mentions.specs.ImplHeads.{is_param_head, occurs_in, occurring}
use Rattle.mm_definitions.specs.Trees.{head_of}
use Rattle.mm_mentions.specs.Seen.{names_of}
use Rattle.mm_mentions.proofs.HeadLemmas.{gathered, occurs_in_parts}
use Rattle.mm_mentions.proofs.impl_heads.+names.Goals as goal

pub gather-returns : goal.gather-returns
gather-returns t c =
    let ty = c.args.ty.now in
    gathered c.gather_all.result (names_of c.gather_all.new.names) (names_of c.gather_head.new.names) (names_of c.args.names.now) (λ q. is_param_head q (head_of ty)) (occurring c.as_slice.result.now) (λ q. occurs_in q ty)
    c.in_ok-gather_head.ensures
    (λ q. occurs_in_parts q ty ∙ ap (λ ts. is_param_head q (head_of ty) || occurring ts q) (sym c.as_slice.ensures))
    c.gather_all.ensures
