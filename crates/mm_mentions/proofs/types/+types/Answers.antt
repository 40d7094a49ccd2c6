use Rattle.std.proofs.Common.{length, ◌++◌, sym, ◌∙◌, ap}
use Rattle.mm_mentions.specs.Seen.{seen}
use Rattle.mm_definitions.specs.Trees.{line_of, head_of, children_of}
use Rattle.mm_mentions.specs.TypeMentions.{head_mentions, names_in_all}
use Rattle.mm_mentions.proofs.Followed.{followed}
use Rattle.mm_mentions.proofs.TypeLemmas.{names_in_parts}
use Rattle.mm_mentions.proofs.types.+types.Goals as goal

pub mention_names-returns : goal.mention_names-returns
mention_names-returns t c =
    let ty = c.args.ty.now in
    let scope = seen c.args.scope.now in
    let head = head_mentions c.args.in_where scope (line_of ty) (head_of ty) (length (children_of ty)) in
    followed _ _ _ _ head (names_in_all c.args.in_where scope c.as_slice.result.now) _ c.in_ok-mention_head.ensures (names_in_parts c.args.in_where scope ty ∙ ap (λ ts. head ++ names_in_all c.args.in_where scope ts) (sym c.as_slice.ensures)) c.mention_names_in.ensures
