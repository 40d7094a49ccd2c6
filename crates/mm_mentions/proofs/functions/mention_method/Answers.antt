use Rattle.std.proofs.Common.{true, sym, ◌∙◌, ap}
use Rattle.mm_mentions.specs.FunctionMentions.{method_in}
use Rattle.mm_mentions.specs.Scopes.{of_params, scope_of}
use Rattle.mm_mentions.specs.Seen.{names_of, seen}
use Rattle.mm_mentions.proofs.Followed.{said_as}
use Rattle.mm_mentions.proofs.functions.mention_method.Goals as goal

pub returns : goal.returns
unfolding seen
returns c =
    said_as _ _ _ _ _ (ap (λ own. method_in (scope_of (names_of c.args.outer.now) own true) c.args.method.now) (sym (c.in_ok-own.ensures ∙ ap of_params c.as_slice.ensures))) c.mention_method_in.ensures
