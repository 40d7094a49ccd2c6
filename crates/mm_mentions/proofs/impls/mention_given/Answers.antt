use Rattle.std.proofs.Common.{false, sym, ◌∙◌, ap}
use Rattle.mm_mentions.specs.FunctionMentions.{function_mentions}
use Rattle.mm_mentions.specs.Scopes.{of_params, scope_of}
use Rattle.mm_mentions.specs.Seen.{names_of, seen}
use Rattle.mm_mentions.proofs.Followed.{said_as}
use Rattle.mm_mentions.proofs.impls.mention_given.Goals as goal

pub returns : goal.returns
unfolding seen
returns c =
    said_as _ _ _ _ _ (ap (λ own. function_mentions (scope_of (names_of c.args.outer.now) own false) c.args.function.now) (sym (c.in_ok-own.ensures ∙ ap of_params c.as_slice.ensures))) c.mention_function.ensures
