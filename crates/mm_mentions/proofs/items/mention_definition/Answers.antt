use Rattle.std.proofs.Common.{sym, ◌∙◌, ap}
use Rattle.mm_mentions.specs.ItemMentions.{definition_in}
use Rattle.mm_mentions.specs.Scopes.{of_params}
use Rattle.mm_mentions.proofs.Followed.{said_as}
use Rattle.mm_mentions.proofs.items.mention_definition.Goals as goal

pub returns : goal.returns
returns c = said_as _ _ _ _ _ (ap (λ own. definition_in own c.args.form.now) (sym (c.in_ok-own.ensures ∙ ap of_params c.params_of.ensures))) c.mention_definition_in.ensures
