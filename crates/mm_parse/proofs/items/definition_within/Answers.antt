use Rattle.std.proofs.Common.{subst}
use Rattle.mm_forms.specs.Given.{Gives}
use Rattle.mm_grammar.specs.Seen.{seen}
use Rattle.mm_grammar.proofs.Anywhere.{definition_anywhere}
use Rattle.mm_parse.proofs.items.definition_within.Goals as goal

pub returns : goal.returns
returns c = subst (Gives (λ x. (x.0, seen x.1)) c.definition.result) (definition_anywhere c.args.levels (seen c.args.tokens)) c.definition.ensures
