use Rattle.std.proofs.Common.{subst}
use Rattle.mm_forms.specs.Given.{Gives}
use Rattle.mm_grammar.specs.Seen.{seen}
use Rattle.mm_grammar.proofs.Anywhere.{impl_anywhere}
use Rattle.mm_parse.proofs.items.impl_within.Goals as goal

pub returns : goal.returns
returns c = subst (Gives (λ x. (x.0, seen x.1)) c.impl_item.result) (impl_anywhere c.args.levels (seen c.args.tokens)) c.impl_item.ensures
