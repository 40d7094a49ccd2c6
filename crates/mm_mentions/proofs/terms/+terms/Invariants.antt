use Rattle.std.proofs.Common.{◌≡◌, ◌++◌, take}
use Rattle.mm_mentions.specs.Seen.{seen}
use Rattle.mm_mentions.specs.TermMentions.{terms_mentions}
use Rattle.mm_mentions.proofs.terms.+terms.Given as goal

abbrev pub invariant-mention_terms-loop-term : goal.invariant-mention_terms-loop-term
invariant-mention_terms-loop-term l = l.out.items ≡ l.fn.out.items ++ terms_mentions (seen l.scope) (take l.term-index l.terms)
