use Rattle.std.proofs.Common.{◌≡◌, ◌++◌, map, take}
use Rattle.mm_mentions.specs.Mentions.{at}
use Rattle.mm_mentions.specs.Seen.{names_of}
use Rattle.mm_mentions.specs.declared.mention.What.TheVariants as whats
use Rattle.mm_mentions.proofs.impls.mention_params_among.Given as goal

abbrev pub invariant-loop-param : goal.invariant-loop-param
invariant-loop-param l = l.out.items ≡ l.fn.out.items ++ map (λ p. at p.line (whats.ImplParam (names_of l.names p.text))) (take l.param-index l.params)
