use Rattle.std.proofs.Common.{map, sym, ap}
use Rattle.mm_mentions.specs.Mentions.{at}
use Rattle.mm_mentions.specs.declared.mention.What.TheVariants as whats
use Rattle.mm_mentions.proofs.Followed.{said_as}
use Rattle.mm_mentions.proofs.impls.mention_impl_params.Goals as goal

pub returns : goal.returns
returns c = said_as _ _ _ _ _ (ap (λ names. map (λ p. at p.line (whats.ImplParam (names p.text))) c.args.params.now) (sym c.in_ok-names.ensures)) c.mention_params_among.ensures
