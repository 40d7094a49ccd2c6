use Rattle.mm_resolve.proofs.DoubleLemmas.{holds_more}
use Rattle.mm_resolve.proofs.names_seen.add_again.Goals as goal

pub returns-clause-seen : goal.returns-clause-seen
returns-clause-seen c = λ among. holds_more (λ k. k.now) c.args.seen.now.keys c.insert_full.new.self.keys c.as_slice-text.result c.args.name.now.text among c.in_ok-is_new.ensures.keys c.as_slice-text.ensures
