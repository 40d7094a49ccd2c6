use Rattle.std.proofs.Common.{length, ◌++◌, sym, ◌∙◌, ap}
use Rattle.mm_ast.specs.declared.terms.Term.TheViews.{out-Term}
use Rattle.mm_mentions.specs.Seen.{seen}
use Rattle.mm_mentions.specs.TermMentions.{term_head_mentions, terms_mentions}
use Rattle.mm_mentions.proofs.Followed.{followed}
use Rattle.mm_mentions.proofs.TermLemmas.{term_parts}
use Rattle.mm_mentions.proofs.terms.+terms.Goals as goal

pub mention_term-returns : goal.mention_term-returns
mention_term-returns t c =
    let term = c.args.term.now in
    let scope = seen c.args.scope.now in
    let parts = c.as_slice-parts.result.now in
    let head = term_head_mentions scope (out-Term term).head (length parts) in
    followed _ _ _ _ head (terms_mentions scope parts) _ c.in_ok-mention_head.ensures
    (term_parts scope term ∙ ap (λ ts. term_head_mentions scope (out-Term term).head (length ts) ++ terms_mentions scope ts) (sym c.as_slice-parts.ensures))
    c.mention_terms.ensures
