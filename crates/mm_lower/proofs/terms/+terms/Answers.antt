use Rattle.std.proofs.Common.{[], map, sym, ◌∙◌, ap}
use Rattle.std.proofs.lemmas.Result.{IfOk-weaker}
use Rattle.mm_ast.specs.declared.terms.Term.TheViews.{out-Term}
use Rattle.mm_lower.specs.Seen.{params, paths}
use Rattle.mm_lower.specs.Terms.{term_over, term_of}
use Rattle.mm_lower.proofs.TermLemmas.{term_of_parts}
use Rattle.mm_lower.proofs.TypeLemmas.{mapped_more}
use Rattle.mm_lower.proofs.terms.+terms.Goals as goal

pub lower_term-returns : goal.lower_term-returns
lower_term-returns t c =
    let term = c.args.term.now in
    let ways = paths c.args.names.now in
    let numbers = params c.args.names.now in
    let parts = c.in_ok-parts.ensures ∙ ap (map (term_of ways numbers)) c.as_slice.ensures in
    IfOk-weaker c.lower_over.result _ _ (λ made h. h ∙ ap (term_over ways numbers (out-Term term).head) parts ∙ sym (term_of_parts ways numbers term)) c.lower_over.ensures

pub lower_terms-loop-term-preserved : goal.lower_terms-loop-term-preserved
lower_terms-loop-term-preserved t c =
    let f = term_of (paths c.args.names.now) (params c.args.names.now) in
    mapped_more f c.args.terms.now c.loop-term.term-index c.term-item.result c.in_ok-lower_term.field-0 [] c.loop-term.out c.push.new.self
    c.loop-term-test.true c.term-item.is c.in_ok-lower_term.ensures c.loop-term.invariant c.in_ok-push.ensures.ok
