use Rattle.std.proofs.Common.{rules, ◌∙◌, ◌<◌, sym, subst, length}
use Rattle.mm_forms.specs.Given.{Gives, Stops}
use Rattle.mm_forms.proofs.Loops.{each_step}
use Rattle.mm_grammar.specs.Codes.{code}
use Rattle.mm_grammar.specs.Seen.{seen}
use Rattle.mm_grammar.specs.TermGrammar.{next_term, parts}
use Rattle.mm_grammar.specs.Reading.{begun, read_in_term}
use Rattle.mm_grammar.proofs.Levels.{no_term_level, one_term_level}
use Rattle.mm_parse_heads.proofs.terms.+terms.Goals as goal

pub more_terms-each-preserved : goal.more_terms-each-preserved
more_terms-each-preserved t c =
    let before : c.each.place < length (seen c.args.tokens) = subst (λ n. c.each.place < n) c.len-place-end.ensures c.each-test.true in
    each_step code (begun next_term) (λ i. read_in_term c.args.levels next_term) (length (seen c.args.tokens)) c.each.place (seen c.each.rest) (seen c.in_ok-term.after) c.in_ok-term.term c.each.terms _ _ c.each.invariant before (sym c.begins_next_term.ensures ∙ c.if-not-begins_next_term.false) c.in_ok-term.ensures c.in_ok-push.ensures.ok

pub within-returns-then-levels-eq0 : goal.within-returns-then-levels-eq0
within-returns-then-levels-eq0 t c = subst (Stops c.no_level.result) (sym (no_term_level c.args.levels (seen c.args.tokens) c.if-levels-eq0.true)) c.no_level.ensures

pub within-returns : goal.within-returns
within-returns t c = subst (Gives (λ x. (x.0, seen x.1)) c.node.result) (sym (one_term_level c.args.levels (seen c.args.tokens) c.if-levels-eq0.false)) c.node.ensures

pub parts-returns : goal.parts-returns
unfolding parts
parts-returns t c = let step = c.ended.ensures _ (c.listed-parts.ensures _ c.more_terms.ensures) in search rules
