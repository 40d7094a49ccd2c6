use Rattle.std.proofs.Common.{◌∙◌, ◌<◌, sym, subst, length}
use Rattle.mm_forms.proofs.Loops.{each_step}
use Rattle.mm_grammar.specs.Codes.{code}
use Rattle.mm_grammar.specs.Seen.{seen}
use Rattle.mm_grammar.specs.ItemGrammar.{next_bound}
use Rattle.mm_grammar.specs.Reading.{begun, read}
use Rattle.mm_parse_heads.proofs.signatures.more_bounds.Goals as goal

pub each-preserved : goal.each-preserved
each-preserved c =
    let before : c.each.place < length (seen c.args.tokens) = subst (λ n. c.each.place < n) c.len-place-end.ensures c.each-test.true in
    each_step code (begun next_bound) (λ i. read next_bound) (length (seen c.args.tokens)) c.each.place (seen c.each.rest) (seen c.in_ok-bound.after) c.in_ok-bound.bound c.each.bounds _ _ c.each.invariant before (sym c.starts_next_bound.ensures ∙ c.if-not-starts_next_bound.false) c.in_ok-bound.ensures c.in_ok-push.ensures.ok
