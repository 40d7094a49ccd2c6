use Rattle.std.proofs.Common.{◌∙◌, ◌<◌, sym, subst, length}
use Rattle.mm_forms.proofs.Loops.{each_step}
use Rattle.mm_grammar.specs.Codes.{code}
use Rattle.mm_grammar.specs.Seen.{seen}
use Rattle.mm_grammar.specs.ItemGrammar.{next_variant}
use Rattle.mm_grammar.specs.Reading.{begun, read}
use Rattle.mm_parse.proofs.definitions.more_variants.Goals as goal

pub each-preserved : goal.each-preserved
each-preserved c =
    let before : c.each.place < length (seen c.args.tokens) = subst (λ n. c.each.place < n) c.len-place-end.ensures c.each-test.true in
    each_step code (begun next_variant) (λ i. read next_variant) (length (seen c.args.tokens)) c.each.place (seen c.each.rest) (seen c.in_ok-variant.after) c.in_ok-variant.variant c.each.variants _ _ c.each.invariant before (sym c.starts_next_variant.ensures ∙ c.if-not-starts_next_variant.false) c.in_ok-variant.ensures c.in_ok-push.ensures.ok
