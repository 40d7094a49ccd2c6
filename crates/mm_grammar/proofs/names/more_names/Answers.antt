use Rattle.std.proofs.Common.{◌∙◌, ◌<◌, sym, subst, length}
use Rattle.mm_forms.proofs.Loops.{each_step}
use Rattle.mm_grammar.specs.Codes.{code}
use Rattle.mm_grammar.specs.Seen.{seen}
use Rattle.mm_grammar.specs.Grammar.{next_name}
use Rattle.mm_grammar.specs.Reading.{begun, read}
use Rattle.mm_grammar.proofs.names.more_names.Goals as goal

pub each-preserved : goal.each-preserved
each-preserved c =
    let before : c.each.place < length (seen c.args.tokens) = subst (λ n. c.each.place < n) c.len-place-end.ensures c.each-test.true in
    each_step code (begun next_name) (λ i. read next_name) (length (seen c.args.tokens)) c.each.place (seen c.each.rest) (seen c.in_ok-name.after) c.in_ok-name.name c.each.names _ _ c.each.invariant before (sym c.begins_next_name.ensures ∙ c.if-not-begins_next_name.false) c.in_ok-name.ensures c.in_ok-push.ensures.ok
