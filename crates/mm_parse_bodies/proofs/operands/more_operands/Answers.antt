use Rattle.std.proofs.Common.{◌∙◌, ◌<◌, sym, subst, length}
use Rattle.mm_forms.proofs.Loops.{each_step}
use Rattle.mm_grammar.specs.Codes.{code}
use Rattle.mm_grammar.specs.Seen.{seen}
use Rattle.mm_grammar.specs.Grammar.{next_operand}
use Rattle.mm_grammar.specs.Reading.{begun, read}
use Rattle.mm_parse_bodies.proofs.operands.more_operands.Goals as goal

pub each-preserved : goal.each-preserved
each-preserved c =
    let before : c.each.place < length (seen c.args.tokens) = subst (λ n. c.each.place < n) c.len-place-end.ensures c.each-test.true in
    each_step code (begun next_operand) (λ i. read next_operand) (length (seen c.args.tokens)) c.each.place (seen c.each.rest) (seen c.in_ok-operand.after) c.in_ok-operand.operand c.each.operands _ _ c.each.invariant before (sym c.begins_next_operand.ensures ∙ c.if-not-begins_next_operand.false) c.in_ok-operand.ensures c.in_ok-push.ensures.ok
