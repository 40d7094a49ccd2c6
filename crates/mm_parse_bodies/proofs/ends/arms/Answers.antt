use Rattle.std.proofs.Common.{◌∙◌, ◌<◌, sym, subst, length}
use Rattle.mm_forms.proofs.Loops.{each_step}
use Rattle.mm_grammar.specs.Codes.{code}
use Rattle.mm_grammar.specs.Seen.{seen}
use Rattle.mm_grammar.specs.Grammar.{arm}
use Rattle.mm_grammar.specs.Reading.{begun, read}
use Rattle.mm_parse_bodies.proofs.ends.arms.Goals as goal

pub each-preserved : goal.each-preserved
each-preserved c =
    let before : c.each.place < length (seen c.args.tokens) = subst (λ n. c.each.place < n) c.len-place-end.ensures c.each-test.true in
    each_step code (begun arm) (λ i. read arm) (length (seen c.args.tokens)) c.each.place (seen c.each.rest) (seen c.in_ok-arm.after) c.in_ok-arm.arm c.each.arms _ _ c.each.invariant before (sym c.starts_arm.ensures ∙ c.if-not-starts_arm.false) c.in_ok-arm.ensures c.in_ok-push.ensures.ok
