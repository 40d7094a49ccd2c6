use Rattle.std.proofs.Common.{◌∙◌, ◌<◌, sym, subst, length}
use Rattle.mm_forms.proofs.Loops.{each_step}
use Rattle.mm_grammar.specs.Codes.{code}
use Rattle.mm_grammar.specs.Seen.{seen}
use Rattle.mm_grammar.specs.ItemGrammar.{next_param}
use Rattle.mm_grammar.specs.Reading.{begun, read_from}
use Rattle.mm_parse_heads.proofs.signatures.more_params.Goals as goal

pub each-preserved : goal.each-preserved
each-preserved c =
    let before : c.each.place < length (seen c.args.tokens) = subst (λ n. c.each.place < n) c.len-place-end.ensures c.each-test.true in
    each_step code (begun next_param) (λ i. read_from i next_param) (length (seen c.args.tokens)) c.each.place (seen c.each.rest) (seen c.in_ok-ty.after) c.in_ok-ty.ty c.each.types _ _ c.each.invariant before (sym c.starts_next_param.ensures ∙ c.if-not-starts_next_param.false) c.in_ok-ty.ensures c.in_ok-push.ensures.ok
