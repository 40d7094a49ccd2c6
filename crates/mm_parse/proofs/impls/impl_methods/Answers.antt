use Rattle.std.proofs.Common.{◌∙◌, ◌<◌, sym, subst, length}
use Rattle.mm_forms.proofs.Loops.{each_step}
use Rattle.mm_grammar.specs.Codes.{code}
use Rattle.mm_grammar.specs.Seen.{seen}
use Rattle.mm_grammar.specs.ItemGrammar.{impl_method}
use Rattle.mm_grammar.specs.Reading.{begun, read}
use Rattle.mm_parse.proofs.impls.impl_methods.Goals as goal

pub each-preserved : goal.each-preserved
each-preserved c =
    let before : c.each.place < length (seen c.args.tokens) = subst (λ n. c.each.place < n) c.len-place-end.ensures c.each-test.true in
    each_step code (begun impl_method) (λ i. read impl_method) (length (seen c.args.tokens)) c.each.place (seen c.each.rest) (seen c.in_ok-method.after) c.in_ok-method.method c.each.methods _ _ c.each.invariant before (sym c.starts_impl_method.ensures ∙ c.if-not-starts_impl_method.false) c.in_ok-method.ensures c.in_ok-push.ensures.ok
