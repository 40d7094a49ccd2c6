use Rattle.std.proofs.Common.{◌∙◌, ◌<◌, sym, subst, length}
use Rattle.mm_forms.proofs.Loops.{each_step}
use Rattle.mm_grammar.specs.Codes.{code}
use Rattle.mm_grammar.specs.Seen.{seen}
use Rattle.mm_grammar.specs.ItemGrammar.{krate}
use Rattle.mm_grammar.specs.Reading.{begun, read}
use Rattle.mm_parse.proofs.krates.more_crates.Goals as goal

pub each-preserved : goal.each-preserved
each-preserved c =
    let before : c.each.place < length (seen c.args.tokens) = subst (λ n. c.each.place < n) c.len-place-end.ensures c.each-test.true in
    each_step code (begun krate) (λ i. read krate) (length (seen c.args.tokens)) c.each.place (seen c.each.rest) (seen c.in_ok-krate.after) c.in_ok-krate.krate c.each.crates _ _ c.each.invariant before (sym c.starts_crate.ensures ∙ c.if-not-starts_crate.false) c.in_ok-krate.ensures c.in_ok-push.ensures.ok
