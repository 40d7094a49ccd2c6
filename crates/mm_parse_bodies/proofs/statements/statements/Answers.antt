use Rattle.std.proofs.Common.{◌∙◌, ◌<◌, sym, subst, length}
use Rattle.mm_forms.proofs.Loops.{each_step}
use Rattle.mm_grammar.specs.Codes.{code}
use Rattle.mm_grammar.specs.Seen.{seen}
use Rattle.mm_grammar.specs.Grammar.{statement}
use Rattle.mm_grammar.specs.Reading.{begun, read}
use Rattle.mm_parse_bodies.proofs.statements.statements.Goals as goal

pub each-preserved : goal.each-preserved
each-preserved c =
    let before : c.each.place < length (seen c.args.tokens) = subst (λ n. c.each.place < n) c.len-place-end.ensures c.each-test.true in
    each_step code (begun statement) (λ i. read statement) (length (seen c.args.tokens)) c.each.place (seen c.each.rest) (seen c.in_ok-statement.after) c.in_ok-statement.statement c.each.statements _ _ c.each.invariant before (sym c.starts_statement.ensures ∙ c.if-not-starts_statement.false) c.in_ok-statement.ensures c.in_ok-push.ensures.ok
