use Rattle.std.proofs.Common.{rules, ◌∙◌, ◌<◌, sym, subst, length}
use Rattle.mm_forms.specs.Given.{Gives, Stops}
use Rattle.mm_forms.proofs.Loops.{each_step}
use Rattle.mm_grammar.specs.Codes.{code}
use Rattle.mm_grammar.specs.Seen.{seen}
use Rattle.mm_grammar.specs.ItemGrammar.{item, braces}
use Rattle.mm_grammar.specs.Reading.{begun, read_in_module}
use Rattle.mm_grammar.proofs.Anywhere.{no_module_level, one_module_level}
use Rattle.mm_parse.proofs.items.+modules.Goals as goal

pub more_items-each-preserved : goal.more_items-each-preserved
more_items-each-preserved t c =
    let before : c.each.place < length (seen c.args.tokens) = subst (λ n. c.each.place < n) c.len-place-end.ensures c.each-test.true in
    each_step code (begun item) (λ i. read_in_module c.args.levels item) (length (seen c.args.tokens)) c.each.place (seen c.each.rest) (seen c.in_ok-item.after) c.in_ok-item.item c.each.items _ _ c.each.invariant before (sym c.starts_item.ensures ∙ c.if-not-starts_item.false) c.in_ok-item.ensures c.in_ok-push.ensures.ok

pub within-returns-then-levels-eq0 : goal.within-returns-then-levels-eq0
within-returns-then-levels-eq0 t c = subst (Stops c.no_level.result) (sym (no_module_level c.args.levels (seen c.args.tokens) c.if-levels-eq0.true)) c.no_level.ensures

pub within-returns : goal.within-returns
within-returns t c = subst (Gives (λ x. (x.0, seen x.1)) c.braces.result) (sym (one_module_level c.args.levels (seen c.args.tokens) c.if-levels-eq0.false)) c.braces.ensures

pub braces-returns : goal.braces-returns
unfolding braces
braces-returns t c = let step = c.ended.ensures _ c.more_items.ensures in search rules
