use Rattle.std.proofs.Common.{rules, ◌∙◌, ◌<◌, sym, subst, length}
use Rattle.mm_forms.specs.Given.{Gives, Stops}
use Rattle.mm_forms.proofs.Loops.{each_step}
use Rattle.mm_grammar.specs.Codes.{code}
use Rattle.mm_grammar.specs.Seen.{seen}
use Rattle.mm_grammar.specs.Grammar.{next_type, fields, behind_krate, args, tys, some_types}
use Rattle.mm_grammar.specs.Reading.{begun, read_in_type}
use Rattle.mm_grammar.proofs.Levels.{no_type_level, one_type_level}
use Rattle.mm_grammar.proofs.nested_types.+types.Goals as goal

pub more_types-each-preserved : goal.more_types-each-preserved
more_types-each-preserved t c =
    let before : c.each.place < length (seen c.args.tokens) = subst (λ n. c.each.place < n) c.len-place-end.ensures c.each-test.true in
    each_step code (begun next_type) (λ i. read_in_type c.args.levels next_type) (length (seen c.args.tokens)) c.each.place (seen c.each.rest) (seen c.in_ok-ty.after) c.in_ok-ty.ty c.each.types _ _ c.each.invariant before (sym c.begins_next_type.ensures ∙ c.if-not-begins_next_type.false) c.in_ok-ty.ensures c.in_ok-push.ensures.ok

pub within-returns-then-levels-eq0 : goal.within-returns-then-levels-eq0
within-returns-then-levels-eq0 t c = subst (Stops c.no_level.result) (sym (no_type_level c.args.levels (seen c.args.tokens) c.if-levels-eq0.true)) c.no_level.ensures

pub within-returns : goal.within-returns
within-returns t c = subst (Gives (λ x. (x.0, seen x.1)) c.node.result) (sym (one_type_level c.args.levels (seen c.args.tokens) c.if-levels-eq0.false)) c.node.ensures

pub fields-returns : goal.fields-returns
unfolding fields
fields-returns t c = let step = c.listed.ensures _ c.some_types_within.ensures in search rules

pub behind_krate-returns : goal.behind_krate-returns
unfolding behind_krate
behind_krate-returns t c = let step = c.both.ensures _ c.args_within.ensures in search rules

pub args_within-returns : goal.args_within-returns
unfolding args
args_within-returns t c = let step = c.ended.ensures _ c.some_types_within.ensures in search rules

pub tys_within-returns : goal.tys_within-returns
unfolding tys
tys_within-returns t c = let step = c.ended.ensures _ c.some_types_within.ensures in search rules

pub some_types_within-returns : goal.some_types_within-returns
unfolding some_types
some_types_within-returns t c = let step = c.listed.ensures _ c.more_types.ensures in search rules
