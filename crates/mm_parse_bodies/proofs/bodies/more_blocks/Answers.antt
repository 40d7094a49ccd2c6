use Rattle.std.proofs.Common.{◌∙◌, sym}
use Rattle.mm_forms.proofs.Loops.{each_step}
use Rattle.mm_grammar.specs.Codes.{code}
use Rattle.mm_grammar.specs.Seen.{seen}
use Rattle.mm_grammar.specs.Grammar.{block}
use Rattle.mm_grammar.specs.Reading.{begun, read_from}
use Rattle.mm_parse_bodies.proofs.bodies.more_blocks.Goals as goal

pub each-preserved : goal.each-preserved
each-preserved c = each_step code (begun block) (λ i. read_from i block) 65536 c.each.number (seen c.each.rest) (seen c.in_ok-block.after) c.in_ok-block.block c.each.others _ _ c.each.invariant c.each-test.true (sym c.starts_block.ensures ∙ c.if-not-starts_block.false) c.in_ok-block.ensures c.in_ok-push.ensures.ok
