use Rattle.std.proofs.Common.{◌≡◌, ◌-◌}
use Rattle.mm_forms.specs.Forms.{each_in}
use Rattle.mm_forms.proofs.Loops.{with_front}
use Rattle.mm_grammar.specs.Codes.{code}
use Rattle.mm_grammar.specs.Seen.{seen}
use Rattle.mm_grammar.specs.Grammar.{block, more_blocks}
use Rattle.mm_grammar.specs.Reading.{begun, read_from}
use Rattle.mm_parse_bodies.proofs.bodies.more_blocks.Given as goal

abbrev pub invariant-each : goal.invariant-each
invariant-each l = read_from l.first more_blocks (seen l.tokens) ≡ with_front l.others (each_in code (begun block) (λ i. read_from i block) (65536 - l.number) l.number (seen l.rest))
