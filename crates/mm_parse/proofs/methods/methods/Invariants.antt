use Rattle.std.proofs.Common.{◌≡◌, ◌-◌, length}
use Rattle.mm_forms.specs.Forms.{each_in}
use Rattle.mm_forms.proofs.Loops.{with_front}
use Rattle.mm_grammar.specs.Codes.{code}
use Rattle.mm_grammar.specs.Seen.{seen}
use Rattle.mm_grammar.specs.ItemGrammar.{method, methods}
use Rattle.mm_grammar.specs.Reading.{begun, read}
use Rattle.mm_parse.proofs.methods.methods.Given as goal

abbrev pub invariant-each : goal.invariant-each
invariant-each l = read methods (seen l.tokens) ≡ with_front l.methods (each_in code (begun method) (λ i. read method) (length (seen l.tokens) - l.place) l.place (seen l.rest))
