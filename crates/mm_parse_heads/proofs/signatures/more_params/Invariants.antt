use Rattle.std.proofs.Common.{◌≡◌, ◌-◌, length}
use Rattle.mm_forms.specs.Forms.{each_in}
use Rattle.mm_forms.proofs.Loops.{with_front}
use Rattle.mm_grammar.specs.Codes.{code}
use Rattle.mm_grammar.specs.Seen.{seen}
use Rattle.mm_grammar.specs.ItemGrammar.{next_param, more_params}
use Rattle.mm_grammar.specs.Reading.{begun, read, read_from}
use Rattle.mm_parse_heads.proofs.signatures.more_params.Given as goal

abbrev pub invariant-each : goal.invariant-each
invariant-each l = read more_params (seen l.tokens) ≡ with_front l.types (each_in code (begun next_param) (λ i. read_from i next_param) (length (seen l.tokens) - l.place) l.place (seen l.rest))
