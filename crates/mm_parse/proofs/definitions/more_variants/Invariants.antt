use Rattle.std.proofs.Common.{◌≡◌, ◌-◌, length}
use Rattle.mm_forms.specs.Forms.{each_in}
use Rattle.mm_forms.proofs.Loops.{with_front}
use Rattle.mm_grammar.specs.Codes.{code}
use Rattle.mm_grammar.specs.Seen.{seen}
use Rattle.mm_grammar.specs.ItemGrammar.{next_variant, more_variants}
use Rattle.mm_grammar.specs.Reading.{begun, read}
use Rattle.mm_parse.proofs.definitions.more_variants.Given as goal

abbrev pub invariant-each : goal.invariant-each
invariant-each l = read more_variants (seen l.tokens) ≡ with_front l.variants (each_in code (begun next_variant) (λ i. read next_variant) (length (seen l.tokens) - l.place) l.place (seen l.rest))
