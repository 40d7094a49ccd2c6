use Rattle.std.proofs.Common.{rules}
use Rattle.mm_grammar.specs.ItemGrammar.{generic_fields}
use Rattle.mm_parse.proofs.definitions.generic_fields.Goals as goal

pub returns : goal.returns
unfolding generic_fields
returns c = let step = c.both.ensures _ c.struct_fields.ensures in search rules
