use Rattle.std.proofs.Common.{rules}
use Rattle.mm_grammar.specs.ItemGrammar.{struct_fields}
use Rattle.mm_parse.proofs.definitions.struct_fields.Goals as goal

pub returns : goal.returns
unfolding struct_fields
returns c = let step = c.ended.ensures _ c.field_types.ensures in search rules
