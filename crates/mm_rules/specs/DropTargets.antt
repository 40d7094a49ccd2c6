-- The types that Drop impls are for.
use Rattle.std.specs.Prelude.{ℕ, List, [], ◌∷◌, flat_map}
use Rattle.mm_ast.specs.declared.names.Name.{Name}
use Rattle.mm_mentions.specs.declared.mention.Mention.{Mention}
use Rattle.mm_mentions.specs.declared.mention.What.{What}
use Rattle.mm_mentions.specs.declared.mention.What.TheVariants as what

-- the path of the type that a Drop impl is for; other mentions have none, and neither has one for what is no struct and no enum
abbrev pub target_of : ℕ → What → List Name
target_of line (what.DropImpl []) = []
target_of line (what.DropImpl (c ∷ cs)) = record { line = line; text = c ∷ cs } ∷ []
target_of line _ = []

abbrev pub targets_in : List Mention → List Name
targets_in mentions = flat_map (λ m. target_of m.line m.what) mentions
