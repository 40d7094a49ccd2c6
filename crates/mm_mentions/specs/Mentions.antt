-- One mention: what is mentioned at a line.
use Rattle.std.specs.Prelude.{ℕ, Option}
use Rattle.mm_ast.specs.declared.names.Name.{Name}
use Rattle.mm_ast.specs.declared.names.Path.{Path}
use Rattle.mm_definitions.specs.declared.kinds.Wanted.{Wanted}
use Rattle.mm_mentions.specs.declared.mention.Mention.{Mention}
use Rattle.mm_mentions.specs.declared.mention.What.{What}
use Rattle.mm_mentions.specs.declared.mention.What.TheVariants as whats
use Rattle.mm_definitions.specs.Paths.{path_in, path_named}

abbrev pub at : ℕ → What → Mention
at line what = record { line = line; what = what }

-- a path, with so many type arguments and operands
abbrev pub path_at : Wanted → Path → ℕ → Option ℕ → Mention
path_at wanted path type_args operands =
    at path.line (whats.Path (record { wanted = wanted; path = path_named path; type_args = type_args; operands = operands }))

-- a variant or a method by its name, of the enum or trait with a path
abbrev pub member_at : Wanted → Path → Name → ℕ → Option ℕ → Mention
member_at wanted path name type_args operands =
    at name.line (whats.Path (record { wanted = wanted; path = path_in (path_named path) name.text; type_args = type_args; operands = operands }))

-- `dyn` and a trait
abbrev pub dyn_at : ℕ → Path → Mention
dyn_at line path = at line (whats.Dyn (path_named path))
