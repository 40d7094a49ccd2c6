-- Names: of what is defined, and those that stand for a variant or a method. Names within paths are not asked.
use Rattle.std.specs.Prelude.{List, Bool, true, Option}
use Rattle.std.specs.Option.{option_map_or}
use Rattle.mm_ast.specs.declared.names.Name.{Name}
use Rattle.mm_names.specs.Runs.{is_name}
use Rattle.mm_written.specs.Lists.{few_each}

unfoldable pub written_name : Name → Bool
written_name name = is_name name.text

unfoldable pub written_names : List Name → Bool
written_names names = few_each written_name names

-- the name of a variant, where there is one
abbrev pub written_variant_name : Option Name → Bool
written_variant_name variant = option_map_or written_name variant true
