-- The program that a text means: its definitions with their names looked up, each with the number of its place in the text.
use Rattle.std.specs.Prelude.{◌≡◌, ℕ, List, map, codes, ◌-◌, length}
use Rattle.std.specs.List.{flat_map, slice_get}
use Rattle.std.specs.Option.{option_map_or}
use Rattle.mm_ast.specs.declared.items.Ast.{Ast}
use Rattle.mm_ast.specs.declared.items.Crate.{Crate}
use Rattle.mm_definitions.specs.declared.kinds.Kind.TheVariants as kinds
use Rattle.mm_definitions.specs.declared.kinds.Wanted.TheVariants as wants
use Rattle.mm_definitions.specs.Paths.{path_in}
use Rattle.mm_lower.specs.Items.{parts_of}
use Rattle.mm_lower.specs.Paths.{def_at, def_id}
use Rattle.mm_program.specs.declared.parts.DefPart.{DefPart}
use Rattle.mm_program.specs.declared.parts.Parts.{Parts}
use Rattle.mm_resolve.specs.Scopes.{Scope, leads_to}
use Rattle.mm_rules.specs.TreeFaults.{scope_of}
use Rattle.mm_terms.specs.declared.ids.DefId.{DefId}
use Rattle.mm_load.specs.Drops.{with_drops}
use Rattle.mm_load.specs.Located.{Located, site, items_of}
use Rattle.mm_load.specs.Modules.{modules_of}

-- the definition of an item, and those of its methods, where these are the modules of the text
abbrev pub parts_at : List (List ℕ) → Located → List DefPart
parts_at modules l = parts_of (leads_to l.scope) (site modules l) l.form

-- all definitions, each at the place of its number; which Drop impl a type has is not said yet
unfoldable pub all_parts : List Crate → List DefPart
all_parts crates = flat_map (parts_at (modules_of crates)) (items_of crates)

-- the function `main` at the top of a crate
abbrev pub main_in : Scope → Crate → DefId
main_in scope krate = def_at (leads_to scope) (wants.One kinds.Function) (path_in krate.name.text (codes "main"))

-- that of the last crate
unfoldable pub main_of : List Crate → DefId
main_of crates = option_map_or (main_in (scope_of crates (length crates - 1))) (slice_get crates (length crates - 1)) (def_id 0)

abbrev pub program_of : List Crate → Parts
program_of crates = record { crates = map (λ k. k.name.text) crates; modules = modules_of crates; main = main_of crates; defs = with_drops (all_parts crates) }

-- it is the program of the text
abbrev pub IsProgram : Ast → Parts → Type 0
IsProgram tree p = p ≡ program_of tree.crates
