-- What a crate defines that something else can name, and the number of each definition in the whole text, counted from 0
-- by its first token. A variant has the number of its enum; the methods of a trait or an impl follow it.
use Rattle.std.specs.Prelude.{ℕ, List, [], ◌∷◌, ◌++◌, ◌+◌, length, map, Bool}
use Rattle.std.specs.List.{enumerate_from}
use Rattle.mm_ast.specs.declared.items.Crate.{Crate}
use Rattle.mm_ast.specs.declared.items.DefinitionForm.{DefinitionForm}
use Rattle.mm_ast.specs.declared.items.DefinitionForm.TheVariants as definitions
use Rattle.mm_ast.specs.declared.items.Enum.{Enum}
use Rattle.mm_ast.specs.declared.items.ItemForm.{ItemForm}
use Rattle.mm_ast.specs.declared.items.ItemForm.TheVariants as forms
use Rattle.mm_ast.specs.declared.items.Method.{Method}
use Rattle.mm_ast.specs.declared.items.Trait.{Trait}
use Rattle.mm_ast.specs.declared.items.Variant.{Variant}
use Rattle.mm_definitions.specs.declared.kinds.Kind.TheVariants as kinds
use Rattle.mm_definitions.specs.declared.named.Named.{Named}
use Rattle.mm_definitions.specs.DynCompatible.{is_dyn_compatible}
use Rattle.mm_definitions.specs.Kinds.{named}
use Rattle.mm_definitions.specs.Paths.{path_in}
use Rattle.mm_definitions.specs.Placed.{Placed, placed_in, size}

-- ---- one item

-- the variant at a place of the enum with this number and path
unfoldable pub variant_named : ℕ → List ℕ → Bool → ℕ × Variant → Named
variant_named n path is_pub (place, v) = named kinds.Variant n place (path_in path v.name.text) is_pub 0 (length v.fields)

-- the method at a place of the trait with this number and path
unfoldable pub method_named : ℕ → List ℕ → Bool → ℕ × Method → Named
method_named n path is_pub (place, m) = named kinds.Method (n + 1 + place) place (path_in path m.name.text) is_pub (length m.type_params) (length m.signature.params)

-- an enum, and its variants
unfoldable pub enum_named : ℕ → List ℕ → Bool → Enum → List Named
enum_named n path is_pub e = named kinds.Enum n 0 path is_pub (length e.type_params) 0 ∷ map (variant_named n path is_pub) (enumerate_from 0 e.variants)

-- a trait alone
abbrev pub trait_alone : ℕ → List ℕ → Bool → Trait → Named
trait_alone n path is_pub t =
    record { kind = kinds.Trait; def = record { 0 = n }; place = 0; path = path; is_pub = is_pub; type_params = length t.type_params; operands = 0; is_dyn_compatible = is_dyn_compatible t.methods }

-- a trait, and its methods
unfoldable pub trait_named : ℕ → List ℕ → Bool → Trait → List Named
trait_named n path is_pub t = trait_alone n path is_pub t ∷ map (method_named n path is_pub) (enumerate_from 0 t.methods)

-- the definition with this number, in the module with this path
unfoldable pub definition_named : ℕ → List ℕ → Bool → DefinitionForm → List Named
definition_named n prefix is_pub (definitions.Function f) = named kinds.Function n 0 (path_in prefix f.name.text) is_pub (length f.type_params) (length f.signature.params) ∷ []
definition_named n prefix is_pub (definitions.Closure c) = named kinds.Closure n 0 (path_in prefix c.name.text) is_pub (length c.type_params) (length c.captures) ∷ []
definition_named n prefix is_pub (definitions.Struct s) = named kinds.Struct n 0 (path_in prefix s.name.text) is_pub (length s.type_params) (length s.fields) ∷ []
definition_named n prefix is_pub (definitions.Enum e) = enum_named n (path_in prefix e.name.text) is_pub e
definition_named n prefix is_pub (definitions.Trait t) = trait_named n (path_in prefix t.name.text) is_pub t
definition_named n prefix is_pub (definitions.Static s) = named kinds.Static n 0 (path_in prefix s.name.text) is_pub 0 0 ∷ []
definition_named n prefix is_pub (definitions.Const c) = named kinds.Const n 0 (path_in prefix c.name.text) is_pub (length c.type_params) 0 ∷ []

-- nothing names an impl or its methods
unfoldable pub form_named : ℕ → List ℕ → ItemForm → List Named
form_named n prefix (forms.Module name) = []
form_named n prefix (forms.Impl impl) = []
form_named n prefix (forms.Definition definition) = definition_named n prefix definition.is_pub definition.form

-- an item of which the first definition has this number
abbrev pub placed_named : ℕ → Placed → List Named
placed_named n p = form_named n p.prefix p.form

-- ---- all items

-- items, the first definition of which has this number
abbrev pub named_from : ℕ → List Placed → List Named
named_from n [] = []
named_from n (p ∷ ps) = placed_named n p ++ named_from (n + size p.form) ps

-- all that a crate defines, if its first definition has this number
unfoldable pub definitions_in : ℕ → Crate → List Named
definitions_in n krate = named_from n (placed_in krate)
