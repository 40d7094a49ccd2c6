-- What is mentioned by callees, and by a path with what is made of it.
use Rattle.std.specs.Prelude.{ℕ, List, [], ◌∷◌, ◌++◌, length, Option, None, Some}
use Rattle.mm_ast.specs.declared.bodies.Callee.{Callee}
use Rattle.mm_ast.specs.declared.bodies.Callee.TheVariants as callees
use Rattle.mm_ast.specs.declared.bodies.MethodCallee.{MethodCallee}
use Rattle.mm_ast.specs.declared.names.Name.{Name}
use Rattle.mm_ast.specs.declared.names.Path.{Path}
use Rattle.mm_ast.specs.declared.names.PathWithArgs.{PathWithArgs}
use Rattle.mm_definitions.specs.declared.kinds.Kind.TheVariants as kinds
use Rattle.mm_definitions.specs.declared.kinds.Wanted.{Wanted}
use Rattle.mm_definitions.specs.declared.kinds.Wanted.TheVariants as wants
use Rattle.mm_mentions.specs.declared.mention.Mention.{Mention}
use Rattle.mm_mentions.specs.declared.mention.What.TheVariants as whats
use Rattle.mm_mentions.specs.Mentions.{at, path_at, member_at}
use Rattle.mm_definitions.specs.Paths.{path_in, path_named}
use Rattle.mm_mentions.specs.Scopes.{Scope}
use Rattle.mm_mentions.specs.TypeMentions.{written_type, written_types}

-- a path and its type arguments, with so many operands
abbrev pub named_mentions : Scope → Wanted → PathWithArgs → Option ℕ → List Mention
named_mentions scope wanted named operands = path_at wanted named.path (length named.args) operands ∷ written_types scope named.args

-- the self type, the trait, and the method with its type arguments
unfoldable pub method_callee_mentions : Scope → MethodCallee → Option ℕ → List Mention
method_callee_mentions scope m operands =
    written_type scope m.self_type
    ++ named_mentions scope (wants.One kinds.Trait) m.of None
    ++ member_at (wants.One kinds.Method) m.of.path m.name (length m.args) operands
    ∷ written_types scope m.args

-- a call through `Call`, where there is one
abbrev pub callable : ℕ → Option ℕ → List Mention
callable line None = []
callable line (Some operands) = at line (whats.Callable operands) ∷ []

-- a function by its name; it has operands where it is called, and none where it is a value
unfoldable pub callee_mentions : Scope → Callee → Option ℕ → List Mention
callee_mentions scope (callees.Direct named) operands = named_mentions scope (wants.One kinds.Function) named operands
callee_mentions scope (callees.Method m) operands = method_callee_mentions scope m operands
callee_mentions scope (callees.Call c) operands = written_type scope c.self_type ++ callable c.line operands

-- the operands of a variant
abbrev pub fields_at : Path → Name → ℕ → Mention
fields_at path variant operands = at path.line (whats.Fields (record { path = path_in (path_named path) variant.text; operands = operands }))

-- A struct or closure with so many operands; or an enum, its variant, and how many operands this has.
unfoldable pub new_mentions : Scope → PathWithArgs → Option Name → ℕ → List Mention
new_mentions scope named None operands = named_mentions scope wants.Whole named (Some operands)
new_mentions scope named (Some variant) operands =
    named_mentions scope (wants.One kinds.Enum) named None
    ++ member_at (wants.One kinds.Variant) named.path variant 0 None
    ∷ fields_at named.path variant operands
    ∷ []
