-- What the names of a text are in a program, and what is asked where they stand.
use Rattle.std.specs.Prelude.{◌≡◌, ℕ, suc, ◌+◌, ◌<◌, ◌⊎◌, List, length, All, true, Some, []}
use Rattle.mm_ast.specs.declared.names.Name.{Name}
use Rattle.mm_definitions.specs.declared.kinds.Kind.{Kind}
use Rattle.mm_definitions.specs.declared.kinds.Kind.TheVariants as kinds
use Rattle.mm_definitions.specs.declared.kinds.Wanted.{Wanted}
use Rattle.mm_definitions.specs.declared.kinds.Wanted.TheVariants as wants
use Rattle.mm_definitions.specs.declared.named.Named.{Named}
use Rattle.mm_definitions.specs.Paths.{path_in}
use Rattle.mm_lower.specs.Params.{Params, number_of, self_name}
use Rattle.mm_lower.specs.Paths.{Paths}
use Rattle.mm_mentions.specs.declared.mention.Mention.{Mention}
use Rattle.mm_mentions.specs.Scopes as mentions
use Rattle.mm_names.specs.Runs.{is_name}
use Rattle.mm_program.specs.declared.kind.DefKind.TheVariants as kind
use Rattle.mm_program.specs.declared.parts.Parts.{Parts}
use Rattle.mm_program.specs.Bodies.{method_at}
use Rattle.mm_program.specs.Views.{IsOfKind, type_params_of, params_of, fields_of, path_of}
use Rattle.mm_resolve.specs.Scopes.{Scope}
use Rattle.mm_rules.specs.MentionRules.{broken}
use Rattle.mm_terms.specs.declared.ids.DefId.{DefId}
use Rattle.mm_terms.specs.declared.tree.Tree.{Tree}

-- ---- what has a name

-- a definition has so many fields in one of its variants
pub record HasFields (p : Parts) (d : DefId) (variant count : ℕ) : Type 0 where
  pub fields : List Tree
  pub there : fields_of p d variant ≡ Some fields
  pub as_many : count ≡ length fields

-- What has a name is a definition of the program, of its kind, and with as many type parameters and operands as are said of it.
-- A trait has `Self` besides those of its own
abbrev pub IsAs : Parts → Named → Kind → Type 0
IsAs p d kinds.Function = IsOfKind p d.def kind.Fn × (d.type_params ≡ type_params_of p d.def) × (d.operands ≡ length (params_of p d.def))
IsAs p d kinds.Closure = IsOfKind p d.def kind.Closure × (d.type_params ≡ type_params_of p d.def) × HasFields p d.def 0 d.operands
IsAs p d kinds.Struct = IsOfKind p d.def kind.Struct × (d.type_params ≡ type_params_of p d.def) × HasFields p d.def 0 d.operands
IsAs p d kinds.Enum = IsOfKind p d.def kind.Enum × (d.type_params ≡ type_params_of p d.def)
IsAs p d kinds.Variant = IsOfKind p d.def kind.Enum × HasFields p d.def d.place d.operands
IsAs p d kinds.Trait = IsOfKind p d.def kind.Trait × (suc d.type_params ≡ type_params_of p d.def)
IsAs p d kinds.Method = IsOfKind p d.def kind.Method × (d.operands ≡ length (params_of p d.def)) × (d.path ≡ path_of p d.def)
IsAs p d kinds.Static = IsOfKind p d.def kind.Static
IsAs p d kinds.Const = IsOfKind p d.def kind.Const × (d.type_params ≡ type_params_of p d.def)

-- it is of a kind that fits
abbrev pub IsWanted : Wanted → Kind → Type 0
IsWanted (wants.One k) found = found ≡ k
IsWanted wants.Adt found = (found ≡ kinds.Struct) ⊎ (found ≡ kinds.Enum)
IsWanted wants.Whole found = (found ≡ kinds.Struct) ⊎ (found ≡ kinds.Closure)

-- the second one is the method of the first at its place, and has the type parameters of the trait before its own
pub record HasMethod (p : Parts) (tr m : Named) : Type 0 where
  pub there : method_at p tr.def m.place ≡ Some m.def
  pub type_params : type_params_of p tr.def + m.type_params ≡ type_params_of p m.def

-- ---- what paths lead to

-- Each path leads to what has this path, is of a kind that fits, and is in the program as is said of it. And the name of a method or a
-- variant behind the path of a trait or an enum leads to one of it
pub record Leads (p : Parts) (paths : Paths) : Type 0 where
  pub wanted : (w : Wanted) (path : List ℕ) (d : Named) → paths w path ≡ Some d → IsWanted w d.kind
  pub named : (w : Wanted) (path : List ℕ) (d : Named) → paths w path ≡ Some d → IsAs p d d.kind
  pub spelled : (w : Wanted) (path : List ℕ) (d : Named) → paths w path ≡ Some d → d.path ≡ path
  pub method : (path : List ℕ) (name : Name) (tr m : Named) → is_name name.text ≡ true → paths (wants.One kinds.Trait) path ≡ Some tr → paths (wants.One kinds.Method) (path_in path name.text) ≡ Some m → HasMethod p tr m
  pub variant : (path : List ℕ) (name : Name) (of v : Named) → is_name name.text ≡ true → paths (wants.One kinds.Enum) path ≡ Some of → paths (wants.One kinds.Variant) (path_in path name.text) ≡ Some v → v.def ≡ of.def

-- ---- what is written

-- what is mentioned breaks no rule
abbrev pub Kept : Scope → List Mention → Type 0
Kept scope mentions = All (λ m. broken scope m.what ≡ []) mentions

-- the names that may stand for type parameters have numbers below n
pub record InScope (names : mentions.Scope) (params : Params) (n : ℕ) : Type 0 where
  pub param : (name : List ℕ) → names.param name ≡ true → number_of params name < n
  pub self_type : names.has_self ≡ true → number_of params self_name < n
