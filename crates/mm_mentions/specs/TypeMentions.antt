-- What is mentioned by types.
use Rattle.std.specs.Prelude.{ℕ, ◌+◌, List, [], ◌∷◌, ◌++◌, length, sum, None, Bool, true, false}
use Rattle.std.specs.List.{flat_map}
use Rattle.mm_ast.specs.declared.names.Path.{Path}
use Rattle.mm_ast.specs.declared.types.Head.{Head}
use Rattle.mm_ast.specs.declared.types.Head.TheVariants as heads
use Rattle.mm_ast.specs.declared.types.Type as types
use Rattle.mm_definitions.specs.declared.kinds.Kind.TheVariants as kinds
use Rattle.mm_definitions.specs.declared.kinds.Wanted.TheVariants as wants
use Rattle.mm_mentions.specs.declared.mention.Mention.{Mention}
use Rattle.mm_mentions.specs.declared.mention.What.TheVariants as whats
use Rattle.mm_mentions.specs.Mentions.{at, path_at, dyn_at}
use Rattle.mm_mentions.specs.Scopes.{Scope}
use Rattle.mm_definitions.specs.Trees.{line_of, type_fold}

-- `dyn` and a trait, unless it stands in a where clause
abbrev pub dyn_mentions : Bool → ℕ → Path → List Mention
dyn_mentions true line path = []
dyn_mentions false line path = dyn_at line path ∷ []

-- the head of a type with so many children
unfoldable pub head_mentions : Bool → Scope → ℕ → Head → ℕ → List Mention
head_mentions in_where scope line (heads.Param name) children = at line (whats.Scoped (scope.param name)) ∷ []
head_mentions in_where scope line heads.SelfType children = at line (whats.Scoped scope.has_self) ∷ []
head_mentions in_where scope line (heads.FnItem path) children = path_at (wants.One kinds.Function) path children None ∷ []
head_mentions in_where scope line (heads.Closure path) children = path_at (wants.One kinds.Closure) path children None ∷ []
head_mentions in_where scope line (heads.Dyn path) children = path_at (wants.One kinds.Trait) path children None ∷ dyn_mentions in_where line path
head_mentions in_where scope line (heads.Adt path) children = path_at wants.Adt path children None ∷ []
head_mentions in_where scope line _ children = []

-- the names in a type, which may stand in a where clause: its head, and then the types below it
unfoldable pub names_in : Bool → Scope → types.«Type» → List Mention
names_in in_where scope = type_fold (λ line head below. head_mentions in_where scope line head (length below) ++ flat_map (λ names. names) below)

abbrev pub names_in_all : Bool → Scope → List types.«Type» → List Mention
names_in_all in_where scope types = flat_map (names_in in_where scope) types

-- the number of constructors of a type, repeats counted
unfoldable pub constructors : types.«Type» → ℕ
constructors = type_fold (λ line head below. 1 + sum below)

-- a written type: the names in it, and how long it is
unfoldable pub written_type : Scope → types.«Type» → List Mention
written_type scope t = names_in false scope t ++ at (line_of t) (whats.Type (constructors t)) ∷ []

abbrev pub written_types : Scope → List types.«Type» → List Mention
written_types scope types = flat_map (written_type scope) types
