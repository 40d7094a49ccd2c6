-- What is asked of the head of an impl: the trait and its arguments, if it is of a trait, and the self type.
use Rattle.std.specs.Prelude.{ℕ, List, [], length, Bool, false, ◌&&◌, ◌||◌, nat_eq}
use Rattle.std.specs.List.{list_any, list_all}
use Rattle.std.specs.Str.{bytes_eq}
use Rattle.mm_ast.specs.declared.items.TraitImpl.{TraitImpl}
use Rattle.mm_ast.specs.declared.names.Name.{Name}
use Rattle.mm_ast.specs.declared.types.Head.{Head}
use Rattle.mm_ast.specs.declared.types.Head.TheVariants as heads
use Rattle.mm_ast.specs.declared.types.Type as types
use Rattle.mm_definitions.specs.Paths.{path_named}
use Rattle.mm_mentions.specs.Scopes.{Names}
use Rattle.mm_definitions.specs.Trees.{head_of, children_of, type_fold}

-- ---- the type parameters

-- the head is the type parameter of this name
abbrev pub is_param_head : List ℕ → Head → Bool
is_param_head name (heads.Param other) = bytes_eq name other
is_param_head name _ = false

-- the type parameter of this name occurs in the type
unfoldable pub occurs_in : List ℕ → types.«Type» → Bool
occurs_in name = type_fold (λ line head below. is_param_head name head || list_any (λ occurs. occurs) below)

-- which type parameters occur in these types
abbrev pub occurring : List types.«Type» → Names
occurring types name = list_any (occurs_in name) types

-- ---- the crate

-- the head names a definition of this crate
abbrev pub names_crate_here : List ℕ → Head → Bool
names_crate_here krate (heads.FnItem path) = bytes_eq krate path.krate
names_crate_here krate (heads.Closure path) = bytes_eq krate path.krate
names_crate_here krate (heads.Dyn path) = bytes_eq krate path.krate
names_crate_here krate (heads.Adt path) = bytes_eq krate path.krate
names_crate_here krate _ = false

-- the type names a definition of this crate
unfoldable pub names_crate : List ℕ → types.«Type» → Bool
names_crate krate = type_fold (λ line head below. names_crate_here krate head || list_any (λ names. names) below)

-- the head of an impl of a trait names a definition of this crate
unfoldable pub head_names_crate : List ℕ → TraitImpl → Bool
head_names_crate krate impl = bytes_eq krate impl.of.path.krate || list_any (names_crate krate) impl.of.args || names_crate krate impl.target

-- ---- the self type of a Drop impl

-- the type is the type parameter of this name
abbrev pub is_param_named : List ℕ → types.«Type» → Bool
is_param_named name t = is_param_head name (head_of t)

-- which names these types are, where they are type parameters
abbrev pub written_alone : List types.«Type» → Names
written_alone types name = list_any (is_param_named name) types

-- There are as many arguments as type parameters, and each type parameter is an argument. So, where no two type
-- parameters have one name, the arguments are the type parameters, each once.
abbrev pub are_params : List Name → List types.«Type» → Bool
are_params params args = nat_eq (length args) (length params) && list_all (λ p. written_alone args p.text) params

-- a struct or an enum of this crate
abbrev pub is_adt_of : List ℕ → Head → Bool
is_adt_of krate (heads.Adt path) = bytes_eq krate path.krate
is_adt_of krate _ = false

-- a struct or an enum of this crate, and its arguments are these type parameters, each once
unfoldable pub is_drop_target : List ℕ → List Name → types.«Type» → Bool
is_drop_target krate params t = is_adt_of krate (head_of t) && are_params params (children_of t)

-- the path of a struct or an enum
abbrev pub adt_path : Head → List ℕ
adt_path (heads.Adt path) = path_named path
adt_path _ = []
