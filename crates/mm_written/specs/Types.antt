-- Types, and the type arguments of what is named.
use Rattle.std.specs.Prelude.{ℕ, ◌+◌, ◌&&◌, List, length, map, sum, Bool, true, not, Option, nat_eq, nat_lt}
use Rattle.std.specs.List.{list_all}
use Rattle.std.specs.Option.{option_map_or}
use Rattle.mm_ast.specs.declared.names.PathWithArgs.{PathWithArgs}
use Rattle.mm_ast.specs.declared.types.Head.{Head}
use Rattle.mm_ast.specs.declared.types.Head.TheVariants as heads
use Rattle.mm_ast.specs.declared.types.Type as types
use Rattle.mm_ast.specs.declared.types.Type.TheFolds.{fold-Type}
use Rattle.mm_written.specs.Lists.{few_each}

-- a value of a type, by its head and the values of its children
abbrev pub type_fold : {A : Type 0} → (Head → List A → A) → types.«Type» → A
type_fold {A} step = fold-Type A (λ layer. step layer.head layer.children)

-- the head takes so many children: a tuple has none or at least two, and a function pointer at least its result
abbrev pub takes : Head → ℕ → Bool
takes (heads.Param name) n = nat_eq n 0
takes heads.SelfType n = nat_eq n 0
takes heads.U64 n = nat_eq n 0
takes heads.Bool n = nat_eq n 0
takes heads.Tuple n = not (nat_eq n 1)
takes heads.Ref n = nat_eq n 1
takes heads.Boxed n = nat_eq n 1
takes heads.FnPtr n = not (nat_eq n 0)
takes (heads.FnItem path) n = true
takes (heads.Closure path) n = true
takes (heads.Dyn path) n = true
takes (heads.Adt path) n = true

-- each head in the type takes as many children as it has
unfoldable pub formed : types.«Type» → Bool
formed = type_fold (λ head below. takes head (length below) && list_all (λ formed. formed) below)

-- the number of constructors in the type, repeats counted
unfoldable pub constructors : types.«Type» → ℕ
constructors = type_fold (λ head below. 1 + sum below)

abbrev pub constructors_in : List types.«Type» → ℕ
constructors_in types = sum (map constructors types)

unfoldable pub written_type : types.«Type» → Bool
written_type t = formed t && nat_lt (constructors t) 4294967296

unfoldable pub written_types : List types.«Type» → Bool
written_types types = few_each written_type types

-- the type, where there is one
abbrev pub written_result : Option types.«Type» → Bool
written_result result = option_map_or written_type result true

-- the type arguments behind a path
abbrev pub written_args : PathWithArgs → Bool
written_args named = written_types named.args
