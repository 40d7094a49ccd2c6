-- Types with their names looked up: each parameter by its number, and each definition by its own.
use Rattle.std.specs.Prelude.{List, [], ◌∷◌, map, Option, None, Some}
use Rattle.mm_ast.specs.declared.bodies.DynTrait.{DynTrait}
use Rattle.mm_ast.specs.declared.names.PathWithArgs.{PathWithArgs}
use Rattle.mm_ast.specs.declared.types.Head as written_head
use Rattle.mm_ast.specs.declared.types.Head.TheVariants as heads
use Rattle.mm_ast.specs.declared.types.Type as types
use Rattle.mm_definitions.specs.declared.kinds.Kind.TheVariants as kinds
use Rattle.mm_definitions.specs.declared.kinds.Wanted.TheVariants as wants
use Rattle.mm_definitions.specs.Trees.{type_fold}
use Rattle.mm_terms.specs.declared.head.Head.{Head}
use Rattle.mm_terms.specs.declared.tree.Tree.{Tree}
use Rattle.mm_terms.specs.declared.ty_head.TyHead.{TyHead}
use Rattle.mm_terms.specs.declared.ty_head.TyHead.TheVariants.{Param, U64, Bool, Tuple, Ref, Boxed, FnPtr, FnItem, Closure, Dyn, Adt}
use Rattle.mm_terms.specs.Tree.{node}
use Rattle.mm_lower.specs.Params.{Params, number_of, self_name}
use Rattle.mm_lower.specs.Paths.{Paths, def_of}

module _ (paths : Paths) (params : Params) where
  unfoldable pub head_of : written_head.Head → TyHead
  head_of (heads.Param name) = Param (number_of params name)
  head_of heads.SelfType = Param (number_of params self_name)
  head_of heads.U64 = U64
  head_of heads.Bool = Bool
  head_of heads.Tuple = Tuple
  head_of heads.Ref = Ref
  head_of heads.Boxed = Boxed
  head_of heads.FnPtr = FnPtr
  head_of (heads.FnItem path) = FnItem (def_of paths (wants.One kinds.Function) path)
  head_of (heads.Closure path) = Closure (def_of paths (wants.One kinds.Closure) path)
  head_of (heads.Dyn path) = Dyn (def_of paths (wants.One kinds.Trait) path)
  head_of (heads.Adt path) = Adt (def_of paths wants.Adt path)

  unfoldable pub type_of : types.«Type» → Tree
  type_of = type_fold (λ line head below. node (head_of head) below)

  abbrev pub types_of : List types.«Type» → List Tree
  types_of written = map type_of written

  -- where no result is written it is `()`
  unfoldable pub result_of : Option types.«Type» → Tree
  result_of None = node Tuple []
  result_of (Some written) = type_of written

  -- a trait at its types, of which the self type is the first
  unfoldable pub trait_of : types.«Type» → PathWithArgs → Head
  trait_of self_type named = record { tr = def_of paths (wants.One kinds.Trait) named.path; args = type_of self_type ∷ types_of named.args }

  -- `dyn` and a trait
  unfoldable pub dyn_type_of : DynTrait → Tree
  dyn_type_of d = node (Dyn (def_of paths (wants.One kinds.Trait) d.of.path)) (types_of d.of.args)
