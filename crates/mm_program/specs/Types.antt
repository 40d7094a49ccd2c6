-- Types, heads and type arguments within a program: each id is there and of its kind, each definition has as many arguments as it
-- takes, and each parameter is one of those in scope.
use Rattle.std.specs.Prelude.{◌≡◌, ℕ, ◌+◌, ◌<◌, ⊤, List, length, All}
use Rattle.mm_terms.specs.declared.head.Head.{Head}
use Rattle.mm_terms.specs.declared.ids.DefId.{DefId}
use Rattle.mm_terms.specs.declared.tree.Tree.{Tree}
use Rattle.mm_terms.specs.declared.tree.Tree.TheFolds.{every-Tree}
use Rattle.mm_terms.specs.declared.tree.Tree.TheOpen.{Tree-F}
use Rattle.mm_terms.specs.declared.ty_head.TyHead.{TyHead}
use Rattle.mm_terms.specs.declared.ty_head.TyHead.TheVariants as head
use Rattle.mm_terms.specs.Formed.{IsType}
use Rattle.mm_program.specs.declared.kind.DefKind.TheVariants as kind
use Rattle.mm_program.specs.declared.parts.Parts.{Parts}
use Rattle.mm_program.specs.Kinds.{is_data}
use Rattle.mm_program.specs.Views.{IsOfKind, IsOfKinds, type_params_of}

-- The head over so many types, where there are n type parameters. `Self` is no argument of a `dyn` type
abbrev pub IsTyHeadIn : Parts → ℕ → TyHead → ℕ → Type 0
IsTyHeadIn p n (head.Param i) k = i < n
IsTyHeadIn p n head.U64 k = ⊤
IsTyHeadIn p n head.Bool k = ⊤
IsTyHeadIn p n head.Tuple k = ⊤
IsTyHeadIn p n head.Ref k = ⊤
IsTyHeadIn p n head.Boxed k = ⊤
IsTyHeadIn p n head.FnPtr k = ⊤
IsTyHeadIn p n (head.FnItem d) k = IsOfKind p d kind.Fn × k ≡ type_params_of p d
IsTyHeadIn p n (head.Closure d) k = IsOfKind p d kind.Closure × k ≡ type_params_of p d
IsTyHeadIn p n (head.Dyn d) k = IsOfKind p d kind.Trait × k + 1 ≡ type_params_of p d
IsTyHeadIn p n (head.Adt d) k = IsOfKinds p d is_data × k ≡ type_params_of p d

abbrev pub IsHereIn : Parts → ℕ → Tree-F Tree → Type 0
IsHereIn p n layer = IsTyHeadIn p n layer.head (length layer.children)

-- each head in the type is one
unfoldable pub HasHeadsIn : Parts → ℕ → Tree → Type 0
HasHeadsIn p n = every-Tree (IsHereIn p n)

-- a type of the program, where there are n type parameters
pub record IsTypeIn (p : Parts) (n : ℕ) (t : Tree) : Type 0 where
  pub type : IsType t
  pub heads : HasHeadsIn p n t

-- type arguments for each type parameter of a definition
pub record AreArgsFor (p : Parts) (n : ℕ) (d : DefId) (args : List Tree) : Type 0 where
  pub count : length args ≡ type_params_of p d
  pub types : All (IsTypeIn p n) args

-- a trait at its types
pub record IsHeadIn (p : Parts) (n : ℕ) (head : Head) : Type 0 where
  pub tr : IsOfKind p head.tr kind.Trait
  pub args : AreArgsFor p n head.tr head.args
