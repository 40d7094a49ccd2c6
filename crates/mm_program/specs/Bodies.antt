-- Bodies within a program: what they name is there and of its kind, with as many type arguments, operands and fields as it takes.
use Rattle.std.specs.Prelude.{◌≡◌, ℕ, ◌+◌, ◌<◌, ◌≤◌, ◌^◌, ⊤, List, ◌∷◌, length, take, All, Option, Some, IfSome, slice_get}
use Rattle.mm_terms.specs.declared.head.Head.{Head}
use Rattle.mm_terms.specs.declared.ids.DefId.{DefId}
use Rattle.mm_terms.specs.declared.tree.Tree.{Tree}
use Rattle.mm_terms.specs.declared.ty_head.TyHead.{TyHead}
use Rattle.mm_terms.specs.declared.ty_head.TyHead.TheVariants as head
use Rattle.mm_terms.specs.Tree as tree
use Rattle.mm_program.specs.declared.block.Block.{Block}
use Rattle.mm_program.specs.declared.block.End.{End}
use Rattle.mm_program.specs.declared.block.End.TheVariants as end
use Rattle.mm_program.specs.declared.kind.DefKind.TheVariants as kind
use Rattle.mm_program.specs.declared.operand.Callee.{Callee}
use Rattle.mm_program.specs.declared.operand.Callee.TheFolds.{every-Callee, every-Operand}
use Rattle.mm_program.specs.declared.operand.Callee.TheOpen as layer
use Rattle.mm_program.specs.declared.operand.Callee.TheViews.{out-Callee}
use Rattle.mm_program.specs.declared.operand.Operand.{Operand}
use Rattle.mm_program.specs.declared.parts.DefPart.{DefPart}
use Rattle.mm_program.specs.declared.parts.Parts.{Parts}
use Rattle.mm_program.specs.declared.place.Base.{Base}
use Rattle.mm_program.specs.declared.place.Base.TheVariants as base
use Rattle.mm_program.specs.declared.place.Place.{Place}
use Rattle.mm_program.specs.declared.statement.Rvalue.{Rvalue}
use Rattle.mm_program.specs.declared.statement.Rvalue.TheVariants as rvalue
use Rattle.mm_program.specs.declared.statement.Statement.{Statement}
use Rattle.mm_program.specs.declared.statement.Statement.TheVariants as statement
use Rattle.mm_program.specs.Code.{Code, IsBody}
use Rattle.mm_program.specs.Kinds.{has_fields}
use Rattle.mm_program.specs.Types.{IsTypeIn, AreArgsFor, IsHeadIn}
use Rattle.mm_program.specs.Views.{IsOfKind, IsOfKinds, type_params_of, fields_of, methods_of, params_of}

-- ---- places

abbrev pub IsBaseIn : Parts → Base → Type 0
IsBaseIn p (base.Local i) = ⊤
IsBaseIn p (base.Static d) = IsOfKind p d kind.Static

pub record IsPlaceIn (p : Parts) (place : Place) : Type 0 where
  pub base : IsBaseIn p place.base
  pub steps : length place.steps < 2 ^ 32

-- ---- callees and operands, where there are n type parameters

-- the method at a place of a trait
abbrev pub method_at : Parts → DefId → ℕ → Option DefId
method_at p tr m = slice_get (methods_of p tr) m

-- the method at the place m of a trait at its types, with own type arguments besides those of the trait
pub record IsMethodIn (p : Parts) (n : ℕ) (head : Head) (m : ℕ) (own : List Tree) : Type 0 where
  pub trait_head : IsHeadIn p n head
  pub method : DefId
  pub there : method_at p head.tr m ≡ Some method
  pub count : type_params_of p head.tr + length own ≡ type_params_of p method
  pub types : All (IsTypeIn p n) own

-- a callee, but for what is within it. No slot of a vtable is one
abbrev pub IsCalleeHere : Parts → ℕ → layer.Callee-F Callee Operand → Type 0
IsCalleeHere p n (layer.Direct d args) = IsOfKind p d kind.Fn × AreArgsFor p n d args
IsCalleeHere p n (layer.Method head m own) = IsMethodIn p n head m own
IsCalleeHere p n (layer.Call t) = IsTypeIn p n t
IsCalleeHere p n (layer.Slot k) = ⊥
IsCalleeHere p n (layer.Pointer only) = ⊤

abbrev pub IsOperandHere : Parts → ℕ → layer.Operand-F Callee Operand → Type 0
IsOperandHere p n (layer.Copy place) = IsPlaceIn p place
IsOperandHere p n (layer.Move place) = IsPlaceIn p place
IsOperandHere p n (layer.Num k) = ⊤
IsOperandHere p n (layer.Truth b) = ⊤
IsOperandHere p n (layer.Const d args) = IsOfKind p d kind.Const × AreArgsFor p n d args
IsOperandHere p n (layer.Fn callee) = ⊤

unfoldable pub IsCalleeIn : Parts → ℕ → Callee → Type 0
IsCalleeIn p n = every-Callee (IsCalleeHere p n) (IsOperandHere p n)

unfoldable pub IsOperandIn : Parts → ℕ → Operand → Type 0
IsOperandIn p n = every-Operand (IsCalleeHere p n) (IsOperandHere p n)

pub record AreOperandsIn (p : Parts) (n : ℕ) (operands : List Operand) : Type 0 where
  pub few : length operands < 2 ^ 32
  pub each : All (IsOperandIn p n) operands

-- A callee is called with so many operands: a function or a method with one for each parameter, and `Call` with the value that
-- is called at least. How many what is behind a pointer takes, its type says
abbrev pub TakesHere : Parts → layer.Callee-F Callee Operand → ℕ → Type 0
TakesHere p (layer.Direct d args) k = k ≡ length (params_of p d)
TakesHere p (layer.Method head m own) k = IfSome (method_at p head.tr m) (λ method. k ≡ length (params_of p method))
TakesHere p (layer.Call t) k = 1 ≤ k
TakesHere p (layer.Slot j) k = ⊤
TakesHere p (layer.Pointer only) k = ⊤

abbrev pub Takes : Parts → Callee → ℕ → Type 0
Takes p callee k = TakesHere p (out-Callee callee) k

-- ---- statements

-- a struct, a closure or an enum at its type arguments, as one of its variants, from so many fields
pub record IsNewIn (p : Parts) (n : ℕ) (d : DefId) (args : List Tree) (variant k : ℕ) : Type 0 where
  pub kind : IsOfKinds p d has_fields
  pub type_args : AreArgsFor p n d args
  pub fields : List Tree
  pub there : fields_of p d variant ≡ Some fields
  pub count : k ≡ length fields

abbrev pub IsDynHead : TyHead → Type 0
IsDynHead (head.Dyn d) = ⊤
IsDynHead _ = ⊥

abbrev pub IsRvalueIn : Parts → ℕ → Rvalue → Type 0
IsRvalueIn p n (rvalue.Use only) = IsOperandIn p n only
IsRvalueIn p n (rvalue.Ref place) = IsPlaceIn p place
IsRvalueIn p n (rvalue.Not only) = IsOperandIn p n only
IsRvalueIn p n (rvalue.Binary op left right) = IsOperandIn p n left × IsOperandIn p n right
IsRvalueIn p n (rvalue.Variant place) = IsPlaceIn p place
IsRvalueIn p n (rvalue.Boxed only) = IsOperandIn p n only
IsRvalueIn p n (rvalue.Tuple parts) = AreOperandsIn p n parts
IsRvalueIn p n (rvalue.New d args variant parts) = IsNewIn p n d args variant (length parts) × AreOperandsIn p n parts
IsRvalueIn p n (rvalue.Dyn only behind to) = IsOperandIn p n only × IsTypeIn p n behind × IsTypeIn p n to × IsDynHead (tree.head_of to)

-- nothing is freed by a statement of a program
abbrev pub IsStatementIn : Parts → ℕ → Statement → Type 0
IsStatementIn p n (statement.Set place made) = IsPlaceIn p place × IsRvalueIn p n made
IsStatementIn p n (statement.Print only) = IsOperandIn p n only
IsStatementIn p n (statement.Free place) = ⊥

abbrev pub IsEndIn : Parts → ℕ → End → Type 0
IsEndIn p n end.Return = ⊤
IsEndIn p n end.Unreachable = ⊤
IsEndIn p n (end.Goto label) = ⊤
IsEndIn p n (end.Switch only arms otherwise) = IsOperandIn p n only × length arms < 2 ^ 32
IsEndIn p n (end.Call place callee operands label) = IsPlaceIn p place × IsCalleeIn p n callee × AreOperandsIn p n operands × Takes p callee (length operands)
IsEndIn p n (end.Drop place label) = IsPlaceIn p place

pub record IsBlockIn (p : Parts) (n : ℕ) (block : Block) : Type 0 where
  pub statements : All (IsStatementIn p n) block.statements
  pub end : IsEndIn p n block.end

-- ---- bodies

-- The body of a definition. Its locals begin with those of the result and of the parameters
pub record IsBodyIn (p : Parts) (part : DefPart) (code : Code) : Type 0 where
  pub body : IsBody code
  pub params : code.params ≡ length part.params
  pub signature : IfSome part.result (λ result. take (length part.params + 1) code.locals ≡ result ∷ part.params)
  pub locals : All (IsTypeIn p part.type_params) code.locals
  pub blocks : All (IsBlockIn p part.type_params) code.blocks
