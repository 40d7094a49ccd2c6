-- Well-formed programs: all that a part names is there, and each call fits the function that it names.
use Rattle.std.specs.Prelude.{◌≡◌, ℕ, ◌+◌, ◌<◌, ◌≤◌, ⊤, List, length, All, slice_get, Some}
use Rattle.mm_terms.specs.declared.ids.DefId.{DefId}
use Rattle.mm_terms.specs.declared.item.Item.{Item}
use Rattle.mm_terms.specs.declared.item.Item.TheVariants.{Fn, Glue, Shim, Static}
use Rattle.mm_terms.specs.declared.ty_head.TyHead.{TyHead}
use Rattle.mm_terms.specs.declared.ty_head.TyHead.TheVariants.{Param, U64, Bool, Tuple, Ref, Boxed, FnPtr, FnItem, Closure, Dyn, Adt}
use Rattle.mm_terms.specs.declared.tree.Tree.{Tree}
use Rattle.mm_terms.specs.declared.tree.Tree.TheOpen.{Tree-F}
use Rattle.mm_terms.specs.declared.tree.Tree.TheFolds.{every-Tree}
use Rattle.mm_terms.specs.Formed.{IsFormed}
use Rattle.mm_terms.specs.Substitution.{ParamsBelow}
use Rattle.mm_plain.specs.declared.program.Program.{Program}
use Rattle.mm_plain.specs.declared.program.Function.{Function}
use Rattle.mm_plain.specs.declared.program.Block.{Block}
use Rattle.mm_plain.specs.declared.program.Place.{Place}
use Rattle.mm_plain.specs.declared.program.Statement.{Statement}
use Rattle.mm_plain.specs.declared.program.Statement.TheVariants as statement
use Rattle.mm_plain.specs.declared.program.Rvalue.{Rvalue}
use Rattle.mm_plain.specs.declared.program.Rvalue.TheVariants as rvalue
use Rattle.mm_plain.specs.declared.program.Operand.{Operand}
use Rattle.mm_plain.specs.declared.program.Operand.TheVariants as operand
use Rattle.mm_plain.specs.declared.program.End.{End}
use Rattle.mm_plain.specs.declared.program.End.TheVariants as end
use Rattle.mm_plain.specs.declared.program.Call.{Call}

-- ---- types

-- the head names no definition
abbrev pub NamesNone : TyHead → Type 0
NamesNone (Param i) = ⊤
NamesNone U64 = ⊤
NamesNone Bool = ⊤
NamesNone Tuple = ⊤
NamesNone Ref = ⊤
NamesNone Boxed = ⊤
NamesNone FnPtr = ⊤
NamesNone (FnItem d) = ⊥
NamesNone (Closure d) = ⊥
NamesNone (Dyn d) = ⊥
NamesNone (Adt d) = ⊥

-- the head of one layer names none
abbrev pub NamesNoneHere : Tree-F Tree → Type 0
NamesNoneHere layer = NamesNone layer.head

-- no head in the type names a definition
unfoldable pub NamesNoDefinition : Tree → Type 0
NamesNoDefinition = every-Tree NamesNoneHere

-- A type where there are n type parameters: each head has as many types below it as it takes, each parameter is one of
-- the n, and no definition is named
pub record IsTypeUnder (n : ℕ) (t : Tree) : Type 0 where
  pub formed : IsFormed t
  pub params : ParamsBelow n t
  pub plain : NamesNoDefinition t

-- ---- the parts of a body of the function f

-- it is a local of f
abbrev pub IsPlaceOf : Function → Place → Type 0
IsPlaceOf f place = place.local < length f.locals

-- it is the label of a block of f
abbrev pub IsLabelOf : Function → ℕ → Type 0
IsLabelOf f label = label < length f.blocks

-- what is read is a local, or a value that is written out
abbrev pub IsOperandOf : Function → Operand → Type 0
IsOperandOf f (operand.Copy place) = IsPlaceOf f place
IsOperandOf f (operand.Move place) = IsPlaceOf f place
IsOperandOf f (operand.Num n) = ⊤
IsOperandOf f (operand.Truth b) = ⊤

abbrev pub IsRvalueOf : Function → Rvalue → Type 0
IsRvalueOf f (rvalue.Use only) = IsOperandOf f only
IsRvalueOf f (rvalue.Not only) = IsOperandOf f only
IsRvalueOf f (rvalue.Binary op left right) = IsOperandOf f left × IsOperandOf f right

abbrev pub IsStatementOf : Function → Statement → Type 0
IsStatementOf f (statement.Set place made) = IsPlaceOf f place × IsRvalueOf f made
IsStatementOf f (statement.Print only) = IsOperandOf f only

-- a call in f of a function of the program: a type argument for each of its type parameters, an operand for each of its
-- parameters, and parts of f
pub record IsCallIn (p : Program) (f : Function) (call : Call) : Type 0 where
  pub callee : Function
  pub named : slice_get p.functions call.callee.0 ≡ Some callee
  pub type_args : length call.args ≡ callee.type_params
  pub args : length call.operands ≡ callee.params
  pub types : All (IsTypeUnder f.type_params) call.args
  pub operands : All (IsOperandOf f) call.operands
  pub place : IsPlaceOf f call.place
  pub target : IsLabelOf f call.target

abbrev pub IsEndIn : Program → Function → End → Type 0
IsEndIn p f end.Return = ⊤
IsEndIn p f end.Unreachable = ⊤
IsEndIn p f (end.Goto label) = IsLabelOf f label
IsEndIn p f (end.Switch only arms otherwise) = IsOperandOf f only × All (λ arm. IsLabelOf f arm.label) arms × IsLabelOf f otherwise
IsEndIn p f (end.Call call) = IsCallIn p f call

pub record IsBlockIn (p : Program) (f : Function) (block : Block) : Type 0 where
  pub statements : All (IsStatementOf f) block.statements
  pub end : IsEndIn p f block.end

-- ---- programs

-- The locals are the result, the parameters and the others. There is at least one block. Locals and blocks are numbered
-- from 0 to at most 65,535
pub record IsFunctionIn (p : Program) (f : Function) : Type 0 where
  pub locals : f.params + 1 ≤ length f.locals
  pub few_locals : length f.locals ≤ 65536
  pub types : All (IsTypeUnder f.type_params) f.locals
  pub some_block : 1 ≤ length f.blocks
  pub few_blocks : length f.blocks ≤ 65536
  pub blocks : All (IsBlockIn p f) f.blocks

-- the function that a run begins with is one of the program's, without type parameters and without parameters
pub record HasMain (p : Program) : Type 0 where
  pub main : Function
  pub named : slice_get p.functions p.main.0 ≡ Some main
  pub no_type_params : main.type_params ≡ 0
  pub no_params : main.params ≡ 0

-- a run has where to begin, and each function is well-formed. This is what a program has that was loaded from a text
pub record IsWellFormed (p : Program) : Type 0 where
  pub main : HasMain p
  pub functions : All (IsFunctionIn p) p.functions

-- ---- items

-- an instance of a function of the program: a type argument for each of its type parameters, none with parameters of its own
pub record IsInstanceOf (p : Program) (d : DefId) (args : List Tree) : Type 0 where
  pub function : Function
  pub named : slice_get p.functions d.0 ≡ Some function
  pub type_args : length args ≡ function.type_params
  pub types : All (IsTypeUnder 0) args

-- an item that a well-formed program can have: an instance of one of its functions
abbrev pub IsInstanceIn : Program → Item → Type 0
IsInstanceIn p (Fn d args) = IsInstanceOf p d args
IsInstanceIn p (Glue t) = ⊥
IsInstanceIn p (Shim t) = ⊥
IsInstanceIn p (Static d) = ⊥
