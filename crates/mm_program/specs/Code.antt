-- What a body is: the number of parameters, the types of the locals, and the blocks. And when its numbers are those of its own
-- locals and blocks.
use Rattle.std.specs.Prelude.{ℕ, ◌+◌, ◌<◌, ◌≤◌, ◌^◌, ⊤, List, length, All, Option, slice_get}
use Rattle.std.specs.Option.{option_map}
use Rattle.mm_terms.specs.declared.tree.Tree.{Tree}
use Rattle.mm_program.specs.declared.block.Block.{Block}
use Rattle.mm_program.specs.declared.block.End.{End}
use Rattle.mm_program.specs.declared.block.End.TheVariants as end
use Rattle.mm_program.specs.declared.operand.Callee.{Callee}
use Rattle.mm_program.specs.declared.operand.Callee.TheFolds.{every-Callee, every-Operand}
use Rattle.mm_program.specs.declared.operand.Callee.TheOpen as layer
use Rattle.mm_program.specs.declared.operand.Operand.{Operand}
use Rattle.mm_program.specs.declared.place.Base.{Base}
use Rattle.mm_program.specs.declared.place.Base.TheVariants as base
use Rattle.mm_program.specs.declared.place.Place.{Place}
use Rattle.mm_program.specs.declared.statement.Rvalue.{Rvalue}
use Rattle.mm_program.specs.declared.statement.Rvalue.TheVariants as rvalue
use Rattle.mm_program.specs.declared.statement.Statement.{Statement}
use Rattle.mm_program.specs.declared.statement.Statement.TheVariants as statement

-- what contracts see of a body
pub record Code : Type 0 where
  pub params : ℕ
  pub locals : List Tree
  pub blocks : List Block

-- the statements of a block, by its label
abbrev pub statements_of : Code → ℕ → Option (List Statement)
statements_of code label = option_map (λ block. block.statements) (slice_get code.blocks label)

-- the end of a block, by its label
abbrev pub end_of : Code → ℕ → Option End
end_of code label = option_map (λ block. block.end) (slice_get code.blocks label)

-- ---- numbers of locals: each is below n

abbrev pub IsBaseBelow : ℕ → Base → Type 0
IsBaseBelow n (base.Local i) = i < n
IsBaseBelow n (base.Static d) = ⊤

abbrev pub IsPlaceBelow : ℕ → Place → Type 0
IsPlaceBelow n place = IsBaseBelow n place.base

-- the place that is read at once, and not within a callee
abbrev pub IsReadBelow : ℕ → layer.Operand-F Callee Operand → Type 0
IsReadBelow n (layer.Copy place) = IsPlaceBelow n place
IsReadBelow n (layer.Move place) = IsPlaceBelow n place
IsReadBelow n (layer.Num k) = ⊤
IsReadBelow n (layer.Truth b) = ⊤
IsReadBelow n (layer.Const d args) = ⊤
IsReadBelow n (layer.Fn callee) = ⊤

-- also in the callee that it may be
unfoldable pub IsOperandBelow : ℕ → Operand → Type 0
IsOperandBelow n = every-Operand (λ callee. ⊤) (IsReadBelow n)

-- in the operand that it may be called through
unfoldable pub IsCalleeBelow : ℕ → Callee → Type 0
IsCalleeBelow n = every-Callee (λ callee. ⊤) (IsReadBelow n)

abbrev pub AreOperandsBelow : ℕ → List Operand → Type 0
AreOperandsBelow n = All (IsOperandBelow n)

abbrev pub IsRvalueBelow : ℕ → Rvalue → Type 0
IsRvalueBelow n (rvalue.Use only) = IsOperandBelow n only
IsRvalueBelow n (rvalue.Ref place) = IsPlaceBelow n place
IsRvalueBelow n (rvalue.Not only) = IsOperandBelow n only
IsRvalueBelow n (rvalue.Binary op left right) = IsOperandBelow n left × IsOperandBelow n right
IsRvalueBelow n (rvalue.Variant place) = IsPlaceBelow n place
IsRvalueBelow n (rvalue.Boxed only) = IsOperandBelow n only
IsRvalueBelow n (rvalue.Tuple parts) = AreOperandsBelow n parts
IsRvalueBelow n (rvalue.New d args variant parts) = AreOperandsBelow n parts
IsRvalueBelow n (rvalue.Dyn only behind to) = IsOperandBelow n only

abbrev pub IsStatementBelow : ℕ → Statement → Type 0
IsStatementBelow n (statement.Set place made) = IsPlaceBelow n place × IsRvalueBelow n made
IsStatementBelow n (statement.Print only) = IsOperandBelow n only
IsStatementBelow n (statement.Free place) = IsPlaceBelow n place

-- ---- bodies

-- locals of an end are below n, and its labels below m
abbrev pub IsEndBelow : ℕ → ℕ → End → Type 0
IsEndBelow n m end.Return = ⊤
IsEndBelow n m end.Unreachable = ⊤
IsEndBelow n m (end.Goto label) = label < m
IsEndBelow n m (end.Switch only arms otherwise) = IsOperandBelow n only × All (λ arm. arm.label < m) arms × otherwise < m
IsEndBelow n m (end.Call place callee operands label) = IsPlaceBelow n place × IsCalleeBelow n callee × AreOperandsBelow n operands × label < m
IsEndBelow n m (end.Drop place label) = IsPlaceBelow n place × label < m

pub record IsBlockBelow (n m : ℕ) (block : Block) : Type 0 where
  pub few : length block.statements < 2 ^ 32
  pub statements : All (IsStatementBelow n) block.statements
  pub end : IsEndBelow n m block.end

-- there is a local for the result and for each parameter, there is a block, and each local and label that stands in a block is
-- there. Locals, blocks and statements have numbers of 32 bits
pub record IsBody (code : Code) : Type 0 where
  pub locals : code.params + 1 ≤ length code.locals
  pub few_locals : length code.locals < 2 ^ 32
  pub some_block : 1 ≤ length code.blocks
  pub few_blocks : length code.blocks < 2 ^ 32
  pub blocks : All (IsBlockBelow (length code.locals) (length code.blocks)) code.blocks
