-- What a program is compiled to: each item becomes a definition, with its types put in and each callee by its symbol.
use Rattle.std.specs.Prelude.{◌≡◌, ℕ, List, [], ◌∷◌, ◌++◌, length, map, slice_get, codes, Option, None, Some, ⊤, Contains}
use Rattle.std.specs.List.Sorted.{IsPermutation, IsSortedByKey}
use Rattle.std.specs.Cmp.Lexicographic.{slice_cmp}
use Rattle.std.specs.Ordering.{nat_cmp}
use Rattle.mm_terms.specs.declared.tree.Tree.{Tree}
use Rattle.mm_terms.specs.declared.item.Item.{Item}
use Rattle.mm_terms.specs.declared.item.Item.TheVariants.{Fn, Glue, Shim, Static}
use Rattle.mm_plain.specs.declared.program.Program.{Program}
use Rattle.mm_plain.specs.declared.program.Function.{Function}
use Rattle.mm_plain.specs.declared.program.Block.{Block}
use Rattle.mm_plain.specs.declared.program.Place.{Place}
use Rattle.mm_plain.specs.declared.program.Statement.{Statement}
use Rattle.mm_plain.specs.declared.program.Statement.TheVariants.{Set, Print}
use Rattle.mm_plain.specs.declared.program.Rvalue.{Rvalue}
use Rattle.mm_plain.specs.declared.program.Rvalue.TheVariants.{Use, Not, Binary}
use Rattle.mm_plain.specs.declared.program.Operand.{Operand}
use Rattle.mm_plain.specs.declared.program.Operand.TheVariants.{Copy, Move, Num, Truth}
use Rattle.mm_plain.specs.declared.program.End.{End}
use Rattle.mm_plain.specs.declared.program.End.TheVariants.{Return, Unreachable, Goto, Switch, Call}
use Rattle.mm_plain.specs.Roots.{main_item}
use Rattle.mm_plain.specs.Uses.{called, candidates_of}
use Rattle.mm_symbols.specs.ItemForms.{form_of}
use Rattle.mm_symbols.specs.SymbolText.{symbol_text}
use Rattle.mm_objects.specs.declared.objects.Objects.{Objects}
use Rattle.mm_objects.specs.declared.objects.ObjUnit.{ObjUnit}
use Rattle.mm_objects.specs.declared.objects.ObjDef.{ObjDef}
use Rattle.mm_objects.specs.declared.objects.ObjDef.TheVariants.{Code}
use Rattle.mm_objects.specs.declared.objects.ObjBlock.{ObjBlock}
use Rattle.mm_objects.specs.declared.objects.ObjPlace.{ObjPlace}
use Rattle.mm_objects.specs.declared.objects.ObjBase.TheVariants.{Local}
use Rattle.mm_objects.specs.declared.objects.ObjInstr.{ObjInstr}
use Rattle.mm_objects.specs.declared.objects.ObjInstr.TheVariants as instr
use Rattle.mm_objects.specs.declared.objects.ObjRvalue.{ObjRvalue}
use Rattle.mm_objects.specs.declared.objects.ObjRvalue.TheVariants as rvalue
use Rattle.mm_objects.specs.declared.objects.ObjOperand.{ObjOperand}
use Rattle.mm_objects.specs.declared.objects.ObjOperand.TheVariants as operand
use Rattle.mm_objects.specs.declared.objects.ObjCallee.TheVariants as callee
use Rattle.mm_objects.specs.declared.objects.ObjEnd.{ObjEnd}
use Rattle.mm_objects.specs.declared.objects.ObjEnd.TheVariants as end
use Rattle.mm_objects.specs.declared.objects.Linkage.{Linkage}
use Rattle.mm_objects.specs.declared.objects.Linkage.TheVariants.{External}
use Rattle.mm_objects.specs.Resolution.{Placed, placed, resolve, symbol_of}

-- the symbol of an item
abbrev pub item_symbol : Program → Item → List ℕ
item_symbol p x = symbol_text (form_of p x)

-- ---- what stays as it is

abbrev pub place_of : Place → ObjPlace
place_of place = record { base = Local place.local }

abbrev pub operand_of : Operand → ObjOperand
operand_of (Copy place) = operand.Copy (place_of place)
operand_of (Move place) = operand.Move (place_of place)
operand_of (Num n) = operand.Num n
operand_of (Truth b) = operand.Truth b

abbrev pub rvalue_of : Rvalue → ObjRvalue
rvalue_of (Use o) = rvalue.Use (operand_of o)
rvalue_of (Not o) = rvalue.Not (operand_of o)
rvalue_of (Binary op left right) = rvalue.Binary op (operand_of left) (operand_of right)

abbrev pub instr_of : Statement → ObjInstr
instr_of (Set place made) = instr.Set (place_of place) (rvalue_of made)
instr_of (Print o) = instr.Print (operand_of o)

-- ---- definitions

-- the end of a block in the instance at args: a call is of what it resolves to there, by its symbol
abbrev pub end_of : Program → List Tree → End → ObjEnd
end_of p args Return = end.Return
end_of p args Unreachable = end.Unreachable
end_of p args (Goto label) = end.Goto label
end_of p args (Switch o arms other) = end.Switch (operand_of o) arms other
end_of p args (Call call) = end.Call (place_of call.place) (callee.Fn (item_symbol p (called args call))) (map operand_of call.operands) call.target

abbrev pub block_of : Program → List Tree → Block → ObjBlock
block_of p args block = record { instrs = map instr_of block.statements; end = end_of p args block.end }

-- the instance at args of a function, by its symbol. A function that is not there has no block
abbrev pub code_of : Program → List ℕ → Linkage → List Tree → Option Function → ObjDef
code_of p symbol link args None = Code symbol link 0 1 []
code_of p symbol link args (Some f) = Code symbol link f.params (length f.locals) (map (block_of p args) f.blocks)

-- what an item is compiled to. Only an instance of a function has a body
abbrev pub def_of : Program → Linkage → Item → ObjDef
def_of p link (Fn d args) = code_of p (item_symbol p (Fn d args)) link args (slice_get p.functions d.0)
def_of p link (Glue t) = code_of p (item_symbol p (Glue t)) link [] None
def_of p link (Shim t) = code_of p (item_symbol p (Shim t)) link [] None
def_of p link (Static d) = code_of p (item_symbol p (Static d)) link [] None

-- ---- objects

-- the items of a unit, each with its linkage
pub record Share : Type 0 where
  pub name : List ℕ
  pub items : List (Item × Linkage)

-- a unit has a definition of each of its items, in the order of the bytes of their symbols
pub record IsUnitOf (p : Program) (share : Share) (unit : ObjUnit) : Type 0 where
  pub name : unit.name ≡ share.name
  pub of_items : IsPermutation (map (λ one. def_of p one.1 one.0) share.items) unit.defs
  pub sorted : IsSortedByKey symbol_of (slice_cmp nat_cmp) unit.defs

-- units of shares, one for each in order
abbrev pub AreUnitsOf : Program → List Share → List ObjUnit → Type 0
AreUnitsOf p [] [] = ⊤
AreUnitsOf p (share ∷ shares) (unit ∷ units) = IsUnitOf p share unit × AreUnitsOf p shares units
AreUnitsOf p _ _ = ⊥

-- the objects of a program whose items are shared out so
pub record AreObjectsOf (p : Program) (shares : List Share) (objects : Objects) : Type 0 where
  pub main : objects.main ≡ item_symbol p (main_item p)
  pub units : AreUnitsOf p shares objects.units

-- all items in one unit, `<crate>/<crate>.stable`, where every definition is External
abbrev pub whole_crate : Program → List Item → Share
whole_crate p items = record { name = p.krate ++ codes "/" ++ p.krate ++ codes ".stable"; items = map (λ x. (x, External)) items }

-- ---- references

-- the definition is of the item x, which is one of those that are compiled
pub record IsOf (p : Program) (items : List Item) (x : Item) (def : ObjDef) : Type 0 where
  pub compiled : Contains items x
  pub link : Linkage
  pub is : def ≡ def_of p link x

-- the symbol of x, in the unit with this number, names a definition of x
pub record Resolves (p : Program) (items : List Item) (units : List ObjUnit) (unit : ℕ) (x : Item) : Type 0 where
  pub found : Placed
  pub there : resolve units unit (item_symbol p x) ≡ Some found
  pub of_item : IsOf p items x found.def

-- no two of the items have one symbol
abbrev pub HaveOwnSymbols : Program → List Item → Type 0
HaveOwnSymbols p items = (x y : Item) → Contains items x → Contains items y → item_symbol p x ≡ item_symbol p y → x ≡ y

-- what these items use is among them
abbrev pub UseThemselves : Program → List Item → Type 0
UseThemselves p items = (x y : Item) → Contains items x → Contains (candidates_of p x) y → Contains items y

-- each reference, in each definition that is of some item, names a definition of the item that is used there
abbrev pub AllResolve : Program → List Item → List ObjUnit → Type 0
AllResolve p items units = (one : Placed) (x y : Item) → Contains (placed units) one → IsOf p items x one.def → Contains (candidates_of p x) y → Resolves p items units one.unit y
