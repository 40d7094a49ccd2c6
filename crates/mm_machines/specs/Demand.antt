-- The demand machine: what a program does. A function is an item, an instance of a function of the program at types, and
-- each call instantiates its callee there and then. It knows nothing of sets of items, of units and of symbols.
use Rattle.std.specs.Prelude.{ℕ, List, [], map, length, Option, None, Some, slice_get}
use Rattle.mm_terms.specs.declared.item.Item.{Item}
use Rattle.mm_terms.specs.declared.tree.Tree.{Tree}
use Rattle.mm_plain.specs.declared.program.Block.{Block}
use Rattle.mm_plain.specs.declared.program.Call.{Call}
use Rattle.mm_plain.specs.declared.program.End.{End}
use Rattle.mm_plain.specs.declared.program.End.TheVariants as end
use Rattle.mm_plain.specs.declared.program.Function.{Function}
use Rattle.mm_plain.specs.declared.program.Operand.{Operand}
use Rattle.mm_plain.specs.declared.program.Operand.TheVariants as operand
use Rattle.mm_plain.specs.declared.program.Place.{Place}
use Rattle.mm_plain.specs.declared.program.Program.{Program}
use Rattle.mm_plain.specs.declared.program.Rvalue.{Rvalue}
use Rattle.mm_plain.specs.declared.program.Rvalue.TheVariants as rvalue
use Rattle.mm_plain.specs.declared.program.Statement.{Statement}
use Rattle.mm_plain.specs.declared.program.Statement.TheVariants as statement
use Rattle.mm_plain.specs.Roots.{main_item}
use Rattle.mm_plain.specs.Uses.{called, function_of, type_args}
use Rattle.mm_machines.specs.declared.trap.Obs.{Obs}
use Rattle.mm_machines.specs.Forms.{Shape, Find, Eval, Act, local, number, boolean, copy, move, negation, binary, set, print, goto, unreachable, switch, call, return}
use Rattle.mm_machines.specs.Runs.{Code, placed_at, or_nowhere, observed}

-- a table of methods: a type, and the type of trait objects as which it is seen
abbrev pub Table : Type 0
Table = Tree × Tree

-- ---- items

-- the body of a function. One that is not there has no block
abbrev pub body_of : Option Function → List Block
body_of None = []
body_of (Some f) = f.blocks

-- its parameters and locals. One that is not there has the local of the result alone
abbrev pub shape_of : Option Function → Shape
shape_of None = record { params = 0; locals = 1 }
shape_of (Some f) = record { params = f.params; locals = length f.locals }

-- ---- what each form of a body does in an item

abbrev pub demand_place : Item → Place → Find Item Table
demand_place x place = local Item Table place.local

abbrev pub demand_operand : Item → Operand → Eval Item Table
demand_operand x (operand.Copy place) = copy Item Table (demand_place x place)
demand_operand x (operand.Move place) = move Item Table (demand_place x place)
demand_operand x (operand.Num n) = number Item Table n
demand_operand x (operand.Truth b) = boolean Item Table b

abbrev pub demand_rvalue : Item → Rvalue → Eval Item Table
demand_rvalue x (rvalue.Use o) = demand_operand x o
demand_rvalue x (rvalue.Not o) = negation Item Table (demand_operand x o)
demand_rvalue x (rvalue.Binary op a b) = binary Item Table op (demand_operand x a) (demand_operand x b)

abbrev pub demand_statement : Item → Statement → Act Item Table
demand_statement x (statement.Set place r) = set Item Table (demand_place x place) (demand_rvalue x r)
demand_statement x (statement.Print o) = print Item Table (demand_operand x o)

abbrev pub demand_call : Program → Item → Call → Act Item Table
demand_call p x c =
    call Item Table (called (type_args x) c) (shape_of (function_of p (called (type_args x) c))) (map (demand_operand x) c.operands) (demand_place x c.place) c.target

abbrev pub demand_end : Program → Item → End → Act Item Table
demand_end p x end.Return = return Item Table
demand_end p x end.Unreachable = unreachable Item Table
demand_end p x (end.Goto label) = goto Item Table label
demand_end p x (end.Switch o arms other) = switch Item Table (demand_operand x o) arms other
demand_end p x (end.Call c) = demand_call p x c

abbrev pub demand_block : Program → Item → ℕ → Block → Act Item Table
demand_block p x index b = placed_at Item Table (demand_statement x) (demand_end p x b.end) (slice_get b.statements index)

-- the machine: what stands at each place of each item's body
abbrev pub demand : Program → Code Item Table
demand p x block index = or_nowhere Item Table (demand_block p x index) (slice_get (body_of (function_of p x)) block)

-- what is seen of the program after n steps
abbrev pub observed_demand : Program → ℕ → Obs
observed_demand p n = observed Item Table (demand p) (main_item p) (shape_of (function_of p (main_item p))) n
