-- The rules that a tree has to keep. Of each there is the list of the lines where it fails, in order of the text. Of
-- forms that are not built they say nothing.
use Rattle.std.specs.Prelude.{◌≡◌, ℕ, ◌+◌, List, [], ◌∷◌, ◌++◌, length, sum, map, Option, Some, is_none, Bool, true, false, not, ◌&&◌, nat_eq, nat_lt}
use Rattle.std.specs.List.{flat_map, list_any, slice_get}
use Rattle.std.specs.Option.{option_map_or, option_and_then}
use Rattle.std.specs.Str.{bytes_eq}
use Rattle.mm_ast.specs.declared.items.Crate.{Crate}
use Rattle.mm_ast.specs.declared.items.Function.{Function}
use Rattle.mm_ast.specs.declared.items.Ast.{Ast}
use Rattle.mm_ast.specs.declared.items.DefinitionForm.{DefinitionForm}
use Rattle.mm_ast.specs.declared.items.DefinitionForm.TheVariants as definitions
use Rattle.mm_ast.specs.declared.items.ItemForm.{ItemForm}
use Rattle.mm_ast.specs.declared.items.ItemForm.TheVariants as forms
use Rattle.mm_ast.specs.declared.items.Item.{Item}
use Rattle.mm_ast.specs.declared.names.Name.{Name}
use Rattle.mm_ast.specs.declared.names.PathWithArgs.{PathWithArgs}
use Rattle.mm_ast.specs.declared.types.Type as written
use Rattle.mm_ast.specs.declared.types.Head.{Head}
use Rattle.mm_ast.specs.declared.types.Head.TheVariants as heads
use Rattle.mm_ast.specs.declared.bodies.Block.{Block}
use Rattle.mm_ast.specs.declared.bodies.Statement.{Statement}
use Rattle.mm_ast.specs.declared.bodies.Statement.TheVariants as statements
use Rattle.mm_ast.specs.declared.bodies.Rvalue.{Rvalue}
use Rattle.mm_ast.specs.declared.bodies.Rvalue.TheVariants as rvalues
use Rattle.mm_ast.specs.declared.bodies.Switch.{Switch}
use Rattle.mm_ast.specs.declared.bodies.Arm.{Arm}
use Rattle.mm_ast.specs.declared.bodies.Label.{Label}
use Rattle.mm_ast.specs.declared.bodies.End.{End}
use Rattle.mm_ast.specs.declared.bodies.End.TheVariants as ends
use Rattle.mm_ast.specs.declared.bodies.Call.{Call}
use Rattle.mm_ast.specs.declared.bodies.Called.{Called}
use Rattle.mm_ast.specs.declared.bodies.Called.TheVariants as calls
use Rattle.mm_ast.specs.declared.bodies.Callee.TheVariants as callees
use Rattle.mm_ast.specs.declared.bodies.Place.{Place}
use Rattle.mm_ast.specs.declared.bodies.Operand.{Operand}
use Rattle.mm_ast.specs.declared.bodies.Operand.TheVariants as operands
use Rattle.mm_load_plain.specs.declared.rule.Rule.{Rule}
use Rattle.mm_load_plain.specs.declared.rule.Rule.TheVariants.{UnknownName, DoubleName, WrongArity, BadMain, LongType}
use Rattle.mm_load_plain.specs.WrittenPlace.{local_of, place_line}
use Rattle.mm_load_plain.specs.Names.{Names, path_named, main_path, names_in}
use Rattle.mm_built.specs.Built.{IsBuilt}
use Rattle.mm_definitions.specs.Trees.{item_fold, type_fold, line_of}
use Rattle.mm_load_plain.specs.WrittenItem.{Defined, form_name, functions_of, paths_in, crate_of}

-- the line, where something fails
abbrev pub line_if : Bool → ℕ → List ℕ
line_if true line = line ∷ []
line_if false line = []

-- what a rule says of the call with which a block ends, if it does
abbrev pub of_call : (Call → List ℕ) → End → List ℕ
of_call says (ends.Call call) = says call
of_call says _ = []

-- what a rule says of the function that a call names, and of its type arguments
abbrev pub of_named : (PathWithArgs → List ℕ) → Called → List ℕ
of_named says (calls.Callee (callees.Direct named)) = says named
of_named says _ = []

-- ---- UnknownName

-- a name that is no type parameter
abbrev pub unknown_head : Names → ℕ → Head → List ℕ
unknown_head scope line (heads.Param name) = line_if (is_none (scope name)) line
unknown_head scope line _ = []

-- the head, and then the types below it
unfoldable pub unknown_in_type : Names → written.Type → List ℕ
unknown_in_type scope = type_fold (λ line head below. unknown_head scope line head ++ flat_map (λ lines. lines) below)

unfoldable pub unknown_in_types : Names → List written.Type → List ℕ
unknown_in_types scope types = flat_map (unknown_in_type scope) types

-- the locals are `_0`, the result, and one for each parameter and each `let`
abbrev pub unknown_place : Function → Place → List ℕ
unknown_place f place = line_if (nat_lt (length f.signature.params + length f.body.lets) (local_of place)) (place_line place)

-- the labels are those of the blocks
abbrev pub unknown_label : Function → Label → List ℕ
unknown_label f label = line_if (not (nat_lt label.number (length f.body.blocks))) label.line

unfoldable pub unknown_in_operand : Function → Operand → List ℕ
unknown_in_operand f (operands.Copy place) = unknown_place f place
unknown_in_operand f (operands.Move place) = unknown_place f place
unknown_in_operand f _ = []

unfoldable pub unknown_in_operands : Function → List Operand → List ℕ
unknown_in_operands f operands = flat_map (unknown_in_operand f) operands

unfoldable pub unknown_in_rvalue : Function → Rvalue → List ℕ
unknown_in_rvalue f (rvalues.Use operand) = unknown_in_operand f operand
unknown_in_rvalue f (rvalues.Not operand) = unknown_in_operand f operand
unknown_in_rvalue f (rvalues.Binary op left right) = unknown_in_operand f left ++ unknown_in_operand f right
unknown_in_rvalue f _ = []

-- where the value goes, and what it is made of
unfoldable pub unknown_in_statement : Function → Statement → List ℕ
unknown_in_statement f (statements.Set place rvalue) = unknown_place f place ++ unknown_in_rvalue f rvalue
unknown_in_statement f (statements.Print operand) = unknown_in_operand f operand

unfoldable pub unknown_in_statements : Function → List Statement → List ℕ
unknown_in_statements f statements = flat_map (unknown_in_statement f) statements

unfoldable pub unknown_in_arms : Function → List Arm → List ℕ
unknown_in_arms f arms = flat_map (λ arm. unknown_label f arm.label) arms

-- the operand, the labels of the arms, and that of the rest
unfoldable pub unknown_in_switch : Function → Switch → List ℕ
unknown_in_switch f switch = unknown_in_operand f switch.operand ++ unknown_in_arms f switch.arms ++ unknown_label f switch.otherwise

-- the path, and the type arguments
unfoldable pub unknown_named : Names → Names → PathWithArgs → List ℕ
unknown_named paths scope named = line_if (is_none (paths (path_named named.path))) named.path.line ++ unknown_in_types scope named.args

-- where the result goes, what is called, the operands and the label of a call in the function
unfoldable pub unknown_in_call : Names → Names → Function → Call → List ℕ
unknown_in_call paths scope f call =
    unknown_place f call.place
    ++ of_named (unknown_named paths scope) call.called
    ++ unknown_in_operands f call.operands
    ++ unknown_label f call.target

unfoldable pub unknown_in_end : Names → Names → Function → End → List ℕ
unknown_in_end paths scope f (ends.Goto label) = unknown_label f label
unknown_in_end paths scope f (ends.Switch switch) = unknown_in_switch f switch
unknown_in_end paths scope f (ends.Call call) = unknown_in_call paths scope f call
unknown_in_end paths scope f _ = []

-- the statements, and the end
unfoldable pub unknown_in_block : Names → Names → Function → Block → List ℕ
unknown_in_block paths scope f block = unknown_in_statements f block.statements ++ unknown_in_end paths scope f block.end

unfoldable pub unknown_in_blocks : Names → Names → Function → List Block → List ℕ
unknown_in_blocks paths scope f blocks = flat_map (unknown_in_block paths scope f) blocks

-- the parameter types, the result type, the types of the `let` locals, and the blocks
unfoldable pub unknown_in_scope : Names → Names → Function → List ℕ
unknown_in_scope paths scope f =
    unknown_in_types scope f.signature.params
    ++ option_map_or (unknown_in_type scope) f.signature.result []
    ++ unknown_in_types scope f.body.lets
    ++ unknown_in_blocks paths scope f f.body.blocks

abbrev pub unknown_in_function : Names → Function → List ℕ
unknown_in_function paths f = unknown_in_scope paths (names_in f) f

unfoldable pub unknown_in_functions : Names → List Defined → List ℕ
unknown_in_functions paths functions = flat_map (λ d. unknown_in_function paths d.function) functions

-- ---- DoubleName

-- what f gives of each thing and of those before it
abbrev pub along : {A B : Type 0} → (List A → A → List B) → List A → List A → List B
along f before [] = []
along f before (x ∷ xs) = f before x ++ along f (before ++ x ∷ []) xs

-- a name that is one of these already
abbrev pub again : List (List ℕ) → List ℕ → ℕ → List ℕ
again names name line = line_if (list_any (bytes_eq name) names) line

-- the names that stand before already
unfoldable pub repeated : List Name → List ℕ
repeated names = along (λ before name. again (map (λ n. n.text) before) name.text name.line) [] names

-- the type parameters of a function
abbrev pub repeated_by : DefinitionForm → List ℕ
repeated_by (definitions.Function f) = repeated f.type_params
repeated_by _ = []

unfoldable pub repeated_in : ItemForm → List ℕ
repeated_in (forms.Definition definition) = repeated_by definition.form
repeated_in _ = []

-- an item as its module has it: its name, and the names that stand before already inside it
pub record Member : Type 0 where
  pub name : Name
  pub inside : List ℕ

-- the items of one module: of each its name, where an earlier one has it, and what is inside it
unfoldable pub double_among : List Member → List ℕ
double_among members = along (λ before m. again (map (λ other. other.name.text) before) m.name.text m.name.line ++ m.inside) [] members

-- inside a function there are its type parameters, and inside a module its items
unfoldable pub member_of : Item → Member
member_of = item_fold (λ line form members. record { name = form_name form; inside = repeated_in form ++ double_among members })

abbrev pub double_in_items : List Item → List ℕ
double_in_items items = double_among (map member_of items)

-- ---- WrongArity

-- the function to which a path resolves
abbrev pub function_at : Names → List Defined → List ℕ → Option Defined
function_at paths functions path = option_and_then (slice_get functions) (paths path)

-- there is a type argument for each type parameter of the callee, and an operand for each parameter
abbrev pub fits : PathWithArgs → List Operand → Function → Bool
fits named operands callee = nat_eq (length named.args) (length callee.type_params) && nat_eq (length operands) (length callee.signature.params)

-- a call that does not fit the function to which its path resolves
unfoldable pub misfit_named : Names → List Defined → List Operand → PathWithArgs → List ℕ
misfit_named paths functions operands named =
    option_map_or (λ callee. line_if (not (fits named operands callee.function)) named.path.line) (function_at paths functions (path_named named.path)) []

unfoldable pub misfit_call : Names → List Defined → Call → List ℕ
misfit_call paths functions call = of_named (misfit_named paths functions call.operands) call.called

unfoldable pub misfit_block : Names → List Defined → Block → List ℕ
misfit_block paths functions block = of_call (misfit_call paths functions) block.end

unfoldable pub misfits_in_function : Names → List Defined → Function → List ℕ
misfits_in_function paths functions f = flat_map (misfit_block paths functions) f.body.blocks

unfoldable pub misfits_in_functions : Names → List Defined → List ℕ
misfits_in_functions paths functions = flat_map (λ d. misfits_in_function paths functions d.function) functions

-- ---- BadMain

-- it has neither type parameters nor parameters
abbrev pub is_bare : Function → Bool
is_bare f = nat_eq (length f.type_params) 0 && nat_eq (length f.signature.params) 0

-- The function main at the crate's top that is not so, or the word `crate` where there is none. No function of a module
-- has its path.
unfoldable pub bad_main : Names → List Defined → Crate → List ℕ
bad_main paths functions krate = option_map_or (λ main. line_if (not (is_bare main.function)) main.line) (function_at paths functions (main_path krate.name.text)) (krate.line ∷ [])

-- ---- LongType

-- the number of constructors, repeats counted
unfoldable pub type_length : written.Type → ℕ
type_length = type_fold (λ line head lengths. 1 + sum lengths)

unfoldable pub long_type : written.Type → List ℕ
long_type t = line_if (nat_lt 2048 (type_length t)) (line_of t)

unfoldable pub long_types : List written.Type → List ℕ
long_types types = flat_map long_type types

-- the type arguments of the function that it names
unfoldable pub long_in_call : Call → List ℕ
long_in_call call = of_named (λ named. long_types named.args) call.called

unfoldable pub long_in_block : Block → List ℕ
long_in_block block = of_call long_in_call block.end

unfoldable pub long_in_blocks : List Block → List ℕ
long_in_blocks blocks = flat_map long_in_block blocks

unfoldable pub long_in_function : Function → List ℕ
long_in_function f = long_types f.signature.params ++ option_map_or long_type f.signature.result [] ++ long_types f.body.lets ++ long_in_blocks f.body.blocks

unfoldable pub long_in_functions : List Defined → List ℕ
long_in_functions functions = flat_map (λ d. long_in_function d.function) functions

-- ---- the rules

-- the lines of a crate where a rule fails
unfoldable pub fails : Rule → Crate → List ℕ
fails UnknownName krate = unknown_in_functions (paths_in krate) (functions_of krate)
fails DoubleName krate = double_in_items krate.items
fails WrongArity krate = misfits_in_functions (paths_in krate) (functions_of krate)
fails BadMain krate = bad_main (paths_in krate) (functions_of krate) krate
fails LongType krate = long_in_functions (functions_of krate)

-- no rule fails
abbrev pub KeepsIn : Crate → Type 0
KeepsIn krate = (rule : Rule) → fails rule krate ≡ []

abbrev pub KeepsRules : Ast → Type 0
KeepsRules tree = KeepsIn (crate_of tree)

-- the rules that are asked before a rule
abbrev pub before : Rule → List Rule
before UnknownName = []
before DoubleName = UnknownName ∷ []
before WrongArity = UnknownName ∷ DoubleName ∷ []
before BadMain = UnknownName ∷ DoubleName ∷ WrongArity ∷ []
before LongType = UnknownName ∷ DoubleName ∷ WrongArity ∷ BadMain ∷ []

-- none of the rules fails
abbrev pub Kept : Crate → List Rule → Type 0
Kept krate [] = Unit {0}
Kept krate (rule ∷ rules) = (fails rule krate ≡ []) × Kept krate rules

-- the rules before it are kept, and this is the first line where it fails
pub record IsFirstIn (krate : Crate) (rule : Rule) (line : ℕ) : Type 0 where
  pub earlier : Kept krate (before rule)
  pub first : slice_get (fails rule krate) 0 ≡ Some line

-- all of the tree is built, and this is its first fault
pub record IsFirstFault (tree : Ast) (rule : Rule) (line : ℕ) : Type 0 where
  pub built : IsBuilt tree
  pub fault : IsFirstIn (crate_of tree) rule line
