-- Which definitions are named, and where.
use Rattle.std.specs.Prelude.{◌+◌, ◌||◌, Bool, List, [], ◌∷◌, ◌++◌, cond, drop, flat_map, nat_eq, nat_lt, Option}
use Rattle.std.specs.List.{list_any}
use Rattle.std.specs.Option.{option_map_or}
use Rattle.mm_terms.specs.declared.head.Head.{Head}
use Rattle.mm_terms.specs.declared.ids.DefId.{DefId}
use Rattle.mm_terms.specs.declared.tree.Tree.{Tree}
use Rattle.mm_terms.specs.declared.ty_head.TyHead.{TyHead}
use Rattle.mm_terms.specs.declared.ty_head.TyHead.TheVariants as head
use Rattle.mm_terms.specs.Tree.{tree_fold}
use Rattle.mm_program.specs.declared.block.Block.{Block}
use Rattle.mm_program.specs.declared.block.End.{End}
use Rattle.mm_program.specs.declared.block.End.TheVariants as end
use Rattle.mm_program.specs.declared.kind.DefKind.{DefKind}
use Rattle.mm_program.specs.declared.kind.DefKind.TheVariants as kind
use Rattle.mm_program.specs.declared.operand.Callee.{Callee}
use Rattle.mm_program.specs.declared.operand.Callee.TheFolds.{fold-Callee, fold-Operand}
use Rattle.mm_program.specs.declared.operand.Callee.TheOpen as layer
use Rattle.mm_program.specs.declared.operand.Operand.{Operand}
use Rattle.mm_program.specs.declared.parts.DefPart.{DefPart}
use Rattle.mm_program.specs.declared.parts.Parts.{Parts}
use Rattle.mm_program.specs.declared.place.Base.{Base}
use Rattle.mm_program.specs.declared.place.Base.TheVariants as base
use Rattle.mm_program.specs.declared.place.Place.{Place}
use Rattle.mm_program.specs.declared.statement.Rvalue.{Rvalue}
use Rattle.mm_program.specs.declared.statement.Rvalue.TheVariants as rvalue
use Rattle.mm_program.specs.declared.statement.Statement.{Statement}
use Rattle.mm_program.specs.declared.statement.Statement.TheVariants as statement
use Rattle.mm_program.specs.declared.term.Term.{Term}
use Rattle.mm_program.specs.declared.term.Term.TheFolds.{fold-Term}
use Rattle.mm_program.specs.declared.term.Term.TheOpen as term
use Rattle.mm_program.specs.Code.{Code}

-- some definitions, in order of place, repeats kept
abbrev pub Names : Type 0
Names = List DefId

-- several lists of names as one
abbrev pub all_names : List Names → Names
all_names = flat_map (λ names. names)

-- ---- types

abbrev pub named_by : TyHead → Names
named_by (head.FnItem d) = d ∷ []
named_by (head.Closure d) = d ∷ []
named_by (head.Dyn d) = d ∷ []
named_by (head.Adt d) = d ∷ []
named_by _ = []

unfoldable pub named_in_type : Tree → Names
named_in_type = tree_fold (λ head below. named_by head ++ all_names below)

abbrev pub named_in_types : List Tree → Names
named_in_types = flat_map named_in_type

-- a trait at its types
abbrev pub named_in_head : Head → Names
named_in_head head = head.tr ∷ named_in_types head.args

-- ---- places, callees and operands

abbrev pub named_in_base : Base → Names
named_in_base (base.Local i) = []
named_in_base (base.Static d) = d ∷ []

abbrev pub named_in_place : Place → Names
named_in_place place = named_in_base place.base

-- a callee, with what is named in the operand that it may be. A method stands by its trait and its place, and is not named
abbrev pub callee_names : layer.Callee-F Names Names → Names
callee_names (layer.Direct d args) = d ∷ named_in_types args
callee_names (layer.Method head m own) = named_in_head head ++ named_in_types own
callee_names (layer.Call t) = named_in_type t
callee_names (layer.Slot k) = []
callee_names (layer.Pointer names) = names

-- an operand, with what is named in the callee that it may be
abbrev pub operand_names : layer.Operand-F Names Names → Names
operand_names (layer.Copy place) = named_in_place place
operand_names (layer.Move place) = named_in_place place
operand_names (layer.Num k) = []
operand_names (layer.Truth b) = []
operand_names (layer.Const d args) = d ∷ named_in_types args
operand_names (layer.Fn names) = names

unfoldable pub named_in_callee : Callee → Names
named_in_callee = fold-Callee Names Names callee_names operand_names

unfoldable pub named_in_operand : Operand → Names
named_in_operand = fold-Operand Names Names callee_names operand_names

abbrev pub named_in_operands : List Operand → Names
named_in_operands = flat_map named_in_operand

-- ---- bodies

abbrev pub named_in_rvalue : Rvalue → Names
named_in_rvalue (rvalue.Use only) = named_in_operand only
named_in_rvalue (rvalue.Ref place) = named_in_place place
named_in_rvalue (rvalue.Not only) = named_in_operand only
named_in_rvalue (rvalue.Binary op left right) = named_in_operand left ++ named_in_operand right
named_in_rvalue (rvalue.Variant place) = named_in_place place
named_in_rvalue (rvalue.Boxed only) = named_in_operand only
named_in_rvalue (rvalue.Tuple parts) = named_in_operands parts
named_in_rvalue (rvalue.New d args variant parts) = d ∷ named_in_types args ++ named_in_operands parts
named_in_rvalue (rvalue.Dyn only behind to) = named_in_operand only ++ named_in_type behind ++ named_in_type to

abbrev pub named_in_statement : Statement → Names
named_in_statement (statement.Set place made) = named_in_place place ++ named_in_rvalue made
named_in_statement (statement.Print only) = named_in_operand only
named_in_statement (statement.Free place) = named_in_place place

abbrev pub named_in_end : End → Names
named_in_end end.Return = []
named_in_end end.Unreachable = []
named_in_end (end.Goto label) = []
named_in_end (end.Switch only arms otherwise) = named_in_operand only
named_in_end (end.Call place callee operands label) = named_in_place place ++ named_in_callee callee ++ named_in_operands operands
named_in_end (end.Drop place label) = named_in_place place

abbrev pub named_in_block : Block → Names
named_in_block block = flat_map named_in_statement block.statements ++ named_in_end block.end

-- the types of the locals after the parameters, and the blocks. The types of the result and of the parameters are those of the
-- signature
abbrev pub named_in_body : Code → Names
named_in_body code = named_in_types (drop (code.params + 1) code.locals) ++ flat_map named_in_block code.blocks

-- ---- terms

-- a term, with what is named in the terms within it
abbrev pub term_names : term.Term-F Names → Names
term_names (term.Num k) = []
term_names (term.Truth b) = []
term_names (term.Tuple parts) = all_names parts
term_names (term.New d args variant parts) = d ∷ named_in_types args ++ all_names parts
term_names (term.Fn callee) = named_in_callee callee
term_names (term.At d) = d ∷ []

unfoldable pub named_in_term : Term → Names
named_in_term = fold-Term Names term_names

-- ---- definitions

-- what a thing names, if it is there
abbrev pub names_if : {A : Type 0} → (A → Names) → Option A → Names
names_if names o = option_map_or names o []

-- The parameters that a text writes. A closure's first parameter, the reference to its own type, is not written
abbrev pub written_params : DefKind → List Tree → List Tree
written_params kind.Closure params = drop 1 params
written_params _ params = params

-- the types of a definition and its bounds
abbrev pub named_in_signature : DefPart → Names
named_in_signature part =
    flat_map named_in_types part.fields
    ++ names_if named_in_head part.head
    ++ names_if named_in_type part.drop_self
    ++ named_in_types (written_params part.kind part.params)
    ++ names_if named_in_type part.result
    ++ flat_map named_in_head part.bounds

-- whether other crates may make the body: it is generic or inline
abbrev pub is_made_elsewhere : DefPart → Bool
is_made_elsewhere part = nat_lt 0 part.type_params || part.is_inline

-- what a definition names outside the body of a function that is neither generic nor inline
abbrev pub named_outside_in : DefPart → Names
named_outside_in part =
    named_in_signature part
    ++ names_if named_in_term part.term
    ++ cond (is_made_elsewhere part) (names_if named_in_body part.body) []

-- it is named anywhere outside the body of a function that is neither generic nor inline
abbrev pub is_named_outside : Parts → DefId → Bool
is_named_outside p d = list_any (λ e. nat_eq e.0 d.0) (flat_map named_outside_in p.defs)
