-- The tokens that are written for bodies and what stands in them.
use Rattle.std.specs.Prelude.{ℕ, ◌+◌, List, [], ◌∷◌, ◌++◌, Bool, true, false, Option, None, Some, map, flat_map}
use Rattle.mm_names.specs.declared.word.Word as word_type
use Rattle.mm_names.specs.declared.word.Word.TheVariants as words
use Rattle.mm_lex.specs.declared.punct.Punct.TheVariants.{At, Dot, Star, Comma, Colon, Semicolon, Equals, Ampersand, Arrow, FatArrow, OpenBrace, CloseBrace}
use Rattle.mm_lex.specs.Lexemes.{LexemeKind, Word, Local, Label, Number, Punct}
use Rattle.mm_ast.specs.declared.names.Name as names
use Rattle.mm_ast.specs.declared.types.Type as types
use Rattle.mm_ast.specs.declared.bodies.Label as labels
use Rattle.mm_ast.specs.declared.bodies.Place.{Place}
use Rattle.mm_ast.specs.declared.bodies.Place.TheVariants as places
use Rattle.mm_ast.specs.declared.bodies.Projection.{Projection}
use Rattle.mm_ast.specs.declared.bodies.StaticPlace.{StaticPlace}
use Rattle.mm_ast.specs.declared.bodies.Step.{Step}
use Rattle.mm_ast.specs.declared.bodies.Step.TheVariants as steps
use Rattle.mm_ast.specs.declared.bodies.Operand.{Operand}
use Rattle.mm_ast.specs.declared.bodies.Operand.TheVariants as operands
use Rattle.mm_ast.specs.declared.bodies.Op.{Op}
use Rattle.mm_ast.specs.declared.bodies.Op.TheVariants as ops
use Rattle.mm_ast.specs.declared.bodies.New.{New}
use Rattle.mm_ast.specs.declared.bodies.DynTrait.{DynTrait}
use Rattle.mm_ast.specs.declared.bodies.Rvalue.{Rvalue}
use Rattle.mm_ast.specs.declared.bodies.Rvalue.TheVariants as rvalues
use Rattle.mm_ast.specs.declared.bodies.Statement.{Statement}
use Rattle.mm_ast.specs.declared.bodies.Statement.TheVariants as statements
use Rattle.mm_ast.specs.declared.bodies.Arm.{Arm}
use Rattle.mm_ast.specs.declared.bodies.Switch.{Switch}
use Rattle.mm_ast.specs.declared.bodies.Called.{Called}
use Rattle.mm_ast.specs.declared.bodies.Called.TheVariants as calleds
use Rattle.mm_ast.specs.declared.bodies.Call.{Call}
use Rattle.mm_ast.specs.declared.bodies.End.{End}
use Rattle.mm_ast.specs.declared.bodies.End.TheVariants as ends
use Rattle.mm_ast.specs.declared.bodies.Block.{Block}
use Rattle.mm_ast.specs.declared.bodies.Body.{Body}
use Rattle.mm_spell.specs.Listed.{listed, in_parens}
use Rattle.mm_spell.specs.TypeTokens.{name_tokens, path_tokens, type_tokens, path_args_tokens, callee_tokens}

-- ---- places and operands

abbrev pub step_tokens : Step → List LexemeKind
step_tokens (steps.Field n) = Punct Dot ∷ Number n ∷ []
step_tokens steps.Deref = Punct Dot ∷ Punct Star ∷ []
step_tokens (steps.Variant n) = Punct At ∷ name_tokens n

abbrev pub projection_tokens : Projection → List LexemeKind
projection_tokens p = Local p.local.number ∷ (step_tokens p.first ++ flat_map step_tokens p.others)

abbrev pub static_place_tokens : StaticPlace → List LexemeKind
static_place_tokens p = Word words.Static ∷ (path_tokens p.path ++ flat_map step_tokens p.steps)

abbrev pub place_tokens : Place → List LexemeKind
place_tokens (places.Local l) = Local l.number ∷ []
place_tokens (places.Projection p) = projection_tokens p
place_tokens (places.Static p) = static_place_tokens p

abbrev pub bool_word : Bool → word_type.Word
bool_word true = words.True
bool_word false = words.False

abbrev pub operand_tokens : Operand → List LexemeKind
operand_tokens (operands.Copy p) = Word words.Copy ∷ place_tokens p
operand_tokens (operands.Move p) = Word words.Move ∷ place_tokens p
operand_tokens (operands.Number n) = Number n ∷ []
operand_tokens (operands.Bool b) = Word (bool_word b) ∷ []
operand_tokens (operands.Const p) = Word words.Const ∷ path_args_tokens p
operand_tokens (operands.Fn c) = Word words.Fn ∷ callee_tokens c

abbrev pub operands_tokens : List Operand → List LexemeKind
operands_tokens os = in_parens (listed (map operand_tokens os))

-- ---- values and statements

abbrev pub op_word : Op → word_type.Word
op_word ops.Add = words.Add
op_word ops.Sub = words.Sub
op_word ops.Mul = words.Mul
op_word ops.Div = words.Div
op_word ops.Rem = words.Rem
op_word ops.Eq = words.Eq
op_word ops.Lt = words.Lt

-- the variant of an enum
abbrev pub variant_tokens : Option names.Name → List LexemeKind
variant_tokens None = []
variant_tokens (Some n) = Punct Dot ∷ name_tokens n

abbrev pub new_tokens : New → List LexemeKind
new_tokens n = Word words.New ∷ (path_args_tokens n.of ++ (variant_tokens n.variant ++ operands_tokens n.operands))

abbrev pub dyncast_tokens : Operand → types.«Type» → DynTrait → List LexemeKind
dyncast_tokens o t d = Word words.Dyncast ∷ in_parens (operand_tokens o ++ Punct Comma ∷ (type_tokens t ++ Punct Comma ∷ Word words.Dyn ∷ path_args_tokens d.of))

abbrev pub rvalue_tokens : Rvalue → List LexemeKind
rvalue_tokens (rvalues.Use o) = operand_tokens o
rvalue_tokens (rvalues.Ref p) = Punct Ampersand ∷ place_tokens p
rvalue_tokens (rvalues.Not o) = Word words.Not ∷ in_parens (operand_tokens o)
rvalue_tokens (rvalues.Binary op left right) = Word (op_word op) ∷ in_parens (operand_tokens left ++ Punct Comma ∷ operand_tokens right)
rvalue_tokens (rvalues.Variant p) = Word words.Variant ∷ in_parens (place_tokens p)
rvalue_tokens (rvalues.Boxed o) = Word words.Box ∷ in_parens (operand_tokens o)
rvalue_tokens (rvalues.Tuple os) = Word words.Tuple ∷ operands_tokens os
rvalue_tokens (rvalues.New n) = new_tokens n
rvalue_tokens (rvalues.Dyn o t d) = dyncast_tokens o t d

abbrev pub statement_tokens : Statement → List LexemeKind
statement_tokens (statements.Set p v) = place_tokens p ++ Punct Equals ∷ (rvalue_tokens v ++ Punct Semicolon ∷ [])
statement_tokens (statements.Print o) = Word words.Print ∷ (operand_tokens o ++ Punct Semicolon ∷ [])

-- ---- blocks and bodies

abbrev pub label_tokens : labels.Label → List LexemeKind
label_tokens l = Label l.number ∷ []

abbrev pub arm_tokens : Arm → List LexemeKind
arm_tokens a = Number a.number ∷ Punct FatArrow ∷ Label a.label.number ∷ Punct Comma ∷ []

abbrev pub switch_tokens : Switch → List LexemeKind
switch_tokens s = Word words.Switch ∷ (operand_tokens s.operand ++ Punct OpenBrace ∷ (flat_map arm_tokens s.arms ++ Word words.Else ∷ Punct FatArrow ∷ Label s.otherwise.number ∷ Punct CloseBrace ∷ []))

abbrev pub called_tokens : Called → List LexemeKind
called_tokens (calleds.Callee c) = callee_tokens c
called_tokens (calleds.Pointer o) = in_parens (operand_tokens o)

abbrev pub call_tokens : Call → List LexemeKind
call_tokens c = Word words.Call ∷ (place_tokens c.place ++ Punct Equals ∷ (called_tokens c.called ++ (operands_tokens c.operands ++ Punct Arrow ∷ label_tokens c.target)))

abbrev pub end_tokens : End → List LexemeKind
end_tokens ends.Return = Word words.Return ∷ []
end_tokens ends.Unreachable = Word words.Unreachable ∷ []
end_tokens (ends.Goto l) = Word words.Goto ∷ label_tokens l
end_tokens (ends.Switch s) = switch_tokens s
end_tokens (ends.Call c) = call_tokens c
end_tokens (ends.Drop p l) = Word words.Drop ∷ (place_tokens p ++ Punct Arrow ∷ label_tokens l)

-- a block with this number
abbrev pub block_tokens : ℕ → Block → List LexemeKind
block_tokens k b = Label k ∷ Punct Colon ∷ Punct OpenBrace ∷ (flat_map statement_tokens b.statements ++ (end_tokens b.end ++ Punct CloseBrace ∷ []))

-- blocks, the first of which has this number
abbrev pub blocks_tokens : ℕ → List Block → List LexemeKind
blocks_tokens k [] = []
blocks_tokens k (b ∷ bs) = block_tokens k b ++ blocks_tokens (k + 1) bs

-- the declaration of a local with this number
abbrev pub let_tokens : ℕ → types.«Type» → List LexemeKind
let_tokens k t = Word words.Let ∷ Local k ∷ Punct Colon ∷ (type_tokens t ++ Punct Semicolon ∷ [])

-- the declarations of locals, the first of which has this number
abbrev pub lets_tokens : ℕ → List types.«Type» → List LexemeKind
lets_tokens k [] = []
lets_tokens k (t ∷ ts) = let_tokens k t ++ lets_tokens (k + 1) ts

-- a body, whose first local that is declared has this number
abbrev pub body_tokens : ℕ → Body → List LexemeKind
body_tokens k b = Punct OpenBrace ∷ (lets_tokens k b.lets ++ (blocks_tokens 0 b.blocks ++ Punct CloseBrace ∷ []))
