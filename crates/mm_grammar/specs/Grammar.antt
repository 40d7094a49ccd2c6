-- The grammar of the text language. Over each part stands its rule. Braces repeat, square brackets make optional, quoted words
-- are tokens. A list has the rule of what stands behind its first part as a rule of its own.
use Rattle.std.specs.Prelude.{ℕ, List, [], ◌∷◌, ◌++◌, true, false, Option, Some, None}
use Rattle.mm_names.specs.declared.word.Word.TheVariants as words
use Rattle.mm_lex.specs.declared.punct.Punct.TheVariants as puncts
use Rattle.mm_ast.specs.declared.names.Name.{Name}
use Rattle.mm_ast.specs.declared.names.Path.{Path}
use Rattle.mm_ast.specs.declared.names.PathWithArgs.{PathWithArgs}
use Rattle.mm_ast.specs.declared.types.Type as types
use Rattle.mm_ast.specs.declared.types.Type.TheViews.{roll-Type}
use Rattle.mm_ast.specs.declared.types.Head.{Head}
use Rattle.mm_ast.specs.declared.types.Head.TheVariants as heads
use Rattle.mm_ast.specs.declared.bodies.Label.{Label}
use Rattle.mm_ast.specs.declared.bodies.Place.{Place}
use Rattle.mm_ast.specs.declared.bodies.Step.{Step}
use Rattle.mm_ast.specs.declared.bodies.Step.TheVariants as steps_
use Rattle.mm_ast.specs.declared.bodies.Callee.{Callee}
use Rattle.mm_ast.specs.declared.bodies.Callee.TheVariants as callees
use Rattle.mm_ast.specs.declared.bodies.Operand.{Operand}
use Rattle.mm_ast.specs.declared.bodies.Operand.TheVariants as operands_
use Rattle.mm_ast.specs.declared.bodies.Op.{Op}
use Rattle.mm_ast.specs.declared.bodies.Op.TheVariants as ops
use Rattle.mm_ast.specs.declared.bodies.New.{New}
use Rattle.mm_ast.specs.declared.bodies.DynTrait.{DynTrait}
use Rattle.mm_ast.specs.declared.bodies.Rvalue.{Rvalue}
use Rattle.mm_ast.specs.declared.bodies.Rvalue.TheVariants as rvalues
use Rattle.mm_ast.specs.declared.bodies.Statement.{Statement}
use Rattle.mm_ast.specs.declared.bodies.Statement.TheVariants as statements_
use Rattle.mm_ast.specs.declared.bodies.Arm.{Arm}
use Rattle.mm_ast.specs.declared.bodies.Switch.{Switch}
use Rattle.mm_ast.specs.declared.bodies.Called.{Called}
use Rattle.mm_ast.specs.declared.bodies.Called.TheVariants as calleds
use Rattle.mm_ast.specs.declared.bodies.Call.{Call}
use Rattle.mm_ast.specs.declared.bodies.End.{End}
use Rattle.mm_ast.specs.declared.bodies.End.TheVariants as ends_
use Rattle.mm_ast.specs.declared.bodies.Block.{Block}
use Rattle.mm_ast.specs.declared.bodies.Body.{Body}
use Rattle.mm_grammar.specs.declared.heads.Base.{Base}
use Rattle.mm_grammar.specs.declared.heads.Base.TheVariants as bases
use Rattle.mm_grammar.specs.declared.heads.CalledMethod.{CalledMethod}
use Rattle.mm_grammar.specs.declared.heads.CalledMethod.TheVariants as methods
use Rattle.mm_grammar.specs.declared.heads.TraitMethod.{TraitMethod}
use Rattle.mm_forms.specs.Forms.{Nothing, Numbered, Then, Many, ManyBelow, Map, At, Inner}
use Rattle.mm_grammar.specs.Places.{place_at}
use Rattle.mm_grammar.specs.Rules.{Types, Rule, line_of, word, punct, ends, ◌⋅◌, ◌or◌, bare, optional, list, closed, in_angles, in_parens, text, local, label_number, number}

-- names and paths

unfoldable pub name : Rule Name
name = Map (λ p. record { line = p.0; text = p.1 }) (At line_of text)

unfoldable pub next_name : Rule Name
next_name = punct puncts.Comma name

unfoldable pub more_names : Rule (List Name)
more_names = Many next_name

-- params = [ "<" name { "," name } ">" ] .
unfoldable pub params : Rule (List Name)
params = in_angles (list name more_names)

abbrev pub ty : Rule types.«Type»
ty = Inner Types

unfoldable pub next_type : Rule types.«Type»
next_type = punct puncts.Comma ty

unfoldable pub more_types : Rule (List types.«Type»)
more_types = Many next_type

-- ty { "," ty }
unfoldable pub some_types : Rule (List types.«Type»)
some_types = list ty more_types

-- args = [ "<" ty { "," ty } ">" ] .
unfoldable pub args : Rule (List types.«Type»)
args = in_angles some_types

unfoldable pub segment : Rule (List ℕ)
segment = punct puncts.PathSep text

unfoldable pub more_segments : Rule (List (List ℕ))
more_segments = Many segment

-- "::" name { "::" name }
unfoldable pub segments : Rule (List (List ℕ))
segments = list segment more_segments

-- path = name "::" name { "::" name } .
unfoldable pub path : Rule Path
path = Map (λ p. record { line = p.0; krate = p.1.0; names = p.1.1 }) (At line_of (text ⋅ segments))

-- path args
unfoldable pub path_args : Rule PathWithArgs
path_args = Map (λ p. record { path = p.0; args = p.1 }) (path ⋅ args)

-- types

-- the head of a type and its children
abbrev pub Shape : Type 0
Shape = Head × List types.«Type»

-- tys = [ ty { "," ty } ] . Here with the ")" behind it.
unfoldable pub tys : Rule (List types.«Type»)
tys = closed puncts.Close some_types

-- ty "," ty { "," ty }
unfoldable pub fields : Rule (List types.«Type»)
fields = list ty (punct puncts.Comma some_types)

unfoldable pub tuple : Rule Shape
tuple = Map (λ ts. (heads.Tuple, ts)) (punct puncts.Open (closed puncts.Close fields))

unfoldable pub reference : Rule Shape
reference = Map (λ t. (heads.Ref, t ∷ [])) (punct puncts.Ampersand ty)

unfoldable pub boxed : Rule Shape
boxed = Map (λ t. (heads.Boxed, t ∷ [])) (word words.BoxType (punct puncts.Less (ends puncts.Greater ty)))

unfoldable pub fn_pointer : Rule Shape
fn_pointer = Map (λ p. (heads.FnPtr, p.0 ++ p.1 ∷ [])) (word words.FnPtr (punct puncts.Open (tys ⋅ punct puncts.Arrow ty)))

-- a head that a path gives, over the path's arguments
abbrev pub shape_of : (Path → Head) → PathWithArgs → Shape
shape_of head p = (head p.path, p.args)

-- what follows the first name of a path that is a type
unfoldable pub behind_krate : Rule (List (List ℕ) × List types.«Type»)
behind_krate = segments ⋅ args

-- one name alone is a parameter
abbrev pub named_shape : ℕ → List ℕ → Option (List (List ℕ) × List types.«Type») → Shape
named_shape line krate None = (heads.Param krate, [])
named_shape line krate (Some p) = (heads.Adt (record { line = line; krate = krate; names = p.0 }), p.1)

-- name | path args
unfoldable pub named : Rule Shape
named = Map (λ p. named_shape p.0 p.1.0 p.1.1) (At line_of (text ⋅ optional behind_krate))

-- "fnitem" path args | "closure" path args | "dyn" path args | name | path args
unfoldable pub path_shape : Rule Shape
path_shape =
    Map (shape_of heads.FnItem) (word words.FnItem path_args)
    or Map (shape_of heads.Closure) (word words.Closure path_args)
    or Map (shape_of heads.Dyn) (word words.Dyn path_args)
    or named

-- ty = name | path args | "Self" | "u64" | "bool" | "(" [ ty "," ty { "," ty } ] ")" | "&" ty | "Box" "<" ty ">"
--    | "fnptr" "(" tys ")" "->" ty | "fnitem" path args | "closure" path args | "dyn" path args .
unfoldable pub shape : Rule Shape
shape =
    bare words.SelfType (heads.SelfType, [])
    or bare words.U64 (heads.U64, [])
    or bare words.Bool (heads.Bool, [])
    or tuple
    or reference
    or boxed
    or fn_pointer
    or path_shape

unfoldable pub type_node : Rule types.«Type»
type_node = Map (λ p. roll-Type (record { line = p.0; head = p.1.0; children = p.1.1 })) (At line_of shape)

-- bodies

unfoldable pub label : Rule Label
label = Map (λ p. record { line = p.0; number = p.1 }) (At line_of label_number)

-- "." number | "." "*" | "@" name
unfoldable pub step : Rule Step
step = punct puncts.Dot (Map steps_.Field number or punct puncts.Star (Nothing steps_.Deref)) or Map steps_.Variant (punct puncts.At name)

unfoldable pub steps : Rule (List Step)
steps = Many step

-- local | "static" path
unfoldable pub base : Rule Base
base = Map bases.Local local or Map bases.Static (word words.Static path)

-- place = ( local | "static" path ) { "." number | "." "*" | "@" name } .
unfoldable pub place : Rule Place
place = Map (λ p. place_at p.0 p.1.0 p.1.1) (At line_of (base ⋅ steps))

-- "Call" ">" "::" "call"
unfoldable pub call_method : Rule CalledMethod
call_method = Map (λ p. methods.Call p.0) (At line_of (word words.CallTrait (punct puncts.Greater (punct puncts.PathSep (bare words.Call (tt {0}))))))

-- path args ">" "::" name args
unfoldable pub trait_method : Rule TraitMethod
trait_method = Map (λ p. record { of = p.0; name = p.1.0; args = p.1.1 }) (path_args ⋅ punct puncts.Greater (punct puncts.PathSep (name ⋅ args)))

abbrev pub method_of : types.«Type» → CalledMethod → Callee
method_of self (methods.Call line) = callees.Call (record { self_type = self; line = line })
method_of self (methods.Trait m) = callees.Method (record { self_type = self; of = m.of; name = m.name; args = m.args })

-- path args ">" "::" name args | "Call" ">" "::" "call"
unfoldable pub called_method : Rule CalledMethod
called_method = call_method or Map methods.Trait trait_method

-- "<" ty "as" ( path args ">" "::" name args | "Call" ">" "::" "call" )
unfoldable pub method_callee : Rule Callee
method_callee = Map (λ p. method_of p.0 p.1) (punct puncts.Less (ty ⋅ word words.As called_method))

-- callee = path args | "<" ty "as" path args ">" "::" name args | "<" ty "as" "Call" ">" "::" "call" .
unfoldable pub callee : Rule Callee
callee = method_callee or Map callees.Direct path_args

-- "const" path args | "fn" callee
unfoldable pub named_operand : Rule Operand
named_operand = Map operands_.Const (word words.Const path_args) or Map operands_.Fn (word words.Fn callee)

-- operand = "copy" place | "move" place | number | "true" | "false" | "const" path args | "fn" callee .
unfoldable pub operand : Rule Operand
operand =
    Map operands_.Copy (word words.Copy place)
    or Map operands_.Move (word words.Move place)
    or Map operands_.Number number
    or bare words.True (operands_.Bool true)
    or bare words.False (operands_.Bool false)
    or named_operand

unfoldable pub next_operand : Rule Operand
next_operand = punct puncts.Comma operand

unfoldable pub more_operands : Rule (List Operand)
more_operands = Many next_operand

-- ops = [ operand { "," operand } ] . Here in its parentheses.
unfoldable pub operands : Rule (List Operand)
operands = punct puncts.Open (closed puncts.Close (list operand more_operands))

-- "add" | "sub" | "mul" | "div" | "rem" | "eq" | "lt"
unfoldable pub op : Rule Op
op =
    bare words.Add ops.Add
    or bare words.Sub ops.Sub
    or bare words.Mul ops.Mul
    or bare words.Div ops.Div
    or bare words.Rem ops.Rem
    or bare words.Eq ops.Eq
    or bare words.Lt ops.Lt

-- operand "," operand
unfoldable pub two_operands : Rule (Operand × Operand)
two_operands = operand ⋅ next_operand

-- op "(" operand "," operand ")"
unfoldable pub binary : Rule Rvalue
binary = Map (λ p. rvalues.Binary p.0 p.1.0 p.1.1) (op ⋅ in_parens two_operands)

-- [ "." name ]
unfoldable pub variant_name : Rule (Option Name)
variant_name = optional (punct puncts.Dot name)

-- "new" path args [ "." name ]
unfoldable pub new_head : Rule (PathWithArgs × Option Name)
new_head = word words.New (path_args ⋅ variant_name)

unfoldable pub new : Rule New
new = Map (λ p. record { of = p.0.0; variant = p.0.1; operands = p.1 }) (new_head ⋅ operands)

-- "dyn" path args
unfoldable pub dyn_trait : Rule DynTrait
dyn_trait = Map (λ p. record { line = p.0; of = p.1 }) (At line_of (word words.Dyn path_args))

-- ty "," "dyn" path args
unfoldable pub dyn_target : Rule (types.«Type» × DynTrait)
dyn_target = ty ⋅ punct puncts.Comma dyn_trait

-- "dyncast" "(" operand "," ty "," "dyn" path args ")"
unfoldable pub dyncast : Rule Rvalue
dyncast = Map (λ p. rvalues.Dyn p.0 p.1.0 p.1.1) (word words.Dyncast (in_parens (operand ⋅ punct puncts.Comma dyn_target)))

-- "box" "(" operand ")" | "tuple" "(" ops ")" | "new" path args [ "." name ] "(" ops ")"
--    | "dyncast" "(" operand "," ty "," "dyn" path args ")" | operand
unfoldable pub built_rvalue : Rule Rvalue
built_rvalue =
    Map rvalues.Boxed (word words.Box (in_parens operand))
    or Map rvalues.Tuple (word words.Tuple operands)
    or Map rvalues.New new
    or dyncast
    or Map rvalues.Use operand

-- rvalue = operand | "&" place | "not" "(" operand ")" | op "(" operand "," operand ")" | "variant" "(" place ")"
--        | "box" "(" operand ")" | "tuple" "(" ops ")" | "new" path args [ "." name ] "(" ops ")"
--        | "dyncast" "(" operand "," ty "," "dyn" path args ")" .
unfoldable pub rvalue : Rule Rvalue
rvalue =
    Map rvalues.Ref (punct puncts.Ampersand place)
    or Map rvalues.Not (word words.Not (in_parens operand))
    or binary
    or Map rvalues.Variant (word words.Variant (in_parens place))
    or built_rvalue

-- place "=" rvalue
unfoldable pub set : Rule Statement
set = Map (λ p. statements_.Set p.0 p.1) (place ⋅ punct puncts.Equals rvalue)

-- stmt = place "=" rvalue | "print" operand . Here with the ";" behind it.
unfoldable pub statement : Rule Statement
statement = ends puncts.Semicolon (Map statements_.Print (word words.Print operand) or set)

unfoldable pub statements : Rule (List Statement)
statements = Many statement

-- number "=>" label ","
unfoldable pub arm : Rule Arm
arm = Map (λ p. record { number = p.0; label = p.1 }) (number ⋅ punct puncts.FatArrow (ends puncts.Comma label))

unfoldable pub arms : Rule (List Arm)
arms = Many arm

-- "else" "=>" label "}"
unfoldable pub otherwise : Rule Label
otherwise = word words.Else (punct puncts.FatArrow (ends puncts.CloseBrace label))

-- "switch" operand "{"
unfoldable pub switch_head : Rule Operand
switch_head = word words.Switch (ends puncts.OpenBrace operand)

-- { number "=>" label "," } "else" "=>" label "}"
unfoldable pub cases : Rule (List Arm × Label)
cases = arms ⋅ otherwise

-- "switch" operand "{" { number "=>" label "," } "else" "=>" label "}"
unfoldable pub switch : Rule Switch
switch = Map (λ p. record { operand = p.0; arms = p.1.0; otherwise = p.1.1 }) (switch_head ⋅ cases)

-- callee | "(" operand ")"
unfoldable pub called : Rule Called
called = Map calleds.Pointer (in_parens operand) or Map calleds.Callee callee

-- "call" place "="
unfoldable pub call_place : Rule Place
call_place = word words.Call (ends puncts.Equals place)

-- "(" ops ")" "->" label
unfoldable pub arguments : Rule (List Operand × Label)
arguments = operands ⋅ punct puncts.Arrow label

-- ( callee | "(" operand ")" ) "(" ops ")" "->" label
unfoldable pub called_with : Rule (Called × (List Operand × Label))
called_with = called ⋅ arguments

-- "call" place "=" ( callee | "(" operand ")" ) "(" ops ")" "->" label
unfoldable pub call : Rule Call
call = Map (λ p. record { place = p.0; called = p.1.0; operands = p.1.1.0; target = p.1.1.1 }) (call_place ⋅ called_with)

-- "drop" place "->" label
unfoldable pub drop_end : Rule End
drop_end = Map (λ p. ends_.Drop p.0 p.1) (word words.Drop (place ⋅ punct puncts.Arrow label))

-- switch | call | drop
unfoldable pub end_with_parts : Rule End
end_with_parts = Map ends_.Switch switch or Map ends_.Call call or drop_end

-- end = "return" | "unreachable" | "goto" label | switch | call | drop .
unfoldable pub end : Rule End
end =
    bare words.Return ends_.Return
    or bare words.Unreachable ends_.Unreachable
    or Map ends_.Goto (word words.Goto label)
    or end_with_parts

-- end "}"
unfoldable pub block_end : Rule End
block_end = ends puncts.CloseBrace end

-- block = label ":" "{" { stmt ";" } end "}" . The label has the number that is wanted.
unfoldable pub block : Rule Block
block = Map (λ p. record { statements = p.0; end = p.1 }) (Numbered 4 (punct puncts.Colon (punct puncts.OpenBrace (statements ⋅ block_end))))

-- The blocks behind the first. The number of a label is at most 65,535.
unfoldable pub more_blocks : Rule (List Block)
more_blocks = ManyBelow 65536 block

-- block { block }, with numbers from 0
unfoldable pub blocks : Rule (List Block)
blocks = Map (λ p. p.0 ∷ p.1) (Then block (λ b. 1) more_blocks)

-- "let" local ":" ty ";" . The local has the number that is wanted.
unfoldable pub declared : Rule types.«Type»
declared = word words.Let (Numbered 3 (punct puncts.Colon (ends puncts.Semicolon ty)))

-- The locals that are declared. The number of a local is at most 65,535.
unfoldable pub lets : Rule (List types.«Type»)
lets = ManyBelow 65536 declared

-- block { block } "}"
unfoldable pub body_blocks : Rule (List Block)
body_blocks = ends puncts.CloseBrace blocks

-- body = "{" { "let" local ":" ty ";" } block { block } "}" . The first local that is declared has the number that is wanted.
unfoldable pub body : Rule Body
body = Map (λ p. record { lets = p.0; blocks = p.1 }) (punct puncts.OpenBrace (lets ⋅ body_blocks))
