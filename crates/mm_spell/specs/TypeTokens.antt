-- The tokens that are written for names, paths, types and callees.
use Rattle.std.specs.Prelude.{ℕ, ◌-◌, List, [], ◌∷◌, ◌++◌, length, take, drop, map, flat_map}
use Rattle.mm_names.specs.declared.word.Word.TheVariants as words
use Rattle.mm_lex.specs.declared.punct.Punct.TheVariants.{PathSep, Ampersand, Less, Greater, Arrow}
use Rattle.mm_lex.specs.Lexemes.{LexemeKind, Name, Word, Punct}
use Rattle.mm_ast.specs.declared.names.Name as names
use Rattle.mm_ast.specs.declared.names.Path.{Path}
use Rattle.mm_ast.specs.declared.names.PathWithArgs.{PathWithArgs}
use Rattle.mm_ast.specs.declared.types.Type as types
use Rattle.mm_ast.specs.declared.types.Type.TheFolds.{fold-Type}
use Rattle.mm_ast.specs.declared.types.Head.{Head}
use Rattle.mm_ast.specs.declared.types.Head.TheVariants as heads
use Rattle.mm_ast.specs.declared.bodies.Callee.{Callee}
use Rattle.mm_ast.specs.declared.bodies.Callee.TheVariants as callees
use Rattle.mm_ast.specs.declared.bodies.MethodCallee.{MethodCallee}
use Rattle.mm_spell.specs.Listed.{listed, in_parens, in_angles}

abbrev pub name_tokens : names.Name → List LexemeKind
name_tokens n = Name n.text ∷ []

abbrev pub segment_tokens : List ℕ → List LexemeKind
segment_tokens text = Punct PathSep ∷ Name text ∷ []

abbrev pub path_tokens : Path → List LexemeKind
path_tokens p = Name p.krate ∷ flat_map segment_tokens p.names

-- type parameters
abbrev pub params_tokens : List names.Name → List LexemeKind
params_tokens ns = in_angles (map name_tokens ns)

-- the parameters of a function pointer and, last, its result
abbrev pub fn_pointer_tokens : List (List LexemeKind) → List LexemeKind
fn_pointer_tokens children = Word words.FnPtr ∷ (in_parens (listed (take (length children - 1) children)) ++ Punct Arrow ∷ listed (drop (length children - 1) children))

-- a head with what is written for the types below it
abbrev pub head_tokens : Head → List (List LexemeKind) → List LexemeKind
head_tokens (heads.Param text) children = Name text ∷ []
head_tokens heads.SelfType children = Word words.SelfType ∷ []
head_tokens heads.U64 children = Word words.U64 ∷ []
head_tokens heads.Bool children = Word words.Bool ∷ []
head_tokens heads.Tuple children = in_parens (listed children)
head_tokens heads.Ref children = Punct Ampersand ∷ listed children
head_tokens heads.Boxed children = Word words.BoxType ∷ Punct Less ∷ (listed children ++ Punct Greater ∷ [])
head_tokens heads.FnPtr children = fn_pointer_tokens children
head_tokens (heads.FnItem p) children = Word words.FnItem ∷ (path_tokens p ++ in_angles children)
head_tokens (heads.Closure p) children = Word words.Closure ∷ (path_tokens p ++ in_angles children)
head_tokens (heads.Dyn p) children = Word words.Dyn ∷ (path_tokens p ++ in_angles children)
head_tokens (heads.Adt p) children = path_tokens p ++ in_angles children

unfoldable pub type_tokens : types.«Type» → List LexemeKind
type_tokens = fold-Type (List LexemeKind) (λ layer. head_tokens layer.head layer.children)

-- types with commas between them
abbrev pub types_tokens : List types.«Type» → List LexemeKind
types_tokens ts = listed (map type_tokens ts)

-- type arguments
abbrev pub args_tokens : List types.«Type» → List LexemeKind
args_tokens ts = in_angles (map type_tokens ts)

abbrev pub path_args_tokens : PathWithArgs → List LexemeKind
path_args_tokens p = path_tokens p.path ++ args_tokens p.args

-- `<` type `as`
abbrev pub self_tokens : types.«Type» → List LexemeKind
self_tokens t = Punct Less ∷ (type_tokens t ++ Word words.As ∷ [])

abbrev pub method_tokens : MethodCallee → List LexemeKind
method_tokens m = self_tokens m.self_type ++ (path_args_tokens m.of ++ Punct Greater ∷ Punct PathSep ∷ (name_tokens m.name ++ args_tokens m.args))

abbrev pub callee_tokens : Callee → List LexemeKind
callee_tokens (callees.Direct p) = path_args_tokens p
callee_tokens (callees.Method m) = method_tokens m
callee_tokens (callees.Call c) = self_tokens c.self_type ++ Word words.CallTrait ∷ Punct Greater ∷ Punct PathSep ∷ Word words.Call ∷ []
