-- The tokens that are written for definitions, impls, modules and crates.
use Rattle.std.specs.Prelude.{ℕ, ◌+◌, List, [], ◌∷◌, ◌++◌, length, Bool, true, false, Option, None, Some, map, flat_map}
use Rattle.mm_names.specs.declared.word.Word as word_type
use Rattle.mm_names.specs.declared.word.Word.TheVariants as words
use Rattle.mm_lex.specs.declared.punct.Punct.TheVariants.{Colon, Semicolon, Equals, Arrow, OpenBrace, CloseBrace, OpenBracket, CloseBracket}
use Rattle.mm_lex.specs.Lexemes.{LexemeKind, Word, Punct}
use Rattle.mm_ast.specs.declared.names.Name as names
use Rattle.mm_ast.specs.declared.types.Type as types
use Rattle.mm_ast.specs.declared.terms.Term as terms
use Rattle.mm_ast.specs.declared.bodies.Body.{Body}
use Rattle.mm_ast.specs.declared.items.Ast.{Ast}
use Rattle.mm_ast.specs.declared.items.Crate.{Crate}
use Rattle.mm_ast.specs.declared.items.Item as items
use Rattle.mm_ast.specs.declared.items.Item.TheFolds.{fold-Item}
use Rattle.mm_ast.specs.declared.items.ItemForm.{ItemForm}
use Rattle.mm_ast.specs.declared.items.ItemForm.TheVariants as item_forms
use Rattle.mm_ast.specs.declared.items.Definition.{Definition}
use Rattle.mm_ast.specs.declared.items.DefinitionForm.{DefinitionForm}
use Rattle.mm_ast.specs.declared.items.DefinitionForm.TheVariants as definitions
use Rattle.mm_ast.specs.declared.items.Function.{Function}
use Rattle.mm_ast.specs.declared.items.Signature.{Signature}
use Rattle.mm_ast.specs.declared.items.Closure.{Closure}
use Rattle.mm_ast.specs.declared.items.Struct.{Struct}
use Rattle.mm_ast.specs.declared.items.Enum.{Enum}
use Rattle.mm_ast.specs.declared.items.Variant.{Variant}
use Rattle.mm_ast.specs.declared.items.Trait.{Trait}
use Rattle.mm_ast.specs.declared.items.Method.{Method}
use Rattle.mm_ast.specs.declared.items.Impl.{Impl}
use Rattle.mm_ast.specs.declared.items.ImplForm.{ImplForm}
use Rattle.mm_ast.specs.declared.items.ImplForm.TheVariants as impl_forms
use Rattle.mm_ast.specs.declared.items.DropImpl.{DropImpl}
use Rattle.mm_ast.specs.declared.items.TraitImpl.{TraitImpl}
use Rattle.mm_ast.specs.declared.items.ImplMethod.{ImplMethod}
use Rattle.mm_ast.specs.declared.items.Static.{Static}
use Rattle.mm_ast.specs.declared.items.Const.{Const}
use Rattle.mm_ast.specs.declared.items.Bound.{Bound}
use Rattle.mm_ast.specs.declared.items.BoundForm.{BoundForm}
use Rattle.mm_ast.specs.declared.items.BoundForm.TheVariants as bound_forms
use Rattle.mm_spell.specs.Listed.{listed, in_parens}
use Rattle.mm_spell.specs.TypeTokens.{name_tokens, params_tokens, type_tokens, types_tokens, path_args_tokens}
use Rattle.mm_spell_bodies.specs.BodyTokens.{body_tokens}
use Rattle.mm_spell_bodies.specs.TermTokens.{term_tokens}

-- a word, where it is written
abbrev pub flag_tokens : Bool → word_type.Word → List LexemeKind
flag_tokens true w = Word w ∷ []
flag_tokens false w = []

-- ---- functions

abbrev pub result_tokens : Option types.«Type» → List LexemeKind
result_tokens None = []
result_tokens (Some t) = Punct Arrow ∷ type_tokens t

abbrev pub signature_tokens : Signature → List LexemeKind
signature_tokens s = in_parens (types_tokens s.params) ++ result_tokens s.result

abbrev pub bound_form_tokens : BoundForm → List LexemeKind
bound_form_tokens bound_forms.Call = Word words.CallTrait ∷ []
bound_form_tokens (bound_forms.Trait p) = path_args_tokens p

abbrev pub bound_tokens : Bound → List LexemeKind
bound_tokens b = type_tokens b.ty ++ Punct Colon ∷ bound_form_tokens b.form

abbrev pub bounds_tokens : List Bound → List LexemeKind
bounds_tokens [] = []
bounds_tokens (b ∷ bs) = Word words.Where ∷ listed (map bound_tokens (b ∷ bs))

abbrev pub function_tokens : Function → List LexemeKind
function_tokens f =
    flag_tokens f.is_inline words.Inline ++ Word words.Fn ∷ (name_tokens f.name ++ (params_tokens f.type_params ++ (signature_tokens f.signature
    ++ (bounds_tokens f.bounds ++ body_tokens (1 + length f.signature.params) f.body))))

-- the types of captures
abbrev pub captures_tokens : List types.«Type» → List LexemeKind
captures_tokens ts = Punct OpenBracket ∷ (types_tokens ts ++ Punct CloseBracket ∷ [])

abbrev pub closure_tokens : Closure → List LexemeKind
closure_tokens c =
    Word words.Closure ∷ (name_tokens c.name ++ (params_tokens c.type_params ++ (captures_tokens c.captures ++ (signature_tokens c.signature
    ++ body_tokens (2 + length c.signature.params) c.body))))

-- ---- types and traits

abbrev pub struct_tokens : Struct → List LexemeKind
struct_tokens s = Word words.Struct ∷ (name_tokens s.name ++ (params_tokens s.type_params ++ (in_parens (types_tokens s.fields) ++ Punct Semicolon ∷ [])))

abbrev pub variant_tokens : Variant → List LexemeKind
variant_tokens v = name_tokens v.name ++ in_parens (types_tokens v.fields)

abbrev pub enum_tokens : Enum → List LexemeKind
enum_tokens e = Word words.Enum ∷ (name_tokens e.name ++ (params_tokens e.type_params ++ Punct OpenBrace ∷ (listed (map variant_tokens e.variants) ++ Punct CloseBrace ∷ [])))

abbrev pub method_body_tokens : ℕ → Option Body → List LexemeKind
method_body_tokens first None = Punct Semicolon ∷ []
method_body_tokens first (Some b) = body_tokens first b

abbrev pub method_tokens : Method → List LexemeKind
method_tokens m =
    flag_tokens m.is_inline words.Inline ++ Word words.Fn ∷ (name_tokens m.name ++ (params_tokens m.type_params ++ (signature_tokens m.signature
    ++ (bounds_tokens m.bounds ++ method_body_tokens (1 + length m.signature.params) m.body))))

abbrev pub trait_tokens : Trait → List LexemeKind
trait_tokens t = Word words.Trait ∷ (name_tokens t.name ++ (params_tokens t.type_params ++ Punct OpenBrace ∷ (flat_map method_tokens t.methods ++ Punct CloseBrace ∷ [])))

-- ---- statics and constants

-- `:` type `=` term `;`
abbrev pub typed_tokens : types.«Type» → terms.Term → List LexemeKind
typed_tokens ty term = Punct Colon ∷ (type_tokens ty ++ Punct Equals ∷ (term_tokens term ++ Punct Semicolon ∷ []))

abbrev pub static_tokens : Static → List LexemeKind
static_tokens s = Word words.Static ∷ (name_tokens s.name ++ typed_tokens s.ty s.term)

abbrev pub const_tokens : Const → List LexemeKind
const_tokens c = Word words.Const ∷ (name_tokens c.name ++ (params_tokens c.type_params ++ typed_tokens c.ty c.term))

-- ---- impls

-- `for` type bounds `{`
abbrev pub target_tokens : types.«Type» → List Bound → List LexemeKind
target_tokens target bounds = Word words.For ∷ (type_tokens target ++ (bounds_tokens bounds ++ Punct OpenBrace ∷ []))

-- the method of `impl Drop`
abbrev pub drop_method_tokens : DropImpl → List LexemeKind
drop_method_tokens d = flag_tokens d.is_inline words.Inline ++ Word words.Fn ∷ Word words.Drop ∷ (in_parens (type_tokens d.param) ++ body_tokens 2 d.body)

abbrev pub drop_impl_tokens : DropImpl → List LexemeKind
drop_impl_tokens d = Word words.DropTrait ∷ (target_tokens d.target d.bounds ++ (drop_method_tokens d ++ Punct CloseBrace ∷ []))

abbrev pub impl_method_tokens : ImplMethod → List LexemeKind
impl_method_tokens m = function_tokens m.function

abbrev pub trait_impl_tokens : TraitImpl → List LexemeKind
trait_impl_tokens i = path_args_tokens i.of ++ (target_tokens i.target i.bounds ++ (flat_map impl_method_tokens i.methods ++ Punct CloseBrace ∷ []))

abbrev pub impl_form_tokens : ImplForm → List LexemeKind
impl_form_tokens (impl_forms.Drop d) = drop_impl_tokens d
impl_form_tokens (impl_forms.Trait i) = trait_impl_tokens i

abbrev pub impl_tokens : Impl → List LexemeKind
impl_tokens i = Word words.Impl ∷ (params_tokens i.type_params ++ impl_form_tokens i.form)

-- ---- items and crates

abbrev pub definition_form_tokens : DefinitionForm → List LexemeKind
definition_form_tokens (definitions.Function f) = function_tokens f
definition_form_tokens (definitions.Closure c) = closure_tokens c
definition_form_tokens (definitions.Struct s) = struct_tokens s
definition_form_tokens (definitions.Enum e) = enum_tokens e
definition_form_tokens (definitions.Trait t) = trait_tokens t
definition_form_tokens (definitions.Static s) = static_tokens s
definition_form_tokens (definitions.Const c) = const_tokens c

abbrev pub definition_tokens : Definition → List LexemeKind
definition_tokens d = flag_tokens d.is_pub words.Pub ++ definition_form_tokens d.form

-- a module with what is written for its items
abbrev pub module_tokens : names.Name → List LexemeKind → List LexemeKind
module_tokens n inner = Word words.Mod ∷ (name_tokens n ++ Punct OpenBrace ∷ (inner ++ Punct CloseBrace ∷ []))

-- an item with what is written for the items in it
abbrev pub item_form_tokens : ItemForm → List (List LexemeKind) → List LexemeKind
item_form_tokens (item_forms.Module n) inner = module_tokens n (flat_map (λ x. x) inner)
item_form_tokens (item_forms.Impl i) inner = impl_tokens i
item_form_tokens (item_forms.Definition d) inner = definition_tokens d

unfoldable pub item_tokens : items.Item → List LexemeKind
item_tokens = fold-Item (List LexemeKind) (λ layer. item_form_tokens layer.form layer.items)

abbrev pub crate_tokens : Crate → List LexemeKind
crate_tokens c = Word words.Crate ∷ (name_tokens c.name ++ Punct Semicolon ∷ flat_map item_tokens c.items)

abbrev pub tree_tokens : Ast → List LexemeKind
tree_tokens tree = flat_map crate_tokens tree.crates
