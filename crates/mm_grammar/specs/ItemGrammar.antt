-- The grammar of the text language: definitions, impls, modules and crates. Over each part stands its rule.
use Rattle.std.specs.Prelude.{ℕ, ◌+◌, List, [], ◌∷◌, length, Bool, true, false, cond, Option, Some, None}
use Rattle.mm_names.specs.declared.word.Word.TheVariants as words
use Rattle.mm_lex.specs.declared.punct.Punct.TheVariants as puncts
use Rattle.mm_ast.specs.declared.names.Name.{Name}
use Rattle.mm_ast.specs.declared.types.Type as types
use Rattle.mm_ast.specs.declared.types.Type.TheViews.{out-Type}
use Rattle.mm_ast.specs.declared.types.Head.{Head}
use Rattle.mm_ast.specs.declared.types.Head.TheVariants as heads
use Rattle.mm_ast.specs.declared.items.Ast.{Ast}
use Rattle.mm_ast.specs.declared.items.Crate.{Crate}
use Rattle.mm_ast.specs.declared.items.Item as items
use Rattle.mm_ast.specs.declared.items.Item.TheViews.{roll-Item}
use Rattle.mm_ast.specs.declared.items.ItemForm.{ItemForm}
use Rattle.mm_ast.specs.declared.items.ItemForm.TheVariants as item_forms
use Rattle.mm_ast.specs.declared.items.Definition.{Definition}
use Rattle.mm_ast.specs.declared.items.DefinitionForm.{DefinitionForm}
use Rattle.mm_ast.specs.declared.items.DefinitionForm.TheVariants as definitions
use Rattle.mm_ast.specs.declared.items.Function.{Function}
use Rattle.mm_ast.specs.declared.items.Signature.{Signature}
use Rattle.mm_ast.specs.declared.items.Closure.{Closure}
use Rattle.mm_ast.specs.declared.items.Struct.{Struct}
use Rattle.mm_ast.specs.declared.items.Enum.{Enum}
use Rattle.mm_ast.specs.declared.items.Variant.{Variant}
use Rattle.mm_ast.specs.declared.items.Trait.{Trait}
use Rattle.mm_ast.specs.declared.items.Method.{Method}
use Rattle.mm_ast.specs.declared.items.Impl.{Impl}
use Rattle.mm_ast.specs.declared.items.ImplForm.{ImplForm}
use Rattle.mm_ast.specs.declared.items.ImplForm.TheVariants as impl_forms
use Rattle.mm_ast.specs.declared.items.DropImpl.{DropImpl}
use Rattle.mm_ast.specs.declared.items.TraitImpl.{TraitImpl}
use Rattle.mm_ast.specs.declared.items.ImplMethod.{ImplMethod}
use Rattle.mm_ast.specs.declared.items.Static.{Static}
use Rattle.mm_ast.specs.declared.items.Const.{Const}
use Rattle.mm_ast.specs.declared.items.Bound.{Bound}
use Rattle.mm_ast.specs.declared.items.BoundForm.{BoundForm}
use Rattle.mm_ast.specs.declared.items.BoundForm.TheVariants as bound_forms
use Rattle.mm_ast.specs.declared.terms.Term as terms
use Rattle.mm_ast.specs.declared.bodies.Body.{Body}
use Rattle.mm_grammar.specs.declared.heads.FnHead.{FnHead}
use Rattle.mm_grammar.specs.declared.heads.ClosureHead.{ClosureHead}
use Rattle.mm_grammar.specs.declared.heads.DropMethod.{DropMethod}
use Rattle.mm_forms.specs.Forms.{Nothing, Then, Many, ManyNumbered, Map, At, Below, Inner}
use Rattle.mm_grammar.specs.Rules.{Types, Modules, Rule, line_of, word, punct, ends, ◌⋅◌, ◌or◌, bare, flag, optional, list, closed, in_parens}
use Rattle.mm_grammar.specs.Grammar.{name, params, ty, some_types, tys, path_args, body}
use Rattle.mm_grammar.specs.TermGrammar.{term}

-- "," ty, as one parameter more. There are at most 65,534.
unfoldable pub next_param : Rule types.«Type»
next_param = punct puncts.Comma (Below 65533 Types)

unfoldable pub more_params : Rule (List types.«Type»)
more_params = ManyNumbered next_param

-- ty { "," ty }
unfoldable pub some_params : Rule (List types.«Type»)
some_params = list ty more_params

-- "(" tys ")"
unfoldable pub param_types : Rule (List types.«Type»)
param_types = punct puncts.Open (closed puncts.Close some_params)

-- [ "->" ty ]
unfoldable pub result_type : Rule (Option types.«Type»)
result_type = optional (punct puncts.Arrow ty)

-- whether a type with this head and these children is `()`
abbrev pub is_unit : Head → List types.«Type» → Bool
is_unit heads.Tuple [] = true
is_unit _ _ = false

-- A result that is `()` is as one that is not written.
abbrev pub result_of : Option types.«Type» → Option types.«Type»
result_of None = None
result_of (Some t) = cond (is_unit (out-Type t).head (out-Type t).children) None (Some t)

-- sig = "(" tys ")" [ "->" ty ] .
unfoldable pub signature : Rule Signature
signature = Map (λ p. record { params = p.0; result = result_of p.1 }) (param_types ⋅ result_type)

-- "Call" | path args
unfoldable pub bound_form : Rule BoundForm
bound_form = bare words.CallTrait bound_forms.Call or Map bound_forms.Trait path_args

-- bound = ty ":" ( path args | "Call" ) .
unfoldable pub bound : Rule Bound
bound = Map (λ p. record { ty = p.0; form = p.1 }) (ty ⋅ punct puncts.Colon bound_form)

unfoldable pub next_bound : Rule Bound
next_bound = punct puncts.Comma bound

unfoldable pub more_bounds : Rule (List Bound)
more_bounds = Many next_bound

-- bound { "," bound }
unfoldable pub some_bounds : Rule (List Bound)
some_bounds = list bound more_bounds

-- where = [ "where" bound { "," bound } ] .
unfoldable pub bounds : Rule (List Bound)
bounds = word words.Where some_bounds or Nothing []

-- sig where
unfoldable pub bounded : Rule (Signature × List Bound)
bounded = signature ⋅ bounds

-- params sig where
unfoldable pub generic : Rule (List Name × (Signature × List Bound))
generic = params ⋅ bounded

-- "fn" name params sig where
unfoldable pub fn_name : Rule (Name × (List Name × (Signature × List Bound)))
fn_name = word words.Fn (name ⋅ generic)

-- [ "inline" ] "fn" name params sig where
unfoldable pub fn_head : Rule FnHead
fn_head = Map (λ p. record { is_inline = p.0; name = p.1.0; type_params = p.1.1.0; signature = p.1.1.1.0; bounds = p.1.1.1.1 }) (flag words.Inline ⋅ fn_name)

-- the number of the first local behind the result and the parameters
abbrev pub first_let : FnHead → ℕ
first_let h = 1 + length h.signature.params

-- fn = [ "inline" ] "fn" name params sig where body .
unfoldable pub function : Rule Function
function = Map (λ p. record { is_inline = p.0.is_inline; name = p.0.name; type_params = p.0.type_params; signature = p.0.signature; bounds = p.0.bounds; body = p.1 }) (Then fn_head first_let body)

-- "[" tys "]"
unfoldable pub captures : Rule (List types.«Type»)
captures = punct puncts.OpenBracket (closed puncts.CloseBracket some_types)

-- "[" tys "]" sig
unfoldable pub capturing : Rule (List types.«Type» × Signature)
capturing = captures ⋅ signature

-- params "[" tys "]" sig
unfoldable pub generic_capturing : Rule (List Name × (List types.«Type» × Signature))
generic_capturing = params ⋅ capturing

-- "closure" name params "[" tys "]" sig
unfoldable pub closure_head : Rule ClosureHead
closure_head = Map (λ p. record { name = p.0; type_params = p.1.0; captures = p.1.1.0; signature = p.1.1.1 }) (word words.Closure (name ⋅ generic_capturing))

-- The first parameter of a closure is the closure itself and is not written.
abbrev pub first_closure_let : ClosureHead → ℕ
first_closure_let h = 2 + length h.signature.params

-- closure = "closure" name params "[" tys "]" sig body .
unfoldable pub closure : Rule Closure
closure = Map (λ p. record { name = p.0.name; type_params = p.0.type_params; captures = p.0.captures; signature = p.0.signature; body = p.1 }) (Then closure_head first_closure_let body)

-- "(" tys ")"
unfoldable pub field_types : Rule (List types.«Type»)
field_types = punct puncts.Open tys

-- "(" tys ")" ";"
unfoldable pub struct_fields : Rule (List types.«Type»)
struct_fields = ends puncts.Semicolon field_types

-- params "(" tys ")" ";"
unfoldable pub generic_fields : Rule (List Name × List types.«Type»)
generic_fields = params ⋅ struct_fields

-- struct = "struct" name params "(" tys ")" ";" .
unfoldable pub struct_item : Rule Struct
struct_item = Map (λ p. record { name = p.0; type_params = p.1.0; fields = p.1.1 }) (word words.Struct (name ⋅ generic_fields))

-- variant = name "(" tys ")" .
unfoldable pub variant : Rule Variant
variant = Map (λ p. record { name = p.0; fields = p.1 }) (name ⋅ field_types)

unfoldable pub next_variant : Rule Variant
next_variant = punct puncts.Comma variant

unfoldable pub more_variants : Rule (List Variant)
more_variants = Many next_variant

-- variant { "," variant }
unfoldable pub some_variants : Rule (List Variant)
some_variants = list variant more_variants

-- "{" variant { "," variant } "}"
unfoldable pub variants : Rule (List Variant)
variants = punct puncts.OpenBrace (ends puncts.CloseBrace some_variants)

-- params "{" variant { "," variant } "}"
unfoldable pub generic_variants : Rule (List Name × List Variant)
generic_variants = params ⋅ variants

-- enum = "enum" name params "{" variant { "," variant } "}" .
unfoldable pub enum_item : Rule Enum
enum_item = Map (λ p. record { name = p.0; type_params = p.1.0; variants = p.1.1 }) (word words.Enum (name ⋅ generic_variants))

-- body | ";"
unfoldable pub method_body : Rule (Option Body)
method_body = punct puncts.Semicolon (Nothing None) or Map Some body

-- method = [ "inline" ] "fn" name params sig where ( body | ";" ) .
unfoldable pub method : Rule Method
method = Map (λ p. record { line = p.0; is_inline = p.1.0.is_inline; name = p.1.0.name; type_params = p.1.0.type_params; signature = p.1.0.signature; bounds = p.1.0.bounds; body = p.1.1 }) (At line_of (Then fn_head first_let method_body))

unfoldable pub methods : Rule (List Method)
methods = Many method

-- "{" { method } "}"
unfoldable pub trait_methods : Rule (List Method)
trait_methods = punct puncts.OpenBrace (ends puncts.CloseBrace methods)

-- params "{" { method } "}"
unfoldable pub generic_methods : Rule (List Name × List Method)
generic_methods = params ⋅ trait_methods

-- trait = "trait" name params "{" { method } "}" .
unfoldable pub trait_item : Rule Trait
trait_item = Map (λ p. record { name = p.0; type_params = p.1.0; methods = p.1.1 }) (word words.Trait (name ⋅ generic_methods))

-- "=" term ";"
unfoldable pub value_term : Rule terms.Term
value_term = punct puncts.Equals (ends puncts.Semicolon term)

-- ":" ty "=" term ";"
unfoldable pub typed_term : Rule (types.«Type» × terms.Term)
typed_term = punct puncts.Colon (ty ⋅ value_term)

-- static = "static" name ":" ty "=" term ";" .
unfoldable pub static_item : Rule Static
static_item = Map (λ p. record { name = p.0; ty = p.1.0; term = p.1.1 }) (word words.Static (name ⋅ typed_term))

-- params ":" ty "=" term ";"
unfoldable pub generic_term : Rule (List Name × (types.«Type» × terms.Term))
generic_term = params ⋅ typed_term

-- const = "const" name params ":" ty "=" term ";" .
unfoldable pub const_item : Rule Const
const_item = Map (λ p. record { name = p.0; type_params = p.1.0; ty = p.1.1.0; term = p.1.1.1 }) (word words.Const (name ⋅ generic_term))

-- "fn" "drop" "(" ty ")"
unfoldable pub drop_param : Rule types.«Type»
drop_param = word words.Fn (word words.Drop (in_parens ty))

-- "fn" "drop" "(" ty ")" body, whose result and one parameter are its first locals
unfoldable pub drop_fn : Rule (types.«Type» × Body)
drop_fn = Then drop_param (λ t. 2) body

-- [ "inline" ] "fn" "drop" "(" ty ")" body
unfoldable pub drop_method : Rule DropMethod
drop_method = Map (λ p. record { is_inline = p.0; param = p.1.0; body = p.1.1 }) (flag words.Inline ⋅ drop_fn)

-- "{" [ "inline" ] "fn" "drop" "(" ty ")" body "}"
unfoldable pub drop_braces : Rule DropMethod
drop_braces = punct puncts.OpenBrace (ends puncts.CloseBrace drop_method)

-- where "{" [ "inline" ] "fn" "drop" "(" ty ")" body "}"
unfoldable pub bounded_drop : Rule (List Bound × DropMethod)
bounded_drop = bounds ⋅ drop_braces

-- dropimpl = "Drop" "for" ty where "{" [ "inline" ] "fn" "drop" "(" ty ")" body "}" .
unfoldable pub drop_impl : Rule DropImpl
drop_impl = Map (λ p. record { target = p.0; bounds = p.1.0; is_inline = p.1.1.is_inline; param = p.1.1.param; body = p.1.1.body }) (word words.DropTrait (word words.For (ty ⋅ bounded_drop)))

unfoldable pub impl_method : Rule ImplMethod
impl_method = Map (λ p. record { line = p.0; function = p.1 }) (At line_of function)

unfoldable pub impl_methods : Rule (List ImplMethod)
impl_methods = Many impl_method

-- "{" { fn } "}"
unfoldable pub impl_braces : Rule (List ImplMethod)
impl_braces = punct puncts.OpenBrace (ends puncts.CloseBrace impl_methods)

-- where "{" { fn } "}"
unfoldable pub bounded_methods : Rule (List Bound × List ImplMethod)
bounded_methods = bounds ⋅ impl_braces

-- "for" ty where "{" { fn } "}"
unfoldable pub impl_target : Rule (types.«Type» × (List Bound × List ImplMethod))
impl_target = word words.For (ty ⋅ bounded_methods)

-- path args "for" ty where "{" { fn } "}"
unfoldable pub trait_impl : Rule TraitImpl
trait_impl = Map (λ p. record { of = p.0; target = p.1.0; bounds = p.1.1.0; methods = p.1.1.1 }) (path_args ⋅ impl_target)

-- dropimpl | path args "for" ty where "{" { fn } "}"
unfoldable pub impl_form : Rule ImplForm
impl_form = Map impl_forms.Drop drop_impl or Map impl_forms.Trait trait_impl

-- impl = "impl" params ( dropimpl | path args "for" ty where "{" { fn } "}" ) .
unfoldable pub impl_item : Rule Impl
impl_item = Map (λ p. record { type_params = p.0; form = p.1 }) (word words.Impl (params ⋅ impl_form))

-- static | const | fn
unfoldable pub value_definition : Rule DefinitionForm
value_definition = Map definitions.Static static_item or Map definitions.Const const_item or Map definitions.Function function

-- fn | closure | struct | enum | trait | static | const
unfoldable pub definition_form : Rule DefinitionForm
definition_form =
    Map definitions.Closure closure
    or Map definitions.Struct struct_item
    or Map definitions.Enum enum_item
    or Map definitions.Trait trait_item
    or value_definition

-- [ "pub" ] ( fn | closure | struct | enum | trait | static | const )
unfoldable pub definition : Rule Definition
definition = Map (λ p. record { is_pub = p.0; form = p.1 }) (flag words.Pub ⋅ definition_form)

-- what an item is, and the items in it
abbrev pub Entry : Type 0
Entry = ItemForm × List items.Item

-- "mod" name "{" { item } "}"
unfoldable pub module_entry : Rule Entry
module_entry = Map (λ p. (item_forms.Module p.0, p.1)) (word words.Mod (name ⋅ Inner Modules))

-- item = "mod" name "{" { item } "}" | impl | [ "pub" ] ( fn | closure | struct | enum | trait | static | const ) .
unfoldable pub entry : Rule Entry
entry =
    module_entry
    or Map (λ i. (item_forms.Impl i, [])) impl_item
    or Map (λ d. (item_forms.Definition d, [])) definition

unfoldable pub item : Rule items.Item
item = Map (λ p. roll-Item (record { line = p.0; form = p.1.0; items = p.1.1 })) (At line_of entry)

unfoldable pub more_items : Rule (List items.Item)
more_items = Many item

-- "{" { item } "}"
unfoldable pub braces : Rule (List items.Item)
braces = punct puncts.OpenBrace (ends puncts.CloseBrace more_items)

-- "crate" name ";"
unfoldable pub crate_name : Rule Name
crate_name = word words.Crate (ends puncts.Semicolon name)

-- crate = "crate" name ";" { item } .
unfoldable pub krate : Rule Crate
krate = Map (λ p. record { line = p.0; name = p.1.0; items = p.1.1 }) (At line_of (crate_name ⋅ more_items))

unfoldable pub more_crates : Rule (List Crate)
more_crates = Many krate

-- text = crate { crate } .
unfoldable pub crates : Rule Ast
crates = Map (λ cs. record { crates = cs }) (list krate more_crates)
