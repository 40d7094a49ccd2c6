-- What is mentioned by definitions, and by all items of a crate.
use Rattle.std.specs.List.{flat_map}
use Rattle.std.specs.Prelude.{ℕ, List, [], ◌++◌}
use Rattle.mm_ast.specs.declared.items.Crate.{Crate}
use Rattle.mm_ast.specs.declared.items.DefinitionForm.TheVariants as definitions
use Rattle.mm_ast.specs.declared.items.DefinitionForm.{DefinitionForm}
use Rattle.mm_ast.specs.declared.items.Item.{Item}
use Rattle.mm_ast.specs.declared.items.ItemForm.TheVariants as forms
use Rattle.mm_ast.specs.declared.items.ItemForm.{ItemForm}
use Rattle.mm_ast.specs.declared.names.Name.{Name}
use Rattle.mm_ast.specs.declared.terms.Term.{Term}
use Rattle.mm_ast.specs.declared.types.Type as types
use Rattle.mm_mentions.specs.declared.mention.Mention.{Mention}
use Rattle.mm_mentions.specs.FunctionMentions.{scope_with, function_mentions, closure_mentions, methods_mentions}
use Rattle.mm_mentions.specs.ImplMentions.{impl_mentions}
use Rattle.mm_mentions.specs.Scopes.{Names, Scope, of_params}
use Rattle.mm_mentions.specs.TermMentions.{term_mentions}
use Rattle.mm_definitions.specs.Trees.{item_fold}
use Rattle.mm_mentions.specs.TypeMentions.{written_type, written_types}

-- ---- definitions

-- the type parameters of a definition
unfoldable pub params_of : DefinitionForm → List Name
params_of (definitions.Function f) = f.type_params
params_of (definitions.Closure c) = c.type_params
params_of (definitions.Struct s) = s.type_params
params_of (definitions.Enum e) = e.type_params
params_of (definitions.Trait t) = t.type_params
params_of (definitions.Static s) = []
params_of (definitions.Const c) = c.type_params

-- the type and the term of a static or a constant
abbrev pub valued_mentions : Scope → types.«Type» → Term → List Mention
valued_mentions scope ty term = written_type scope ty ++ term_mentions scope term

-- a definition with these type parameters
unfoldable pub definition_in : Names → DefinitionForm → List Mention
definition_in own (definitions.Function f) = function_mentions (scope_with own) f
definition_in own (definitions.Closure c) = closure_mentions (scope_with own) c
definition_in own (definitions.Struct s) = written_types (scope_with own) s.fields
definition_in own (definitions.Enum e) = flat_map (λ v. written_types (scope_with own) v.fields) e.variants
definition_in own (definitions.Trait t) = methods_mentions own t.methods
definition_in own (definitions.Static s) = valued_mentions (scope_with own) s.ty s.term
definition_in own (definitions.Const c) = valued_mentions (scope_with own) c.ty c.term

abbrev pub definition_mentions : DefinitionForm → List Mention
definition_mentions form = definition_in (of_params (params_of form)) form

-- ---- items

-- an item alone
unfoldable pub form_mentions : List ℕ → ℕ → ItemForm → List Mention
form_mentions krate line (forms.Module name) = []
form_mentions krate line (forms.Impl impl) = impl_mentions krate line impl
form_mentions krate line (forms.Definition definition) = definition_mentions definition.form

-- an item, and the items in it
unfoldable pub item_mentions : List ℕ → Item → List Mention
item_mentions krate = item_fold (λ line form inside. form_mentions krate line form ++ flat_map (λ mentions. mentions) inside)

abbrev pub items_mentions : List ℕ → List Item → List Mention
items_mentions krate items = flat_map (item_mentions krate) items

-- all that a crate mentions
unfoldable pub mentions_in : Crate → List Mention
mentions_in krate = items_mentions krate.name.text krate.items
