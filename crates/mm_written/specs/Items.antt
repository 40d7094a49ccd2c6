-- Signatures, definitions, impls and items.
use Rattle.std.specs.Prelude.{◌&&◌, List, length, Bool, true}
use Rattle.std.specs.List.{list_all}
use Rattle.std.specs.Option.{option_map_or}
use Rattle.mm_ast.specs.declared.items.Bound.{Bound}
use Rattle.mm_ast.specs.declared.items.BoundForm.{BoundForm}
use Rattle.mm_ast.specs.declared.items.BoundForm.TheVariants as bounds
use Rattle.mm_ast.specs.declared.items.Closure.{Closure}
use Rattle.mm_ast.specs.declared.items.Const.{Const}
use Rattle.mm_ast.specs.declared.items.DefinitionForm.{DefinitionForm}
use Rattle.mm_ast.specs.declared.items.DefinitionForm.TheVariants as definitions
use Rattle.mm_ast.specs.declared.items.DropImpl.{DropImpl}
use Rattle.mm_ast.specs.declared.items.Enum.{Enum}
use Rattle.mm_ast.specs.declared.items.Function.{Function}
use Rattle.mm_ast.specs.declared.items.Impl.{Impl}
use Rattle.mm_ast.specs.declared.items.ImplForm.{ImplForm}
use Rattle.mm_ast.specs.declared.items.ImplForm.TheVariants as impls
use Rattle.mm_ast.specs.declared.items.Item.{Item}
use Rattle.mm_ast.specs.declared.items.Item.TheFolds.{fold-Item}
use Rattle.mm_ast.specs.declared.items.ItemForm.{ItemForm}
use Rattle.mm_ast.specs.declared.items.ItemForm.TheVariants as forms
use Rattle.mm_ast.specs.declared.items.Method.{Method}
use Rattle.mm_ast.specs.declared.items.Signature.{Signature}
use Rattle.mm_ast.specs.declared.items.Static.{Static}
use Rattle.mm_ast.specs.declared.items.Struct.{Struct}
use Rattle.mm_ast.specs.declared.items.Trait.{Trait}
use Rattle.mm_ast.specs.declared.items.TraitImpl.{TraitImpl}
use Rattle.mm_ast.specs.declared.items.Variant.{Variant}
use Rattle.mm_written.specs.Bodies.{written_body}
use Rattle.mm_written.specs.Lists.{few, few_each, few_in_self}
use Rattle.mm_written.specs.Names.{written_name, written_names}
use Rattle.mm_written.specs.Terms.{written_term}
use Rattle.mm_written.specs.Types.{written_type, written_types, written_result, written_args}

-- ---- signatures

unfoldable pub written_signature : Signature → Bool
written_signature signature = written_types signature.params && written_result signature.result

abbrev pub written_bound_form : BoundForm → Bool
written_bound_form (bounds.Trait named) = written_args named
written_bound_form bounds.Call = true

unfoldable pub written_bound : Bound → Bool
written_bound bound = written_type bound.ty && written_bound_form bound.form

unfoldable pub written_bounds : List Bound → Bool
written_bounds bounds = few_each written_bound bounds

-- ---- definitions

unfoldable pub written_function : Function → Bool
written_function f =
    written_name f.name && written_names f.type_params && written_signature f.signature && written_bounds f.bounds
    && written_body (length f.signature.params) f.body

unfoldable pub written_closure : Closure → Bool
written_closure c =
    written_name c.name && written_names c.type_params && written_types c.captures && written_signature c.signature
    && written_body (length c.signature.params) c.body && few_in_self c.type_params

unfoldable pub written_struct : Struct → Bool
written_struct s = written_name s.name && written_names s.type_params && written_types s.fields

unfoldable pub written_variant : Variant → Bool
written_variant v = written_name v.name && written_types v.fields

unfoldable pub written_enum : Enum → Bool
written_enum e = written_name e.name && written_names e.type_params && few_each written_variant e.variants

-- the default body, where there is one
unfoldable pub written_method : Method → Bool
written_method m =
    written_name m.name && written_names m.type_params && written_signature m.signature && written_bounds m.bounds
    && option_map_or (written_body (length m.signature.params)) m.body true

unfoldable pub written_trait : Trait → Bool
written_trait t = written_name t.name && written_names t.type_params && few_each written_method t.methods

unfoldable pub written_static : Static → Bool
written_static s = written_name s.name && written_type s.ty && written_term s.term

unfoldable pub written_const : Const → Bool
written_const c = written_name c.name && written_names c.type_params && written_type c.ty && written_term c.term

unfoldable pub written_definition : DefinitionForm → Bool
written_definition (definitions.Function f) = written_function f
written_definition (definitions.Closure c) = written_closure c
written_definition (definitions.Struct s) = written_struct s
written_definition (definitions.Enum e) = written_enum e
written_definition (definitions.Trait t) = written_trait t
written_definition (definitions.Static s) = written_static s
written_definition (definitions.Const c) = written_const c

-- ---- impls

-- the self type, the bounds, and the method `drop`, which has one parameter
unfoldable pub written_drop_impl : DropImpl → Bool
written_drop_impl d = written_type d.target && written_bounds d.bounds && written_type d.param && written_body 1 d.body

-- the trait, the self type, the bounds, and the methods
unfoldable pub written_trait_impl : TraitImpl → Bool
written_trait_impl t =
    written_args t.of && written_type t.target && written_bounds t.bounds
    && few_each (λ method. written_function method.function) t.methods

abbrev pub written_impl_form : ImplForm → Bool
written_impl_form (impls.Drop d) = written_drop_impl d
written_impl_form (impls.Trait t) = written_trait_impl t

unfoldable pub written_impl : Impl → Bool
written_impl impl = written_names impl.type_params && written_impl_form impl.form

-- ---- items

unfoldable pub written_form : ItemForm → Bool
written_form (forms.Module name) = written_name name
written_form (forms.Impl impl) = written_impl impl
written_form (forms.Definition definition) = written_definition definition.form

-- the item, and those in it
unfoldable pub written_item : Item → Bool
written_item = fold-Item Bool (λ layer. written_form layer.form && few layer.items && list_all (λ written. written) layer.items)
