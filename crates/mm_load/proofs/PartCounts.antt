-- An item has as many definitions as its size.
use Rattle.std.proofs.Common.{◌≡◌, Bool, List, ◌∷◌, length, refl, arith}
use Rattle.std.proofs.lemmas.List.{length-map}
use Rattle.mm_ast.specs.declared.items.DefinitionForm.{DefinitionForm}
use Rattle.mm_ast.specs.declared.items.DefinitionForm.TheVariants as definitions
use Rattle.mm_ast.specs.declared.items.ImplForm.{ImplForm}
use Rattle.mm_ast.specs.declared.items.ImplForm.TheVariants as impls
use Rattle.mm_ast.specs.declared.items.ItemForm.{ItemForm}
use Rattle.mm_ast.specs.declared.items.ItemForm.TheVariants as forms
use Rattle.mm_ast.specs.declared.names.Name.{Name}
use Rattle.mm_definitions.specs.Paths.{path_named}
use Rattle.mm_definitions.specs.Placed.{definition_size, impl_size, size}
use Rattle.mm_lower.specs.Items.{Site, path_here, method_part, trait_parts, given_part, impl_parts, drop_parts, definition_parts, parts_by_impl, parts_of}
use Rattle.mm_lower.specs.Params.{self_name, texts}
use Rattle.mm_lower.specs.Paths.{Paths}

module _ (paths : Paths) (site : Site) where
  definition_count : (is_pub : Bool) (form : DefinitionForm) → length (definition_parts paths site is_pub form) ≡ definition_size form
  unfolding definition_parts trait_parts definition_size
  definition_count is_pub (definitions.Function f) = refl
  definition_count is_pub (definitions.Closure c) = refl
  definition_count is_pub (definitions.Struct s) = refl
  definition_count is_pub (definitions.Enum e) = refl
  definition_count is_pub (definitions.Trait t) =
      let members = length-map t.methods (method_part paths site is_pub (path_here paths site t.name) (self_name ∷ texts t.type_params)) in omega (arith, members)
  definition_count is_pub (definitions.Static s) = refl
  definition_count is_pub (definitions.Const c) = refl

  impl_count : (type_params : List Name) (form : ImplForm) → length (parts_by_impl paths site type_params form) ≡ impl_size form
  unfolding parts_by_impl impl_parts drop_parts impl_size
  impl_count type_params (impls.Drop i) = refl
  impl_count type_params (impls.Trait i) = let members = length-map i.methods (given_part paths site (path_named i.of.path) (texts type_params)) in omega (arith, members)

  pub part_count : (form : ItemForm) → length (parts_of paths site form) ≡ size form
  unfolding parts_of size
  part_count (forms.Module name) = refl
  part_count (forms.Impl impl) = impl_count impl.type_params impl.form
  part_count (forms.Definition definition) = definition_count definition.is_pub definition.form
