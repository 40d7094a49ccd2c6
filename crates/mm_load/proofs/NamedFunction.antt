-- What an item is called as a function: the item has this name.
use Rattle.std.proofs.Common.{◌≡◌, ℕ, Bool, List, [], ◌∷◌, length, map, Some, refl, ap, ◌∙◌}
use Rattle.std.specs.Prelude.{All}
use Rattle.std.specs.List.{enumerate_from}
use Rattle.std.proofs.lemmas.List.Elements.{All-nil, All-cons, All-map}
use Rattle.mm_ast.specs.declared.items.Definition.{Definition}
use Rattle.mm_ast.specs.declared.items.DefinitionForm.{DefinitionForm}
use Rattle.mm_ast.specs.declared.items.DefinitionForm.TheVariants as definitions
use Rattle.mm_ast.specs.declared.items.Function.{Function}
use Rattle.mm_ast.specs.declared.items.ItemForm.{ItemForm}
use Rattle.mm_ast.specs.declared.items.ItemForm.TheVariants as forms
use Rattle.mm_ast.specs.declared.names.Name.{Name}
use Rattle.mm_definitions.specs.Definitions.{variant_named, method_named, enum_named, trait_named, definition_named, form_named}
use Rattle.mm_definitions.specs.Kinds.{named}
use Rattle.mm_definitions.specs.Paths.{path_in}
use Rattle.mm_definitions.specs.declared.kinds.Kind.TheVariants as kinds
use Rattle.mm_definitions.specs.declared.named.Named.{Named}
use Rattle.mm_resolve.specs.Doubles.{definition_name, form_name}

-- its path is that of the item
pub record IsNameOf (prefix : List ℕ) (form : ItemForm) (d : Named) : Type 0 where
  pub name : Name
  pub named : form_name form ≡ Some name
  pub spelled : d.path ≡ path_in prefix name.text

-- wherever it is a function
abbrev IfFunction : List ℕ → ItemForm → Named → Type 0
IfFunction prefix form d = d.kind ≡ kinds.Function → IsNameOf prefix form d

module _ (n : ℕ) (prefix : List ℕ) (is_pub : Bool) (whole : Definition) where
  abbrev P : Named → Type 0
  P = IfFunction prefix (forms.Definition whole)

  only : (d : Named) → P d → All P (d ∷ [])
  only d is = All-cons P d [] is (All-nil P)

  definition_functions : (form : DefinitionForm) → whole.form ≡ form → All P (definition_named n prefix is_pub form)
  unfolding definition_named enum_named variant_named trait_named method_named form_name definition_name
  definition_functions (definitions.Function f) is = only _ (λ of_kind. record { name = f.name; named = ap (λ form. Some (definition_name form)) is; spelled = refl })
  definition_functions (definitions.Closure c) is = only _ (λ of_kind. absurd (cc of_kind))
  definition_functions (definitions.Struct s) is = only _ (λ of_kind. absurd (cc of_kind))
  definition_functions (definitions.Enum e) is =
      let variants = enumerate_from 0 e.variants in
      All-cons P _ (map (variant_named n (path_in prefix e.name.text) is_pub) variants) (λ of_kind. absurd (cc of_kind))
      (All-map P (variant_named n (path_in prefix e.name.text) is_pub) variants (λ k d within of_kind. absurd (cc of_kind)))
  definition_functions (definitions.Trait t) is =
      let methods = enumerate_from 0 t.methods in
      All-cons P _ (map (method_named n (path_in prefix t.name.text) is_pub) methods) (λ of_kind. absurd (cc of_kind))
      (All-map P (method_named n (path_in prefix t.name.text) is_pub) methods (λ k d within of_kind. absurd (cc of_kind)))
  definition_functions (definitions.Static s) is = only _ (λ of_kind. absurd (cc of_kind))
  definition_functions (definitions.Const c) is = only _ (λ of_kind. absurd (cc of_kind))

pub functions_named : (n : ℕ) (prefix : List ℕ) (form : ItemForm) → All (λ d. d.kind ≡ kinds.Function → IsNameOf prefix form d) (form_named n prefix form)
unfolding form_named
functions_named n prefix (forms.Module name) = All-nil (IfFunction prefix (forms.Module name))
functions_named n prefix (forms.Impl impl) = All-nil (IfFunction prefix (forms.Impl impl))
functions_named n prefix (forms.Definition definition) = definition_functions n prefix definition.is_pub definition definition.form refl

-- a function has one name
pub function_named : (n : ℕ) (prefix : List ℕ) (form : ItemForm) (definition : Definition) (f : Function) → form ≡ forms.Definition definition → definition.form ≡ definitions.Function f
    → form_named n prefix form ≡ named kinds.Function n 0 (path_in prefix f.name.text) definition.is_pub (length f.type_params) (length f.signature.params) ∷ []
unfolding form_named definition_named
function_named n prefix form definition f is of = ap (form_named n prefix) is ∙ ap (definition_named n prefix definition.is_pub) of
