-- What an item is called is in the program as is said of it, where the definitions of the item stand at their numbers.
use Rattle.std.proofs.Common.{◌≡◌, ℕ, ◌+◌, suc, Bool, List, [], ◌∷◌, ◌++◌, length, map, Some, refl, sym, ap, ◌∙◌}
use Rattle.std.specs.Prelude.{All, slice_get}
use Rattle.std.specs.List.{enumerate_from}
use Rattle.std.specs.Option.{option_map}
use Rattle.std.proofs.lemmas.List.{length-map}
use Rattle.std.proofs.lemmas.List.Elements.{All-nil, All-cons}
use Rattle.std.proofs.lemmas.Option.{slice_get-map}
use Rattle.mm_ast.specs.declared.items.Closure.{Closure}
use Rattle.mm_ast.specs.declared.items.Const.{Const}
use Rattle.mm_ast.specs.declared.items.DefinitionForm.{DefinitionForm}
use Rattle.mm_ast.specs.declared.items.DefinitionForm.TheVariants as definitions
use Rattle.mm_ast.specs.declared.items.Enum.{Enum}
use Rattle.mm_ast.specs.declared.items.Function.{Function}
use Rattle.mm_ast.specs.declared.items.ItemForm.{ItemForm}
use Rattle.mm_ast.specs.declared.items.ItemForm.TheVariants as forms
use Rattle.mm_ast.specs.declared.items.Method.{Method}
use Rattle.mm_ast.specs.declared.items.Static.{Static}
use Rattle.mm_ast.specs.declared.items.Struct.{Struct}
use Rattle.mm_ast.specs.declared.items.Trait.{Trait}
use Rattle.mm_ast.specs.declared.items.Variant.{Variant}
use Rattle.mm_ast.specs.declared.types.Type as types
use Rattle.mm_definitions.specs.declared.kinds.Kind.TheVariants as kinds
use Rattle.mm_definitions.specs.declared.named.Named.{Named}
use Rattle.mm_definitions.specs.Definitions.{variant_named, method_named, enum_named, trait_alone, trait_named, definition_named, form_named}
use Rattle.mm_definitions.specs.Kinds.{named}
use Rattle.mm_definitions.specs.Paths.{path_in}
use Rattle.mm_lower.specs.Items.{Site, function_part, closure_part, struct_part, enum_part, static_part, const_part, method_part, trait_parts, definition_parts, parts_of}
use Rattle.mm_lower.specs.Params.{Params, numbered, self_name, texts}
use Rattle.mm_lower.specs.Paths.{Paths, def_id}
use Rattle.mm_lower.specs.Types.{type_of, types_of}
use Rattle.mm_program.specs.declared.parts.Parts.{Parts}
use Rattle.mm_program.specs.Views.{params_of}
use Rattle.mm_terms.specs.declared.tree.Tree.{Tree}
use Rattle.mm_load.specs.Leads.{IsAs}
use Rattle.mm_load.proofs.AllPlaces.{All-places}
use Rattle.mm_load.proofs.PartsStand.{Stands, Stand, first_stands, later_stands, kind_is, type_params_are, params_are, variants_are, path_is}

abbrev pub Said : Parts → Named → Type 0
Said p d = IsAs p d d.kind

module _ (p : Parts) (paths : Paths) (site : Site) where
  -- as many types as are written
  as_many : (params : Params) (written : List types.«Type») (found : List Tree) → found ≡ types_of paths params written → length written ≡ length found
  as_many params written found is = sym (length-map written (type_of paths params)) ∙ ap length (sym is)

  -- ---- one definition

  function_said : (is_pub : Bool) (f : Function) → Stands p site.number (function_part paths site is_pub f)
      → Said p (named kinds.Function site.number 0 (path_in site.prefix f.name.text) is_pub (length f.type_params) (length f.signature.params))
  unfolding function_part
  function_said is_pub f stands =
      (kind_is stands, sym (type_params_are stands), as_many (numbered (texts f.type_params)) f.signature.params (params_of p (def_id site.number)) (params_are stands))

  closure_said : (is_pub : Bool) (c : Closure) → Stands p site.number (closure_part paths site is_pub c)
      → Said p (named kinds.Closure site.number 0 (path_in site.prefix c.name.text) is_pub (length c.type_params) (length c.captures))
  unfolding closure_part
  closure_said is_pub c stands =
      let fields = types_of paths (numbered (texts c.type_params)) c.captures in
      (kind_is stands, sym (type_params_are stands), record { fields = fields; there = ap (λ vs. slice_get vs 0) (variants_are stands); as_many = as_many (numbered (texts c.type_params)) c.captures fields refl })

  struct_said : (is_pub : Bool) (s : Struct) → Stands p site.number (struct_part paths site is_pub s)
      → Said p (named kinds.Struct site.number 0 (path_in site.prefix s.name.text) is_pub (length s.type_params) (length s.fields))
  unfolding struct_part
  struct_said is_pub s stands =
      let fields = types_of paths (numbered (texts s.type_params)) s.fields in
      (kind_is stands, sym (type_params_are stands), record { fields = fields; there = ap (λ vs. slice_get vs 0) (variants_are stands); as_many = as_many (numbered (texts s.type_params)) s.fields fields refl })

  static_said : (is_pub : Bool) (s : Static) → Stands p site.number (static_part paths site is_pub s) → Said p (named kinds.Static site.number 0 (path_in site.prefix s.name.text) is_pub 0 0)
  unfolding static_part
  static_said is_pub s stands = kind_is stands

  const_said : (is_pub : Bool) (c : Const) → Stands p site.number (const_part paths site is_pub c) → Said p (named kinds.Const site.number 0 (path_in site.prefix c.name.text) is_pub (length c.type_params) 0)
  unfolding const_part
  const_said is_pub c stands = (kind_is stands, sym (type_params_are stands))

  -- ---- an enum and its variants

  module _ (is_pub : Bool) (e : Enum) (stands : Stands p site.number (enum_part paths site is_pub e)) where
    variant_said : (path : List ℕ) (place : ℕ) (v : Variant) → slice_get e.variants place ≡ Some v → Said p (variant_named site.number path is_pub (place, v))
    unfolding variant_named enum_part
    variant_said path place v at =
        let params = numbered (texts e.type_params) in
        let fields = λ (w : Variant). types_of paths params w.fields in (
          kind_is stands,
          record {
            fields = fields v;
            there = ap (λ vs. slice_get vs place) (variants_are stands) ∙ slice_get-map fields e.variants place ∙ ap (option_map fields) at;
            as_many = as_many params v.fields (fields v) refl;
          },
        )

    enum_said : All (Said p) (enum_named site.number (path_in site.prefix e.name.text) is_pub e)
    unfolding enum_named enum_part
    enum_said =
        let path = path_in site.prefix e.name.text in
        All-cons (Said p) (named kinds.Enum site.number 0 path is_pub (length e.type_params) 0) (map (variant_named site.number path is_pub) (enumerate_from 0 e.variants))
        (kind_is stands, sym (type_params_are stands))
        (All-places (Said p) (variant_named site.number path is_pub) e.variants (variant_said path))

  -- ---- a trait and its methods

  module _ (is_pub : Bool) (t : Trait) (stand : Stand p site.number (trait_parts paths site is_pub t)) where
    trait_itself : Said p (trait_alone site.number (path_in site.prefix t.name.text) is_pub t)
    unfolding trait_parts
    trait_itself =
        let stands = first_stands p site.number _ _ stand in
        (kind_is stands, ap suc (sym (length-map t.type_params (λ name. name.text))) ∙ sym (type_params_are stands))

    method_said : (place : ℕ) (m : Method) → slice_get t.methods place ≡ Some m → Said p (method_named site.number (path_in site.prefix t.name.text) is_pub (place, m))
    unfolding trait_parts method_part method_named
    method_said place m at =
        let outer = self_name ∷ texts t.type_params in
        let stands = later_stands p site.number _ (method_part paths site is_pub (path_in site.prefix t.name.text) outer) t.methods stand place m at in
        (kind_is stands, as_many (numbered (outer ++ texts m.type_params)) m.signature.params (params_of p (def_id (site.number + 1 + place))) (params_are stands), sym (path_is stands))

    trait_said : All (Said p) (trait_named site.number (path_in site.prefix t.name.text) is_pub t)
    unfolding trait_named
    trait_said =
        let path = path_in site.prefix t.name.text in
        All-cons (Said p) (trait_alone site.number path is_pub t) (map (method_named site.number path is_pub) (enumerate_from 0 t.methods))
        trait_itself
        (All-places (Said p) (method_named site.number path is_pub) t.methods method_said)

  -- ---- items

  alone : (d : Named) → Said p d → All (Said p) (d ∷ [])
  alone d said = All-cons (Said p) d [] said (All-nil (Said p))

  definition_said : (is_pub : Bool) (form : DefinitionForm) → Stand p site.number (definition_parts paths site is_pub form) → All (Said p) (definition_named site.number site.prefix is_pub form)
  unfolding definition_parts definition_named
  definition_said is_pub (definitions.Function f) stand = alone _ (function_said is_pub f (first_stands p site.number _ [] stand))
  definition_said is_pub (definitions.Closure c) stand = alone _ (closure_said is_pub c (first_stands p site.number _ [] stand))
  definition_said is_pub (definitions.Struct s) stand = alone _ (struct_said is_pub s (first_stands p site.number _ [] stand))
  definition_said is_pub (definitions.Enum e) stand = enum_said is_pub e (first_stands p site.number _ [] stand)
  definition_said is_pub (definitions.Trait t) stand = trait_said is_pub t stand
  definition_said is_pub (definitions.Static s) stand = alone _ (static_said is_pub s (first_stands p site.number _ [] stand))
  definition_said is_pub (definitions.Const c) stand = alone _ (const_said is_pub c (first_stands p site.number _ [] stand))

  -- each name of an item is as is said of it
  pub form_said : (form : ItemForm) → Stand p site.number (parts_of paths site form) → All (Said p) (form_named site.number site.prefix form)
  unfolding parts_of form_named
  form_said (forms.Module name) stand = All-nil (Said p)
  form_said (forms.Impl impl) stand = All-nil (Said p)
  form_said (forms.Definition definition) stand = definition_said definition.is_pub definition.form stand
