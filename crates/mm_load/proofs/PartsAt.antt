-- The definitions of an item stand in its crate and its module, and their paths are UTF-8, but for what an impl gives: of these it is asked.
use Rattle.std.proofs.Common.{◌≡◌, ℕ, ◌&&◌, Bool, true, List, [], ◌∷◌, codes, map, get_or, IsUtf8, refl, ap}
use Rattle.std.specs.Prelude.{All, Contains}
use Rattle.std.specs.List.{list_all}
use Rattle.std.proofs.lemmas.List.Elements.{All-nil, All-cons, All-map}
use Rattle.std.proofs.lemmas.List.Sums.{AllPass-from_list_all}
use Rattle.std.proofs.lemmas.Str.{IsUtf8-nil}
use Rattle.mm_ast.specs.declared.items.Definition.{Definition}
use Rattle.mm_ast.specs.declared.items.DefinitionForm.{DefinitionForm}
use Rattle.mm_ast.specs.declared.items.DefinitionForm.TheVariants as definitions
use Rattle.mm_ast.specs.declared.items.DropImpl.{DropImpl}
use Rattle.mm_ast.specs.declared.items.ImplForm.{ImplForm}
use Rattle.mm_ast.specs.declared.items.ImplForm.TheVariants as impls
use Rattle.mm_ast.specs.declared.items.ImplMethod.{ImplMethod}
use Rattle.mm_ast.specs.declared.items.ItemForm.{ItemForm}
use Rattle.mm_ast.specs.declared.items.ItemForm.TheVariants as forms
use Rattle.mm_ast.specs.declared.items.Method.{Method}
use Rattle.mm_ast.specs.declared.items.Trait.{Trait}
use Rattle.mm_ast.specs.declared.items.TraitImpl.{TraitImpl}
use Rattle.mm_ast.specs.declared.names.Name.{Name}
use Rattle.mm_definitions.specs.Paths.{path_named}
use Rattle.mm_lower.specs.Items.{Site, path_here, function_part, closure_part, struct_part, enum_part, static_part, const_part, method_part, trait_parts, given_part, impl_parts, drop_method_part, drop_parts, definition_parts, parts_by_impl, parts_of}
use Rattle.mm_lower.specs.Params.{self_name, texts}
use Rattle.mm_lower.specs.Paths.{Paths}
use Rattle.mm_names.specs.Runs.{is_name}
use Rattle.mm_program.specs.declared.parts.DefPart.{DefPart}
use Rattle.mm_resolve.specs.Doubles.{definition_name, form_name}
use Rattle.mm_terms.proofs.ListLemmas.{and_left, and_right, All-from_contains}
use Rattle.mm_written.specs.Items.{written_method, written_trait, written_definition, written_form}
use Rattle.mm_written.specs.Lists.{few}
use Rattle.mm_written.specs.Names.{written_name, written_names}
use Rattle.mm_load.proofs.ItemParts.{form_named}
use Rattle.mm_load.proofs.TextPaths.{ascii_utf8, path_utf8}

-- the name of a definition is a name
named : (form : DefinitionForm) → written_definition form ≡ true → is_name (definition_name form).text ≡ true
unfolding form_name written_form
named form written = let d : Definition = record { is_pub = true; form = form } in form_named (forms.Definition d) (definition_name form) written refl

method_named : (m : Method) → written_method m ≡ true → is_name m.name.text ≡ true
unfolding written_method written_name
method_named m written = and_left _ _ (and_left _ _ (and_left _ _ (and_left _ _ written)))

methods_written : (t : Trait) → written_trait t ≡ true → list_all written_method t.methods ≡ true
unfolding written_trait
methods_written t written =
    and_right (few t.methods) (list_all written_method t.methods) (and_right (written_name t.name && written_names t.type_params) (few t.methods && list_all written_method t.methods) written)

module _ (paths : Paths) (site : Site) where
  -- it stands where its item stands
  pub record StandsAt (part : DefPart) : Type 0 where
    pub krate : part.krate.0 ≡ site.krate
    pub in_module : part.«module» ≡ site.«module»

  -- what holds of each definition that stands there and has a path which is UTF-8, and of what an impl gives of its trait, holds of all
  -- definitions of an item
  module _ (prefix : IsUtf8 site.prefix) (P : DefPart → Type 0) (by_path : (part : DefPart) → StandsAt part → IsUtf8 part.path → P part) where
    at_site : (part : DefPart) → part.krate.0 ≡ site.krate → part.«module» ≡ site.«module» → IsUtf8 part.path → P part
    at_site part krate in_module utf8 = by_path part (record { krate = krate; in_module = in_module }) utf8

    alone : (part : DefPart) → P part → All P (part ∷ [])
    alone part is = All-cons P part [] is (All-nil P)

    here : (form : DefinitionForm) → written_definition form ≡ true → IsUtf8 (path_here paths site (definition_name form))
    here form written = path_utf8 site.prefix (definition_name form).text prefix (named form written)

    -- ---- definitions

    method_is : (is_pub : Bool) (path : List ℕ) (outer : List (List ℕ)) (m : Method) → IsUtf8 path → written_method m ≡ true → P (method_part paths site is_pub path outer m)
    unfolding method_part
    method_is is_pub path outer m utf8 written = at_site (method_part paths site is_pub path outer m) refl refl (path_utf8 path m.name.text utf8 (method_named m written))

    trait_are : (is_pub : Bool) (t : Trait) → written_trait t ≡ true → IsUtf8 (path_here paths site t.name) → All P (trait_parts paths site is_pub t)
    unfolding trait_parts
    trait_are is_pub t written utf8 =
        let part = method_part paths site is_pub (path_here paths site t.name) (self_name ∷ texts t.type_params) in
        All-cons P _ (map part t.methods) (at_site _ refl refl utf8)
        (All-map P part t.methods
        (λ k d within. method_is is_pub (path_here paths site t.name) (self_name ∷ texts t.type_params) (get_or t.methods k d) utf8
        (AllPass-from_list_all written_method t.methods (methods_written t written) k d within)))

    definition_are : (is_pub : Bool) (form : DefinitionForm) → written_definition form ≡ true → All P (definition_parts paths site is_pub form)
    unfolding definition_parts function_part closure_part struct_part enum_part static_part const_part definition_name written_definition
    definition_are is_pub (definitions.Function f) written = alone (function_part paths site is_pub f) (at_site (function_part paths site is_pub f) refl refl (here (definitions.Function f) written))
    definition_are is_pub (definitions.Closure c) written = alone (closure_part paths site is_pub c) (at_site (closure_part paths site is_pub c) refl refl (here (definitions.Closure c) written))
    definition_are is_pub (definitions.Struct s) written = alone (struct_part paths site is_pub s) (at_site (struct_part paths site is_pub s) refl refl (here (definitions.Struct s) written))
    definition_are is_pub (definitions.Enum e) written = alone (enum_part paths site is_pub e) (at_site (enum_part paths site is_pub e) refl refl (here (definitions.Enum e) written))
    definition_are is_pub (definitions.Trait t) written = trait_are is_pub t written (here (definitions.Trait t) written)
    definition_are is_pub (definitions.Static s) written = alone (static_part paths site is_pub s) (at_site (static_part paths site is_pub s) refl refl (here (definitions.Static s) written))
    definition_are is_pub (definitions.Const c) written = alone (const_part paths site is_pub c) (at_site (const_part paths site is_pub c) refl refl (here (definitions.Const c) written))

    -- ---- impls

    abbrev Given : List Name → TraitImpl → Type 0
    Given type_params i = (m : ImplMethod) → Contains i.methods m → P (given_part paths site (path_named i.of.path) (texts type_params) m)

    impl_are : (type_params : List Name) (i : TraitImpl) → Given type_params i → All P (impl_parts paths site type_params i)
    unfolding impl_parts
    impl_are type_params i given =
        let part = given_part paths site (path_named i.of.path) (texts type_params) in
        All-cons P _ (map part i.methods) (at_site _ refl refl IsUtf8-nil) (All-map P part i.methods (All-from_contains (λ m. P (part m)) i.methods given))

    drop_method_is : (outer : List (List ℕ)) (i : DropImpl) → P (drop_method_part paths site outer i)
    unfolding drop_method_part
    drop_method_is outer i = at_site (drop_method_part paths site outer i) refl refl (ascii_utf8 (codes "Drop::drop") refl)

    drop_are : (type_params : List Name) (i : DropImpl) → All P (drop_parts paths site type_params i)
    unfolding drop_parts
    drop_are type_params i =
        All-cons P _ (drop_method_part paths site (texts type_params) i ∷ []) (at_site _ refl refl IsUtf8-nil)
        (alone (drop_method_part paths site (texts type_params) i) (drop_method_is (texts type_params) i))

    impl_form_are : (type_params : List Name) (form : ImplForm) → ((i : TraitImpl) → form ≡ impls.Trait i → Given type_params i) → All P (parts_by_impl paths site type_params form)
    unfolding parts_by_impl
    impl_form_are type_params (impls.Trait i) given = impl_are type_params i (given i refl)
    impl_form_are type_params (impls.Drop i) given = drop_are type_params i

    pub parts_are : (form : ItemForm) → written_form form ≡ true
        → ((type_params : List Name) (i : TraitImpl) → form ≡ forms.Impl (record { type_params = type_params; form = impls.Trait i }) → Given type_params i)
        → All P (parts_of paths site form)
    unfolding parts_of written_form
    parts_are (forms.Module name) written given = All-nil P
    parts_are (forms.Impl impl) written given =
        impl_form_are impl.type_params impl.form (λ i is. given impl.type_params i (ap (λ form. forms.Impl (record { type_params = impl.type_params; form = form })) is))
    parts_are (forms.Definition definition) written given = definition_are definition.is_pub definition.form written
