-- The paths of an item and of what stands in it, and their numbers.
use Rattle.std.proofs.Common.{◌≡◌, ℕ, ◌+◌, Bool, true, List, [], ◌∷◌, length, map, Option, None, Some, refl}
use Rattle.std.specs.Prelude.{⊤, All, slice_get}
use Rattle.std.specs.List.{enumerate_from}
use Rattle.std.proofs.lemmas.List.Elements.{All-nil, All-cons}
use Rattle.std.proofs.lemmas.List.Sums.{AllPass-from_list_all}
use Rattle.mm_ast.specs.declared.items.DefinitionForm.{DefinitionForm}
use Rattle.mm_ast.specs.declared.items.DefinitionForm.TheVariants as definitions
use Rattle.mm_ast.specs.declared.items.Enum.{Enum}
use Rattle.mm_ast.specs.declared.items.ItemForm.{ItemForm}
use Rattle.mm_ast.specs.declared.items.ItemForm.TheVariants as forms
use Rattle.mm_ast.specs.declared.items.Method.{Method}
use Rattle.mm_ast.specs.declared.items.Trait.{Trait}
use Rattle.mm_ast.specs.declared.items.Variant.{Variant}
use Rattle.mm_ast.specs.declared.names.Name.{Name}
use Rattle.mm_definitions.specs.declared.kinds.Kind.{Kind}
use Rattle.mm_definitions.specs.declared.kinds.Kind.TheVariants as kinds
use Rattle.mm_definitions.specs.declared.named.Named.{Named}
use Rattle.mm_definitions.specs.Definitions.{variant_named, method_named, enum_named, trait_alone, trait_named, definition_named, form_named}
use Rattle.mm_definitions.specs.Kinds.{named}
use Rattle.mm_definitions.specs.Paths.{path_in}
use Rattle.mm_lower.specs.Paths.{def_id}
use Rattle.mm_names.specs.Runs.{is_name}
use Rattle.mm_resolve.specs.Doubles.{definition_name, form_name}
use Rattle.mm_terms.proofs.ListLemmas.{and_left, and_right, All-slice_get}
use Rattle.mm_written.specs.Items.{written_variant, written_enum, written_method, written_trait, written_definition, written_form}
use Rattle.mm_written.specs.Names.{written_name}
use Rattle.mm_load.proofs.AllPlaces.{All-places}

-- ---- what is said of the names of an item

-- the path of an item with this name
pub record IsOwner (prefix : List ℕ) (item : Option Name) (path : List ℕ) : Type 0 where
  pub name : Name
  pub named : item ≡ Some name
  pub spelled : path ≡ path_in prefix name.text

-- the path of what stands in an item with this name
pub record IsInside (prefix : List ℕ) (item : Option Name) (path : List ℕ) : Type 0 where
  pub owner : Name
  pub named : item ≡ Some owner
  pub name : Name
  pub written : is_name name.text ≡ true
  pub spelled : path ≡ path_in (path_in prefix owner.text) name.text

abbrev pub defined_trait : DefinitionForm → Option Trait
defined_trait (definitions.Trait t) = Some t
defined_trait _ = None

-- the trait that an item is
abbrev pub trait_in : ItemForm → Option Trait
trait_in (forms.Definition definition) = defined_trait definition.form
trait_in _ = None

-- a method of the trait with this number
pub record IsMethodOf (n : ℕ) (tr : Option Trait) (d : Named) : Type 0 where
  pub of : Trait
  pub is : tr ≡ Some of
  pub method : Method
  pub there : slice_get of.methods d.place ≡ Some method
  pub number : d.def ≡ def_id (n + 1 + d.place)
  pub type_params : d.type_params ≡ length method.type_params

abbrev pub IsOf : ℕ → List ℕ → Option Name → Option Trait → Named → Kind → Type 0
IsOf n prefix item tr d kinds.Enum = IsOwner prefix item d.path × (d.def ≡ def_id n)
IsOf n prefix item tr d kinds.Variant = IsInside prefix item d.path × (d.def ≡ def_id n)
IsOf n prefix item tr d kinds.Trait = IsOwner prefix item d.path × (d.def ≡ def_id n)
IsOf n prefix item tr d kinds.Method = IsInside prefix item d.path × IsMethodOf n tr d
IsOf n prefix item tr d _ = ⊤

abbrev Calls : ℕ → List ℕ → Option Name → Option Trait → Named → Type 0
Calls n prefix item tr d = IsOf n prefix item tr d d.kind

-- ---- of each item

module _ (n : ℕ) (prefix : List ℕ) (is_pub : Bool) where
  -- ---- an enum

  variant_is_name : (e : Enum) → written_enum e ≡ true → (place : ℕ) (v : Variant) → slice_get e.variants place ≡ Some v → is_name v.name.text ≡ true
  unfolding written_enum written_variant written_name
  variant_is_name e written place v at =
      let all = AllPass-from_list_all written_variant e.variants (and_right _ _ (and_right _ _ written)) in
      and_left _ _ (All-slice_get (λ w. written_variant w ≡ true) e.variants place v all at)

  variant_calls : (e : Enum) → written_enum e ≡ true → (place : ℕ) (v : Variant) → slice_get e.variants place ≡ Some v → Calls n prefix (Some e.name) None (variant_named n (path_in prefix e.name.text) is_pub (place, v))
  unfolding variant_named
  variant_calls e written place v at = (record { owner = e.name; named = refl; name = v.name; written = variant_is_name e written place v at; spelled = refl }, refl)

  enum_calls : (e : Enum) → written_enum e ≡ true → All (Calls n prefix (Some e.name) None) (enum_named n (path_in prefix e.name.text) is_pub e)
  unfolding enum_named
  enum_calls e written =
      let path = path_in prefix e.name.text in
      let of = Calls n prefix (Some e.name) None in
      All-cons of (named kinds.Enum n 0 path is_pub (length e.type_params) 0) (map (variant_named n path is_pub) (enumerate_from 0 e.variants))
      (record { name = e.name; named = refl; spelled = refl }, refl)
      (All-places of (variant_named n path is_pub) e.variants (variant_calls e written))

  -- ---- a trait

  method_is_name : (t : Trait) → written_trait t ≡ true → (place : ℕ) (m : Method) → slice_get t.methods place ≡ Some m → is_name m.name.text ≡ true
  unfolding written_trait written_method written_name
  method_is_name t written place m at =
      let all = AllPass-from_list_all written_method t.methods (and_right _ _ (and_right _ _ written)) in
      and_left _ _ (and_left _ _ (and_left _ _ (and_left _ _ (All-slice_get (λ w. written_method w ≡ true) t.methods place m all at))))

  method_calls : (t : Trait) → written_trait t ≡ true → (place : ℕ) (m : Method) → slice_get t.methods place ≡ Some m → Calls n prefix (Some t.name) (Some t) (method_named n (path_in prefix t.name.text) is_pub (place, m))
  unfolding method_named
  method_calls t written place m at = (
    record { owner = t.name; named = refl; name = m.name; written = method_is_name t written place m at; spelled = refl },
    record { of = t; is = refl; method = m; there = at; number = refl; type_params = refl },
  )

  trait_calls : (t : Trait) → written_trait t ≡ true → All (Calls n prefix (Some t.name) (Some t)) (trait_named n (path_in prefix t.name.text) is_pub t)
  unfolding trait_named
  trait_calls t written =
      let path = path_in prefix t.name.text in
      let of = Calls n prefix (Some t.name) (Some t) in
      All-cons of (trait_alone n path is_pub t) (map (method_named n path is_pub) (enumerate_from 0 t.methods))
      (record { name = t.name; named = refl; spelled = refl }, refl)
      (All-places of (method_named n path is_pub) t.methods (method_calls t written))

  -- ---- items

  alone : (name : Name) (d : Named) → Calls n prefix (Some name) None d → All (Calls n prefix (Some name) None) (d ∷ [])
  alone name d calls = All-cons (Calls n prefix (Some name) None) d [] calls (All-nil (Calls n prefix (Some name) None))

  definition_calls : (form : DefinitionForm) → written_definition form ≡ true → All (Calls n prefix (Some (definition_name form)) (defined_trait form)) (definition_named n prefix is_pub form)
  unfolding definition_named definition_name written_definition
  definition_calls (definitions.Function f) written = alone f.name (named kinds.Function n 0 (path_in prefix f.name.text) is_pub (length f.type_params) (length f.signature.params)) tt
  definition_calls (definitions.Closure c) written = alone c.name (named kinds.Closure n 0 (path_in prefix c.name.text) is_pub (length c.type_params) (length c.captures)) tt
  definition_calls (definitions.Struct s) written = alone s.name (named kinds.Struct n 0 (path_in prefix s.name.text) is_pub (length s.type_params) (length s.fields)) tt
  definition_calls (definitions.Enum e) written = enum_calls e written
  definition_calls (definitions.Trait t) written = trait_calls t written
  definition_calls (definitions.Static s) written = alone s.name (named kinds.Static n 0 (path_in prefix s.name.text) is_pub 0 0) tt
  definition_calls (definitions.Const c) written = alone c.name (named kinds.Const n 0 (path_in prefix c.name.text) is_pub (length c.type_params) 0) tt

pub form_calls : (n : ℕ) (prefix : List ℕ) (form : ItemForm) → written_form form ≡ true → All (λ d. IsOf n prefix (form_name form) (trait_in form) d d.kind) (form_named n prefix form)
unfolding form_named form_name written_form
form_calls n prefix (forms.Module name) written = All-nil _
form_calls n prefix (forms.Impl impl) written = All-nil _
form_calls n prefix (forms.Definition definition) written = definition_calls n prefix definition.is_pub definition.form written
