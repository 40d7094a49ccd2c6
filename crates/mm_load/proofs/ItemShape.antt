-- The definitions of an item are one and those of its members, which follow it.
use Rattle.std.proofs.Common.{◌≡◌, ℕ, zero, suc, ◌+◌, ◌≤◌, List, [], ◌∷◌, length, map, get_or, Bool, None, Some, refl, sym, subst, ap, arith}
use Rattle.std.proofs.lemmas.List.{length-map}
use Rattle.std.proofs.lemmas.List.Elements.{All-nil, All-cons, All-map}
use Rattle.std.proofs.lemmas.Option.{none-some, same_Some}
use Rattle.std.specs.Prelude.{All, Contains, slice_get}
use Rattle.mm_ast.specs.declared.items.DefinitionForm.{DefinitionForm}
use Rattle.mm_ast.specs.declared.items.DefinitionForm.TheVariants as definitions
use Rattle.mm_ast.specs.declared.items.DropImpl.{DropImpl}
use Rattle.mm_ast.specs.declared.items.ImplForm.{ImplForm}
use Rattle.mm_ast.specs.declared.items.ImplForm.TheVariants as impls
use Rattle.mm_ast.specs.declared.items.ImplMethod.{ImplMethod}
use Rattle.mm_ast.specs.declared.items.ItemForm.{ItemForm}
use Rattle.mm_ast.specs.declared.items.ItemForm.TheVariants as forms
use Rattle.mm_ast.specs.declared.items.Method.{Method}
use Rattle.mm_ast.specs.declared.items.Trait.{Trait}
use Rattle.mm_ast.specs.declared.items.TraitImpl.{TraitImpl}
use Rattle.mm_ast.specs.declared.names.Name.{Name}
use Rattle.mm_definitions.specs.Paths.{path_named}
use Rattle.mm_lower.specs.Items.{Site, ids_behind, path_here, function_part, closure_part, struct_part, enum_part, static_part, const_part, method_part, trait_parts, given_part, impl_parts, drop_method_part, drop_parts, definition_parts, parts_by_impl, parts_of}
use Rattle.mm_lower.specs.Params.{self_name, texts}
use Rattle.mm_lower.specs.Paths.{Paths, def_id}
use Rattle.mm_program.specs.declared.kind.DefKind.TheVariants as kinds
use Rattle.mm_program.specs.declared.parts.DefPart.{DefPart}
use Rattle.mm_program.specs.declared.parts.Parts.{Parts}
use Rattle.mm_program.specs.Valid.{member_kind, FitsKind}
use Rattle.mm_terms.proofs.ListLemmas.{Contains-here, Contains-later}
use Rattle.mm_terms.specs.declared.ids.DefId.{DefId}

-- a member of the definition with the number n
pub record IsMemberPart (n : ℕ) (first m : DefPart) : Type 0 where
  pub kind : m.kind ≡ member_kind first.kind
  pub parent : m.parent ≡ Some (def_id n)
  pub krate : m.krate ≡ first.krate
  pub type_params : first.type_params ≤ m.type_params
  pub methods : m.methods ≡ []
  pub fits : (p : Parts) (d : DefId) → FitsKind p d m m.kind

-- a definition with the number n, and its members
pub record HasShape (n : ℕ) (parts : List DefPart) : Type 0 where
  pub first : DefPart
  pub members : List DefPart
  pub are : parts ≡ first ∷ members
  pub no_parent : first.parent ≡ None
  pub behind : first.methods ≡ ids_behind n members
  pub each : All (IsMemberPart n first) members

-- ---- the numbers of members

module _ {A : Type 0} where
  pub ids_behind-map : {B : Type 0} (f : A → B) (n : ℕ) (xs : List A) → ids_behind n (map f xs) ≡ ids_behind n xs
  ids_behind-map f n [] = refl
  ids_behind-map f n (x ∷ xs) = ap (λ ds. def_id (suc n) ∷ ds) (ids_behind-map f (suc n) xs)

  pub All-ids_behind : (P : DefId → Type 0) (n : ℕ) (xs : List A) → ((k : ℕ) (x : A) → slice_get xs k ≡ Some x → P (def_id (n + suc k))) → All P (ids_behind n xs)
  All-ids_behind P n [] each = All-nil P
  All-ids_behind P n (x ∷ xs) each =
      let e : n + 1 ≡ suc n = omega arith in
      All-cons P (def_id (suc n)) (ids_behind (suc n) xs) (subst (λ k. P (def_id k)) e (each 0 x refl))
      (All-ids_behind P (suc n) xs (λ k y at. let e : n + suc (suc k) ≡ suc n + suc k = omega arith in subst (λ j. P (def_id j)) e (each (suc k) y at)))

  pub id_behind : (n : ℕ) (xs : List A) (k : ℕ) (d : DefId) → slice_get (ids_behind n xs) k ≡ Some d → d.0 ≡ n + suc k
  id_behind n [] k d at = absurd (none-some d at)
  id_behind n (x ∷ xs) zero d at = let same = ap (λ e. e.0) (same_Some (def_id (suc n)) d at) in omega (arith, same)
  id_behind n (x ∷ xs) (suc k) d at = let same = id_behind (suc n) xs k d at in omega (arith, same)

  pub Contains-ids_behind : (n : ℕ) (xs : List A) (k : ℕ) (x : A) → slice_get xs k ≡ Some x → Contains (ids_behind n xs) (def_id (n + suc k))
  Contains-ids_behind n [] k x at = absurd (none-some x at)
  Contains-ids_behind n (y ∷ xs) zero x at =
      let e : suc n ≡ n + 1 = omega arith in
      subst (λ k. Contains (ids_behind n (y ∷ xs)) (def_id k)) e (Contains-here (def_id (suc n)) (ids_behind (suc n) xs))
  Contains-ids_behind n (y ∷ xs) (suc k) x at =
      let e : suc n + suc k ≡ n + suc (suc k) = omega arith in
      subst (λ k. Contains (ids_behind n (y ∷ xs)) (def_id k)) e (Contains-later (def_id (suc n)) (ids_behind (suc n) xs) (def_id (suc n + suc k)) (Contains-ids_behind (suc n) xs k x at))

-- ---- items

shape : (n : ℕ) (first : DefPart) (members : List DefPart) → first.parent ≡ None → first.methods ≡ ids_behind n members → All (IsMemberPart n first) members → HasShape n (first ∷ members)
shape n first members no_parent behind each = record { first = first; members = members; are = refl; no_parent = no_parent; behind = behind; each = each }

alone : (n : ℕ) (part : DefPart) → part.parent ≡ None → part.methods ≡ [] → HasShape n (part ∷ [])
alone n part no_parent no_methods = shape n part [] no_parent no_methods (All-nil (IsMemberPart n part))

members_are : {X : Type 0} (n : ℕ) (first : DefPart) (part : X → DefPart) (xs : List X) → ((x : X) → IsMemberPart n first (part x)) → All (IsMemberPart n first) (map part xs)
members_are n first part xs each = All-map (IsMemberPart n first) part xs (λ k d within. each (get_or xs k d))

module _ (paths : Paths) (site : Site) where
  -- the methods of a trait
  method_is : (is_pub : Bool) (path : List ℕ) (outer : List (List ℕ)) (first : DefPart) → first.kind ≡ kinds.Trait → first.krate ≡ record { 0 = site.krate } → first.type_params ≡ length outer
      → (m : Method) → IsMemberPart site.number first (method_part paths site is_pub path outer m)
  unfolding method_part
  method_is is_pub path outer first of_kind of_crate of_params m = record {
    kind = sym (ap member_kind of_kind);
    parent = refl;
    krate = sym of_crate;
    type_params = omega (arith, of_params);
    methods = refl;
    fits = λ p d. tt;
  }

  trait_shape : (is_pub : Bool) (t : Trait) → HasShape site.number (trait_parts paths site is_pub t)
  unfolding trait_parts
  trait_shape is_pub t =
      let part = method_part paths site is_pub (path_here paths site t.name) (self_name ∷ texts t.type_params) in
      shape site.number _ (map part t.methods) refl (sym (ids_behind-map part site.number t.methods))
      (members_are site.number _ part t.methods (method_is is_pub (path_here paths site t.name) (self_name ∷ texts t.type_params) _ refl refl refl))

  definition_shape : (is_pub : Bool) (form : DefinitionForm) → HasShape site.number (definition_parts paths site is_pub form)
  unfolding definition_parts function_part closure_part struct_part enum_part static_part const_part
  definition_shape is_pub (definitions.Function f) = alone site.number (function_part paths site is_pub f) refl refl
  definition_shape is_pub (definitions.Closure c) = alone site.number (closure_part paths site is_pub c) refl refl
  definition_shape is_pub (definitions.Struct s) = alone site.number (struct_part paths site is_pub s) refl refl
  definition_shape is_pub (definitions.Enum e) = alone site.number (enum_part paths site is_pub e) refl refl
  definition_shape is_pub (definitions.Trait t) = trait_shape is_pub t
  definition_shape is_pub (definitions.Static s) = alone site.number (static_part paths site is_pub s) refl refl
  definition_shape is_pub (definitions.Const c) = alone site.number (const_part paths site is_pub c) refl refl

  -- the methods that an impl gives
  given_is : (tr : List ℕ) (outer : List (List ℕ)) (first : DefPart) → first.kind ≡ kinds.Impl → first.krate ≡ record { 0 = site.krate } → first.type_params ≡ length outer
      → (m : ImplMethod) → IsMemberPart site.number first (given_part paths site tr outer m)
  unfolding given_part
  given_is tr outer first of_kind of_crate of_params m = record {
    kind = sym (ap member_kind of_kind);
    parent = refl;
    krate = sym of_crate;
    type_params = omega (arith, of_params);
    methods = refl;
    fits = λ p d. tt;
  }

  impl_shape : (type_params : List Name) (i : TraitImpl) → HasShape site.number (impl_parts paths site type_params i)
  unfolding impl_parts
  impl_shape type_params i =
      let part = given_part paths site (path_named i.of.path) (texts type_params) in
      shape site.number _ (map part i.methods) refl (sym (ids_behind-map part site.number i.methods))
      (members_are site.number _ part i.methods (given_is (path_named i.of.path) (texts type_params) _ refl refl (sym (length-map type_params (λ name. name.text)))))

  drop_is : (outer : List (List ℕ)) (i : DropImpl) (first : DefPart) → first.kind ≡ kinds.DropImpl → first.krate ≡ record { 0 = site.krate } → first.type_params ≡ length outer
      → IsMemberPart site.number first (drop_method_part paths site outer i)
  unfolding drop_method_part
  drop_is outer i first of_kind of_crate of_params = record {
    kind = sym (ap member_kind of_kind);
    parent = refl;
    krate = sym of_crate;
    type_params = omega (arith, of_params);
    methods = refl;
    fits = λ p d. tt;
  }

  drop_shape : (type_params : List Name) (i : DropImpl) → HasShape site.number (drop_parts paths site type_params i)
  unfolding drop_parts
  drop_shape type_params i =
      shape site.number _ (drop_method_part paths site (texts type_params) i ∷ []) refl refl
      (All-cons (IsMemberPart site.number _) (drop_method_part paths site (texts type_params) i) []
      (drop_is (texts type_params) i _ refl refl (sym (length-map type_params (λ name. name.text))))
      (All-nil (IsMemberPart site.number _)))

  impl_form_shape : (type_params : List Name) (form : ImplForm) → HasShape site.number (parts_by_impl paths site type_params form)
  unfolding parts_by_impl
  impl_form_shape type_params (impls.Trait i) = impl_shape type_params i
  impl_form_shape type_params (impls.Drop i) = drop_shape type_params i

  -- a module has no definition; any other item has this shape
  pub item_shape : (form : ItemForm) (k : ℕ) (part : DefPart) → slice_get (parts_of paths site form) k ≡ Some part → HasShape site.number (parts_of paths site form)
  unfolding parts_of
  item_shape (forms.Module name) k part at = absurd (none-some part at)
  item_shape (forms.Impl impl) k part at = impl_form_shape impl.type_params impl.form
  item_shape (forms.Definition definition) k part at = definition_shape definition.is_pub definition.form
