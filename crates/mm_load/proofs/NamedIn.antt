-- What a mentioned path leads to: a definition of the program, with as many type parameters and operands as are written.
use Rattle.std.proofs.Common.{◌≡◌, ℕ, suc, ◌⊎◌, inl, inr, List, [], ◌∷◌, length, Some, sym, ap, subst, ◌∙◌}
use Rattle.std.specs.declared.option.Option.{Option}
use Rattle.std.specs.Option.{option_map, option_map_or}
use Rattle.std.proofs.lemmas.Bool.{eqb-true}
use Rattle.std.proofs.lemmas.List.Elements.{All-head}
use Rattle.mm_ast.specs.declared.names.Name.{Name}
use Rattle.mm_ast.specs.declared.names.Path.{Path}
use Rattle.mm_definitions.specs.declared.kinds.Kind.{Kind}
use Rattle.mm_definitions.specs.declared.kinds.Kind.TheVariants as kinds
use Rattle.mm_definitions.specs.declared.kinds.Wanted.{Wanted}
use Rattle.mm_definitions.specs.declared.kinds.Wanted.TheVariants as wants
use Rattle.mm_definitions.specs.Paths.{path_in, path_named}
use Rattle.mm_lower.specs.Paths.{def_at, def_id}
use Rattle.mm_mentions.specs.declared.mention.Mention.{Mention}
use Rattle.mm_mentions.specs.Mentions.{path_at, member_at}
use Rattle.mm_program.specs.declared.kind.DefKind.TheVariants as kind
use Rattle.mm_program.specs.declared.parts.Parts.{Parts}
use Rattle.mm_program.specs.Kinds.{is_data, has_fields}
use Rattle.mm_program.specs.Views.{IsOfKind, IsOfKinds, type_params_of, params_of}
use Rattle.mm_resolve.specs.Scopes.{Scope, leads_to}
use Rattle.mm_rules.specs.MentionRules.{broken}
use Rattle.mm_load.specs.Leads.{Leads, Kept, IsAs, HasFields}
use Rattle.mm_load.proofs.PathsIn.{Found, found_at}

-- what the first mention leads to, where it is of a path
pub path_kept : (scope : Scope) (w : Wanted) (path : Path) (a : ℕ) (o : Option ℕ) (others : List Mention) → Kept scope (path_at w path a o ∷ others) → Found scope w (path_named path) a o
path_kept scope w path a o others kept =
    found_at scope (record { wanted = w; path = path_named path; type_args = a; operands = o }) (All-head (λ m. broken scope m.what ≡ []) (path_at w path a o) others kept)

-- the same of a variant or a method
pub member_kept : (scope : Scope) (w : Wanted) (path : Path) (name : Name) (a : ℕ) (o : Option ℕ) (others : List Mention) → Kept scope (member_at w path name a o ∷ others)
    → Found scope w (path_in (path_named path) name.text) a o
member_kept scope w path name a o others kept =
    found_at scope (record { wanted = w; path = path_in (path_named path) name.text; type_args = a; operands = o }) (All-head (λ m. broken scope m.what ≡ []) (member_at w path name a o) others kept)

-- as many operands as are written
pub operands_found : (scope : Scope) (w : Wanted) (path : List ℕ) (a k : ℕ) (f : Found scope w path a (Some k)) → k ≡ f.to.operands
operands_found scope w path a k f = eqb-true k f.to.operands f.as_many

module _ (p : Parts) (scope : Scope) (leads : Leads p (leads_to scope)) where
  -- its number is the one in the program
  pub def_is : (w : Wanted) (path : List ℕ) (a : ℕ) (o : Option ℕ) (f : Found scope w path a o) → def_at (leads_to scope) w path ≡ f.to.def
  def_is w path a o f = ap (λ d. option_map_or (λ x. x.def) d (def_id 0)) f.leads

  -- it is as is said of what is of its kind
  pub is_as : (k : Kind) (path : List ℕ) (a : ℕ) (o : Option ℕ) (f : Found scope (wants.One k) path a o) → IsAs p f.to k
  is_as k path a o f = subst (IsAs p f.to) (leads.wanted (wants.One k) path f.to f.leads) (leads.named (wants.One k) path f.to f.leads)

  pub function_in : (path : List ℕ) (a : ℕ) (o : Option ℕ) → Found scope (wants.One kinds.Function) path a o
      → IsOfKind p (def_at (leads_to scope) (wants.One kinds.Function) path) kind.Fn × (a ≡ type_params_of p (def_at (leads_to scope) (wants.One kinds.Function) path))
  function_in path a o f =
      let held = is_as kinds.Function path a o f in
      subst (λ d. IsOfKind p d kind.Fn × (a ≡ type_params_of p d)) (sym (def_is (wants.One kinds.Function) path a o f)) (held.0, f.type_params ∙ held.1)

  pub function_takes : (path : List ℕ) (a k : ℕ) → Found scope (wants.One kinds.Function) path a (Some k) → k ≡ length (params_of p (def_at (leads_to scope) (wants.One kinds.Function) path))
  function_takes path a k f =
      let held = is_as kinds.Function path a (Some k) f in
      subst (λ d. k ≡ length (params_of p d)) (sym (def_is (wants.One kinds.Function) path a (Some k) f)) (operands_found scope (wants.One kinds.Function) path a k f ∙ held.2)

  pub closure_in : (path : List ℕ) (a : ℕ) (o : Option ℕ) → Found scope (wants.One kinds.Closure) path a o
      → IsOfKind p (def_at (leads_to scope) (wants.One kinds.Closure) path) kind.Closure × (a ≡ type_params_of p (def_at (leads_to scope) (wants.One kinds.Closure) path))
  closure_in path a o f =
      let held = is_as kinds.Closure path a o f in
      subst (λ d. IsOfKind p d kind.Closure × (a ≡ type_params_of p d)) (sym (def_is (wants.One kinds.Closure) path a o f)) (held.0, f.type_params ∙ held.1)

  -- a trait has `Self` besides
  pub trait_named : (path : List ℕ) (a : ℕ) (o : Option ℕ) → Found scope (wants.One kinds.Trait) path a o
      → IsOfKind p (def_at (leads_to scope) (wants.One kinds.Trait) path) kind.Trait × (suc a ≡ type_params_of p (def_at (leads_to scope) (wants.One kinds.Trait) path))
  trait_named path a o f =
      let held = is_as kinds.Trait path a o f in
      subst (λ d. IsOfKind p d kind.Trait × (suc a ≡ type_params_of p d)) (sym (def_is (wants.One kinds.Trait) path a o f)) (held.0, ap suc f.type_params ∙ held.1)

  pub const_in : (path : List ℕ) (a : ℕ) (o : Option ℕ) → Found scope (wants.One kinds.Const) path a o
      → IsOfKind p (def_at (leads_to scope) (wants.One kinds.Const) path) kind.Const × (a ≡ type_params_of p (def_at (leads_to scope) (wants.One kinds.Const) path))
  const_in path a o f =
      let held = is_as kinds.Const path a o f in
      subst (λ d. IsOfKind p d kind.Const × (a ≡ type_params_of p d)) (sym (def_is (wants.One kinds.Const) path a o f)) (held.0, f.type_params ∙ held.1)

  pub static_in : (path : List ℕ) (a : ℕ) (o : Option ℕ) → Found scope (wants.One kinds.Static) path a o → IsOfKind p (def_at (leads_to scope) (wants.One kinds.Static) path) kind.Static
  static_in path a o f = subst (λ d. IsOfKind p d kind.Static) (sym (def_is (wants.One kinds.Static) path a o f)) (is_as kinds.Static path a o f)

  -- a struct or an enum
  pub adt_in : (path : List ℕ) (a : ℕ) (o : Option ℕ) → Found scope wants.Adt path a o
      → IsOfKinds p (def_at (leads_to scope) wants.Adt path) is_data × (a ≡ type_params_of p (def_at (leads_to scope) wants.Adt path))
  adt_in path a o f = subst (λ d. IsOfKinds p d is_data × (a ≡ type_params_of p d)) (sym (def_is wants.Adt path a o f)) (by_kind (leads.wanted wants.Adt path f.to f.leads))
    where
      by_kind : (f.to.kind ≡ kinds.Struct) ⊎ (f.to.kind ≡ kinds.Enum) → IsOfKinds p f.to.def is_data × (a ≡ type_params_of p f.to.def)
      by_kind (inl is) = let held : IsAs p f.to kinds.Struct = subst (IsAs p f.to) is (leads.named wants.Adt path f.to f.leads) in (ap (option_map is_data) held.0, f.type_params ∙ held.1)
      by_kind (inr is) = let held : IsAs p f.to kinds.Enum = subst (IsAs p f.to) is (leads.named wants.Adt path f.to f.leads) in (ap (option_map is_data) held.0, f.type_params ∙ held.1)

  -- an enum of which a variant is made
  pub enum_in : (path : List ℕ) (a : ℕ) (o : Option ℕ) → Found scope (wants.One kinds.Enum) path a o
      → IsOfKinds p (def_at (leads_to scope) (wants.One kinds.Enum) path) has_fields × (a ≡ type_params_of p (def_at (leads_to scope) (wants.One kinds.Enum) path))
  enum_in path a o f =
      let held = is_as kinds.Enum path a o f in
      subst (λ d. IsOfKinds p d has_fields × (a ≡ type_params_of p d)) (sym (def_is (wants.One kinds.Enum) path a o f)) (ap (option_map has_fields) held.0, f.type_params ∙ held.1)

  -- a struct or a closure, made of so many operands
  pub whole_in : (path : List ℕ) (a k : ℕ) → Found scope wants.Whole path a (Some k)
      → IsOfKinds p (def_at (leads_to scope) wants.Whole path) has_fields × (a ≡ type_params_of p (def_at (leads_to scope) wants.Whole path)) × HasFields p (def_at (leads_to scope) wants.Whole path) 0 k
  whole_in path a k f =
      subst (λ d. IsOfKinds p d has_fields × (a ≡ type_params_of p d) × HasFields p d 0 k) (sym (def_is wants.Whole path a (Some k) f)) (by_kind (leads.wanted wants.Whole path f.to f.leads))
    where
      as_many : HasFields p f.to.def 0 f.to.operands → HasFields p f.to.def 0 k
      as_many has = record { fields = has.fields; there = has.there; as_many = operands_found scope wants.Whole path a k f ∙ has.as_many }

      by_kind : (f.to.kind ≡ kinds.Struct) ⊎ (f.to.kind ≡ kinds.Closure) → IsOfKinds p f.to.def has_fields × (a ≡ type_params_of p f.to.def) × HasFields p f.to.def 0 k
      by_kind (inl is) =
          let held : IsAs p f.to kinds.Struct = subst (IsAs p f.to) is (leads.named wants.Whole path f.to f.leads) in
          (ap (option_map has_fields) held.0, f.type_params ∙ held.1, as_many held.2)
      by_kind (inr is) =
          let held : IsAs p f.to kinds.Closure = subst (IsAs p f.to) is (leads.named wants.Whole path f.to f.leads) in
          (ap (option_map has_fields) held.0, f.type_params ∙ held.1, as_many held.2)
