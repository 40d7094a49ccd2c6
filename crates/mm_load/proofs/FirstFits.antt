-- The first definition of an item fits its kind: an impl gives methods of its trait, and a Drop impl has the method of one.
use Rattle.std.proofs.Common.{◌≡◌, ℕ, suc, ◌+◌, ◌≤◌, Bool, List, [], length, map, option_map, refl, sym, subst, ap, ◌∙◌, arith}
use Rattle.std.proofs.lemmas.List.{length-map}
use Rattle.std.proofs.lemmas.List.Elements.{All-nil, All-cons}
use Rattle.std.proofs.lemmas.Option.{none-some, same_Some, slice_get-map}
use Rattle.std.specs.Prelude.{Contains, Some, true, slice_get}
use Rattle.mm_ast.specs.declared.items.Ast.{Ast}
use Rattle.mm_ast.specs.declared.items.DefinitionForm.{DefinitionForm}
use Rattle.mm_ast.specs.declared.items.DefinitionForm.TheVariants as definitions
use Rattle.mm_ast.specs.declared.items.DropImpl.{DropImpl}
use Rattle.mm_ast.specs.declared.items.ImplForm.{ImplForm}
use Rattle.mm_ast.specs.declared.items.ImplForm.TheVariants as impls
use Rattle.mm_ast.specs.declared.items.ImplMethod.{ImplMethod}
use Rattle.mm_ast.specs.declared.items.ItemForm.{ItemForm}
use Rattle.mm_ast.specs.declared.items.ItemForm.TheVariants as forms
use Rattle.mm_ast.specs.declared.items.TraitImpl.{TraitImpl}
use Rattle.mm_ast.specs.declared.names.Name.{Name}
use Rattle.mm_definitions.specs.Paths.{path_named}
use Rattle.mm_definitions.specs.declared.kinds.Kind.TheVariants as kinds
use Rattle.mm_definitions.specs.declared.kinds.Wanted.TheVariants as wants
use Rattle.mm_lower.specs.Items.{Site, function_part, closure_part, struct_part, enum_part, static_part, const_part, trait_parts, given_part, impl_parts, drop_method_part, drop_parts, definition_parts, parts_by_impl, parts_of}
use Rattle.mm_lower.specs.Params.{texts}
use Rattle.mm_lower.specs.Paths.{Paths, def_id, def_at}
use Rattle.mm_lower.specs.Types.{trait_of}
use Rattle.mm_mentions.specs.ItemMentions.{form_mentions}
use Rattle.mm_program.specs.declared.parts.DefPart.{DefPart}
use Rattle.mm_program.specs.declared.parts.Parts.{Parts}
use Rattle.mm_program.specs.Valid.{GivesMethod, IsDropMethod, FitsKind}
use Rattle.mm_program.specs.Views.{shown, type_params_of}
use Rattle.mm_resolve.specs.Scopes.{leads_to}
use Rattle.mm_rules.specs.TreeFaults.{KeepsRules}
use Rattle.mm_terms.specs.declared.ids.DefId.{DefId}
use Rattle.mm_written.specs.Items.{written_form}
use Rattle.mm_written.specs.Written.{is_written}
use Rattle.mm_load.specs.Drops.{with_drop}
use Rattle.mm_load.specs.Leads.{Kept}
use Rattle.mm_load.specs.Located.{Located, items_of, site}
use Rattle.mm_load.specs.Meaning.{parts_at, all_parts, program_of}
use Rattle.mm_load.specs.Modules.{modules_of}
use Rattle.mm_load.proofs.GivesIn.{Contains-at, gives_method, trait_asked, method_asked, name_written}
use Rattle.mm_load.proofs.InProgram.{shown_at}
use Rattle.mm_load.proofs.ItemShape.{All-ids_behind}
use Rattle.mm_load.proofs.LocatedIn.{is_kept, is_written_form}
use Rattle.mm_load.proofs.TextLeads.{text_leads}

-- a definition that is no impl
definition_fits : (p : Parts) (d : DefId) (paths : Paths) (s : Site) (is_pub : Bool) (form : DefinitionForm) (part : DefPart) → slice_get (definition_parts paths s is_pub form) 0 ≡ Some part → FitsKind p d part part.kind
unfolding definition_parts function_part closure_part struct_part enum_part trait_parts static_part const_part
definition_fits p d paths s is_pub (definitions.Function f) part at = subst (λ q. FitsKind p d q q.kind) (same_Some (function_part paths s is_pub f) part at) tt
definition_fits p d paths s is_pub (definitions.Closure c) part at =
    let first : 1 ≤ length (closure_part paths s is_pub c).params = omega arith in
    subst (λ q. FitsKind p d q q.kind) (same_Some (closure_part paths s is_pub c) part at) first
definition_fits p d paths s is_pub (definitions.Struct t) part at = subst (λ q. FitsKind p d q q.kind) (same_Some (struct_part paths s is_pub t) part at) tt
definition_fits p d paths s is_pub (definitions.Enum e) part at = subst (λ q. FitsKind p d q q.kind) (same_Some (enum_part paths s is_pub e) part at) tt
definition_fits p d paths s is_pub (definitions.Trait t) part at = subst (λ q. FitsKind p d q q.kind) (same_Some _ part at) (omega arith)
definition_fits p d paths s is_pub (definitions.Static t) part at = subst (λ q. FitsKind p d q q.kind) (same_Some (static_part paths s is_pub t) part at) refl
definition_fits p d paths s is_pub (definitions.Const c) part at = subst (λ q. FitsKind p d q q.kind) (same_Some (const_part paths s is_pub c) part at) tt

module _ (tree : Ast) (written : is_written tree ≡ true) (kept : KeepsRules tree) (l : Located) (has : Contains (items_of tree.crates) l) where
  abbrev p : Parts
  p = program_of tree.crates

  abbrev paths : Paths
  paths = leads_to l.scope

  abbrev here : Site
  here = site (modules_of tree.crates) l

  -- the program's view of the part at a place, where this is the form of the item
  shows : (form : ItemForm) → l.form ≡ form → (k : ℕ) (part : DefPart) → slice_get (parts_of paths here form) k ≡ Some part → (n : ℕ) → n ≡ l.number + k
      → {A : Type 0} (f : DefPart → A) (none : A) → shown f none p (def_id n) ≡ f (with_drop (all_parts tree.crates) (l.number + k, part))
  shows form is k part at n same f none = shown_at tree.crates l k part has (ap (λ form. slice_get (parts_of paths here form) k) is ∙ at) n same f none

  module _ (type_params : List Name) where
    -- ---- impls of traits

    module _ (i : TraitImpl) (is : l.form ≡ forms.Impl (record { type_params = type_params; form = impls.Trait i })) where
      gives_at : (k : ℕ) (m : ImplMethod) → slice_get i.methods k ≡ Some m → GivesMethod p (def_id l.number) (def_id (l.number + suc k)) (def_at paths (wants.One kinds.Trait) (path_named i.of.path))
      unfolding parts_of parts_by_impl impl_parts given_part with_drop
      gives_at k m at =
          let asks = is_kept tree l kept has in
          let asked = subst (λ form. Kept l.scope (form_mentions asks.krate asks.line form)) is asks.kept in
          let named = name_written type_params i (ap written_form (sym is) ∙ is_written_form tree l written has) k m at in
          let part = given_part paths here (path_named i.of.path) (texts type_params) in
          let form = forms.Impl (record { type_params = type_params; form = impls.Trait i }) in
          let part_there : slice_get (map part i.methods) k ≡ Some (part m) = slice_get-map part i.methods k ∙ ap (option_map part) at in
          let as_many = length-map type_params (λ name. name.text) in
          let of_impl : type_params_of p (def_id l.number) ≡ length type_params = shows form is 0 _ refl l.number (omega arith) (λ q. q.type_params) 0 in
          let of_method : type_params_of p (def_id (l.number + suc k)) ≡ length (texts type_params) + length m.function.type_params = shows form is (suc k) (part m) part_there (l.number + suc k) refl (λ q. q.type_params) 0 in
          gives_method p l.scope (text_leads tree written kept l has) (path_named i.of.path) m.function.name named (def_id l.number) (def_id (l.number + suc k))
          (length i.of.args) (length m.function.type_params) (length m.function.signature.params)
          (trait_asked l.scope asks.krate asks.line type_params i asked)
          (method_asked l.scope asks.krate asks.line type_params i asked m (Contains-at i.methods k m at))
          (shows form is (suc k) (part m) part_there (l.number + suc k) refl (λ q. q.path) [])
          (omega (arith, as_many, of_impl, of_method))
          (ap length (shows form is (suc k) (part m) part_there (l.number + suc k) refl (λ q. q.params) []) ∙ length-map m.function.signature.params _)

      trait_impl_fits : (part : DefPart) → slice_get (impl_parts paths here type_params i) 0 ≡ Some part → FitsKind p (def_id l.number) part part.kind
      unfolding impl_parts trait_of
      trait_impl_fits part at =
          let tr = def_at paths (wants.One kinds.Trait) (path_named i.of.path) in
          subst (λ q. FitsKind p (def_id l.number) q q.kind) (same_Some _ part at)
          (refl, All-ids_behind (λ m. GivesMethod p (def_id l.number) m tr) l.number i.methods gives_at)

    -- ---- Drop impls

    module _ (i : DropImpl) (is : l.form ≡ forms.Impl (record { type_params = type_params; form = impls.Drop i })) where
      drop_method : IsDropMethod p (def_id l.number) (def_id (suc l.number))
      unfolding parts_of parts_by_impl drop_parts drop_method_part with_drop
      drop_method =
          let form = forms.Impl (record { type_params = type_params; form = impls.Drop i }) in
          let part = drop_method_part paths here (texts type_params) i in
          let as_many = length-map type_params (λ name. name.text) in
          let of_impl : type_params_of p (def_id l.number) ≡ length type_params = shows form is 0 _ refl l.number (omega arith) (λ q. q.type_params) 0 in
          let of_method : type_params_of p (def_id (suc l.number)) ≡ length (texts type_params) = shows form is 1 part refl (suc l.number) (omega arith) (λ q. q.type_params) 0 in
          record {
            path = shows form is 1 part refl (suc l.number) (omega arith) (λ q. q.path) [];
            type_params = of_method ∙ as_many ∙ sym of_impl;
            params = ap length (shows form is 1 part refl (suc l.number) (omega arith) (λ q. q.params) []);
          }

      drop_impl_fits : (part : DefPart) → slice_get (drop_parts paths here type_params i) 0 ≡ Some part → FitsKind p (def_id l.number) part part.kind
      unfolding drop_parts
      drop_impl_fits part at =
          subst (λ q. FitsKind p (def_id l.number) q q.kind) (same_Some _ part at)
          (refl, refl, All-cons (IsDropMethod p (def_id l.number)) (def_id (suc l.number)) [] drop_method (All-nil (IsDropMethod p (def_id l.number))))

    impl_fits : (form : ImplForm) → l.form ≡ forms.Impl (record { type_params = type_params; form = form }) → (part : DefPart) → slice_get (parts_by_impl paths here type_params form) 0 ≡ Some part → FitsKind p (def_id l.number) part part.kind
    unfolding parts_by_impl
    impl_fits (impls.Trait i) is part at = trait_impl_fits i is part at
    impl_fits (impls.Drop i) is part at = drop_impl_fits i is part at

  form_fits : (form : ItemForm) → l.form ≡ form → (part : DefPart) → slice_get (parts_of paths here form) 0 ≡ Some part → FitsKind p (def_id l.number) part part.kind
  unfolding parts_of
  form_fits (forms.Module name) is part at = absurd (none-some part at)
  form_fits (forms.Impl impl) is part at = impl_fits impl.type_params impl.form is part at
  form_fits (forms.Definition definition) is part at = definition_fits p (def_id l.number) paths here definition.is_pub definition.form part at

  pub first_fits : (part : DefPart) → slice_get (parts_at (modules_of tree.crates) l) 0 ≡ Some part → FitsKind p (def_id l.number) part part.kind
  first_fits part at = form_fits l.form refl part at
