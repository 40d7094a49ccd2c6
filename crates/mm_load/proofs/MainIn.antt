-- A run begins with a function that has neither type parameters nor parameters.
use Rattle.std.proofs.Common.{ℕ, ◌-◌, ◌&&◌, ⊎_elim, List, ◌∷◌, codes, length, get_or, Option, None, Some, Contains, slice_get, refl, sym, ap, ◌∙◌, subst, arith}
use Rattle.std.specs.Prelude.{◌≡◌, [], true}
use Rattle.std.specs.List.{list_all}
use Rattle.std.specs.Option.{option_map_or}
use Rattle.std.specs.Str.{bytes_eq}
use Rattle.std.proofs.lemmas.Bool.{false≢true}
use Rattle.std.proofs.lemmas.List.{nil_from_length}
use Rattle.std.proofs.lemmas.List.Elements.{All-contains, Contains-append_right}
use Rattle.std.proofs.lemmas.Option.{slice_get-get_or, slice_get_within}
use Rattle.mm_ast.specs.declared.items.Ast.{Ast}
use Rattle.mm_ast.specs.declared.items.Crate.{Crate}
use Rattle.mm_ast.specs.declared.items.Function.{Function}
use Rattle.mm_ast.specs.declared.items.ItemForm.TheVariants as forms
use Rattle.mm_definitions.specs.declared.kinds.Kind.TheVariants as kinds
use Rattle.mm_definitions.specs.declared.kinds.Wanted.TheVariants as wants
use Rattle.mm_definitions.specs.declared.named.Named.{Named}
use Rattle.mm_definitions.specs.Definitions.{form_named}
use Rattle.mm_definitions.specs.Kinds.{named}
use Rattle.mm_definitions.specs.Paths.{path_in}
use Rattle.mm_lower.specs.Paths.{def_id}
use Rattle.mm_program.specs.declared.kind.DefKind.TheVariants as kind
use Rattle.mm_program.specs.declared.parts.Parts.{Parts}
use Rattle.mm_program.specs.Views.{IsOfKind, type_params_of, params_of}
use Rattle.mm_resolve.specs.Doubles.{definition_name, form_name}
use Rattle.mm_resolve.specs.Resolving.{is_named}
use Rattle.mm_resolve.specs.Scopes.{Scope, all, leads_to}
use Rattle.mm_rules.proofs.KeptLemmas.{kept_names, kept_main}
use Rattle.mm_rules.specs.MainRule.{bad_main_in}
use Rattle.mm_rules.specs.TreeFaults.{KeepsRules, scope_of}
use Rattle.mm_terms.proofs.ListLemmas.{and_left, bytes_same, Contains-cons_cases, Contains-here, Contains-nil, find-None, find-Some}
use Rattle.mm_terms.specs.declared.ids.DefId.{DefId}
use Rattle.mm_written.specs.Lists.{few, some}
use Rattle.mm_written.specs.Written.{written_crate, is_written}
use Rattle.mm_load.specs.Leads.{IsAs, Leads}
use Rattle.mm_load.specs.Located.{Located, items_of}
use Rattle.mm_load.specs.Meaning as meaning
use Rattle.mm_load.specs.Meaning.{main_of, program_of}
use Rattle.mm_load.proofs.Entries.{HasEntry, entry_in}
use Rattle.mm_load.proofs.NamedAt.{NamedBy, named_by, in_own_scope}
use Rattle.mm_load.proofs.NamedFunction.{IsNameOf, functions_named, function_named}
use Rattle.mm_load.proofs.OneItem.{one_item}
use Rattle.mm_load.proofs.TextLeads.{text_leads}
use Rattle.mm_load.proofs.TopItems.{IsAmong, top_item}

-- the last of some crates
last_of : (crates : List Crate) → some crates ≡ true → (k : Crate) × (slice_get crates (length crates - 1) ≡ Some k)
last_of [] is = absurd (false≢true is)
last_of (first ∷ ks) is =
    let last = length (first ∷ ks) - 1 in
    (get_or (first ∷ ks) last first, slice_get-get_or (first ∷ ks) last first (omega arith))

-- a run begins with it
abbrev IsEntry : Parts → DefId → Type 0
IsEntry p d = IsOfKind p d kind.Fn × (type_params_of p d ≡ 0) × (params_of p d ≡ [])

module _ (tree : Ast) (written : is_written tree ≡ true) (kept : KeepsRules tree) (k : Crate) (last : slice_get tree.crates (length tree.crates - 1) ≡ Some k) where
  abbrev p : Parts
  p = program_of tree.crates

  abbrev n : ℕ
  n = length tree.crates - 1

  abbrev scope : Scope
  scope = scope_of tree.crates n

  abbrev path : List ℕ
  path = path_in k.name.text (codes "main")

  entry : HasEntry k
  entry = entry_in k (sym (ap (λ o. option_map_or bad_main_in o []) last) ∙ kept_main tree.crates kept)

  abbrev f : Function
  f = entry.function

  top : IsAmong (items_of tree.crates) scope (record { prefix = k.name.text; form = forms.Definition entry.definition })
  top = top_item tree.crates n k entry.item entry.definition last entry.among entry.is

  abbrev l : Located
  l = top.item

  -- what `main` is called
  abbrev main : Named
  main = named kinds.Function l.number 0 (path_in l.prefix f.name.text) entry.definition.is_pub (length f.type_params) (length f.signature.params)

  main_path : path_in l.prefix f.name.text ≡ path
  main_path = ap (λ prefix. path_in prefix f.name.text) top.prefix ∙ ap (path_in k.name.text) entry.called

  one_name : form_named l.number l.prefix l.form ≡ main ∷ []
  one_name = function_named l.number l.prefix l.form entry.definition f top.form entry.of

  item_name : form_name l.form ≡ Some f.name
  unfolding form_name definition_name
  item_name = ap form_name top.form ∙ ap (λ form. Some (definition_name form)) entry.of

  in_scope : Contains (all scope) main
  in_scope =
      Contains-append_right scope.earlier scope.own main
      (subst (λ (s : Scope). Contains s.own main) top.scope_is
      (in_own_scope tree.crates l main top.among (subst (λ ds. Contains ds main) (sym one_name) (Contains-here main []))))

  leads : Leads p (leads_to scope)
  leads = subst (λ s. Leads p (leads_to s)) top.scope_is (text_leads tree written kept l top.among)

  -- its path leads to it
  module _ (d : Named) (is : leads_to scope (wants.One kinds.Function) path ≡ Some d) where
    by : NamedBy tree.crates d
    by = named_by tree.crates n d (slice_get_within tree.crates n k last) (find-Some (is_named kinds.Function path) (all scope) d is).0

    as_function : IsNameOf by.item.prefix by.item.form d
    as_function =
        All-contains (λ d. d.kind ≡ kinds.Function → IsNameOf by.item.prefix by.item.form d) (form_named by.item.number by.item.prefix by.item.form) d
        (functions_named by.item.number by.item.prefix by.item.form) by.named (leads.wanted (wants.One kinds.Function) path d is)

    same_item : l ≡ by.item
    same_item =
        one_item tree written (kept_names tree.crates kept) l by.item f.name as_function.name top.among by.among item_name as_function.named
        (main_path ∙ sym (leads.spelled (wants.One kinds.Function) path d is) ∙ as_function.spelled)

    is_main : main ≡ d
    is_main =
        let has = subst (λ ds. Contains ds d) one_name (subst (λ (m : Located). Contains (form_named m.number m.prefix m.form) d) (sym same_item) by.named) in
        ⊎_elim (λ same. same) (λ rest. absurd (Contains-nil d rest)) (Contains-cons_cases main [] d has)

    main_is : main_of tree.crates ≡ d.def
    unfolding main_of
    main_is = ap (λ o. option_map_or (meaning.main_in scope) o (def_id 0)) last ∙ ap (λ o. option_map_or (λ d. d.def) o (def_id 0)) is

    entry_is : IsEntry p (main_of tree.crates)
    entry_is =
        let as_named : IsAs p d kinds.Function = subst (IsAs p d) (leads.wanted (wants.One kinds.Function) path d is) (leads.named (wants.One kinds.Function) path d is) in
        subst (IsEntry p) (sym main_is) (
          as_named.0,
          sym as_named.1 ∙ ap (λ m. m.type_params) (sym is_main) ∙ entry.type_params,
          nil_from_length (params_of p d.def) (sym as_named.2 ∙ ap (λ m. m.operands) (sym is_main) ∙ entry.params),
        )

  main_entry : IsEntry p (main_of tree.crates)
  main_entry = from (leads_to scope (wants.One kinds.Function) path) refl
    where
      from : (o : Option Named) → leads_to scope (wants.One kinds.Function) path ≡ o → IsEntry p (main_of tree.crates)
      from None none = absurd (find-None (is_named kinds.Function path) (all scope) main none in_scope (ap (bytes_eq path) main_path ∙ bytes_same path))
      from (Some d) is = entry_is d is

module _ (tree : Ast) (written : is_written tree ≡ true) (kept : KeepsRules tree) where
  pub main_in : IsOfKind (program_of tree.crates) (main_of tree.crates) kind.Fn × (type_params_of (program_of tree.crates) (main_of tree.crates) ≡ 0) × (params_of (program_of tree.crates) (main_of tree.crates) ≡ [])
  unfolding is_written
  main_in =
      let last = last_of tree.crates (and_left (some tree.crates) (few tree.crates && list_all written_crate tree.crates) written) in
      main_entry tree written kept last.0 last.1
