-- What an impl of a trait asks by its mentions, and so each of its methods gives one of the trait.
use Rattle.std.proofs.Common.{◌≡◌, ℕ, zero, suc, ◌+◌, ◌&&◌, List, [], ◌∷◌, ◌++◌, length, Bool, None, flat_map, sym, subst, ap, ◌∙◌, arith}
use Rattle.std.proofs.lemmas.Bool.{eqb-true}
use Rattle.std.proofs.lemmas.List.Elements.{All-contains, Contains-append_left, Contains-append_right}
use Rattle.std.proofs.lemmas.Option.{none-some, same_Some, slice_get_within, get_or_from_slice_get}
use Rattle.std.specs.List.{list_all}
use Rattle.std.specs.Option.{option_map_or}
use Rattle.std.specs.Prelude.{Contains, Some, true, slice_get}
use Rattle.mm_ast.specs.declared.items.ImplForm.TheVariants as impls
use Rattle.mm_ast.specs.declared.items.ImplMethod.{ImplMethod}
use Rattle.mm_ast.specs.declared.items.ItemForm.TheVariants as forms
use Rattle.mm_ast.specs.declared.items.TraitImpl.{TraitImpl}
use Rattle.mm_ast.specs.declared.names.Name.{Name}
use Rattle.mm_definitions.specs.declared.kinds.Kind.TheVariants as kinds
use Rattle.mm_definitions.specs.declared.kinds.Wanted.TheVariants as wants
use Rattle.mm_definitions.specs.Paths.{path_in, path_named}
use Rattle.mm_lower.specs.Paths.{def_id, def_at}
use Rattle.mm_mentions.specs.declared.mention.Mention.{Mention}
use Rattle.mm_mentions.specs.CalleeMentions.{named_mentions}
use Rattle.mm_mentions.specs.FunctionMentions.{scope_with, bounds_mentions}
use Rattle.mm_mentions.specs.ImplHeads.{head_names_crate}
use Rattle.mm_mentions.specs.ImplMentions.{impl_params_mentions, given_mentions, impl_method_mentions, trait_head_mentions, given_by_trait_mentions, impl_in}
use Rattle.mm_mentions.specs.ItemMentions.{form_mentions}
use Rattle.mm_mentions.specs.Mentions.{at, path_at, member_at}
use Rattle.mm_mentions.specs.declared.mention.What.TheVariants as whats
use Rattle.mm_mentions.specs.Scopes.{Names, of_params}
use Rattle.mm_mentions.specs.TypeMentions.{written_type, written_types}
use Rattle.mm_names.specs.Runs.{is_name}
use Rattle.mm_program.specs.declared.parts.Parts.{Parts}
use Rattle.mm_program.specs.Valid.{GivesMethod}
use Rattle.mm_program.specs.Views.{methods_of, type_params_of, path_of, params_of}
use Rattle.mm_resolve.specs.Scopes.{Scope, leads_to}
use Rattle.mm_rules.specs.MentionRules.{broken}
use Rattle.mm_terms.proofs.ListLemmas.{and_left, and_right, Contains-here, Contains-flat_map}
use Rattle.mm_terms.specs.declared.ids.DefId.{DefId}
use Rattle.mm_written.specs.Bodies.{written_body}
use Rattle.mm_written.specs.Items.{written_signature, written_bounds, written_function, written_trait_impl, written_impl, written_form}
use Rattle.mm_written.specs.Lists.{few}
use Rattle.mm_written.specs.Names.{written_name, written_names}
use Rattle.mm_written.specs.Types as written_types_of
use Rattle.mm_load.specs.Leads.{IsAs, Leads, Kept}
use Rattle.mm_load.proofs.PathsIn.{Found, found_at}

-- ---- a method of a trait, where it is found

pub Contains-at : {X : Type 0} (xs : List X) (k : ℕ) (x : X) → slice_get xs k ≡ Some x → Contains xs x
Contains-at xs k x is = (k, slice_get_within xs k x is, get_or_from_slice_get xs k x x is)

module _ (p : Parts) (scope : Scope) (leads : Leads p (leads_to scope)) (path : List ℕ) (name : Name) (is : is_name name.text ≡ true) where
  -- what is called as a method of the trait is, with as many own type parameters and parameters, gives it
  pub gives_method : (d m : DefId) (args own count : ℕ) → Found scope (wants.One kinds.Trait) path args None → Found scope (wants.One kinds.Method) (path_in path name.text) own (Some count)
      → path_of p m ≡ path_in path name.text → type_params_of p m ≡ type_params_of p d + own → length (params_of p m) ≡ count
      → GivesMethod p d m (def_at (leads_to scope) (wants.One kinds.Trait) path)
  gives_method d m args own count tr method of_path of_own of_params =
      let leads_tr = tr.leads in
      let leads_m = method.leads in
      let there = leads.method path name tr.to method.to is leads_tr leads_m in
      let named : IsAs p method.to kinds.Method =
      subst (IsAs p method.to) (leads.wanted (wants.One kinds.Method) (path_in path name.text) method.to leads_m) (leads.named (wants.One kinds.Method) (path_in path name.text) method.to leads_m) in
      let spelled = leads.spelled (wants.One kinds.Method) (path_in path name.text) method.to leads_m in
      let params = eqb-true count method.to.operands method.as_many in
      let as_many = named.1 in
      let of_method = method.type_params in
      let with_trait = there.type_params in
      let gives : GivesMethod p d m tr.to.def = record {
        method = method.to.def;
        there = Contains-at (methods_of p tr.to.def) method.to.place method.to.def there.there;
        path = of_path ∙ sym spelled ∙ named.2;
        own = omega (arith, of_own, of_method, with_trait);
        params = of_params ∙ params ∙ as_many;
      } in
      subst (GivesMethod p d m) (sym (ap (λ o. option_map_or (λ n. n.def) o (def_id 0)) leads_tr)) gives

-- ---- what an impl asks

module _ (scope : Scope) (krate : List ℕ) (line : ℕ) (type_params : List Name) (i : TraitImpl) where
  abbrev own : Names
  own = of_params type_params

  abbrev head_asks : List Mention
  head_asks = trait_head_mentions krate line (scope_with own) type_params i

  abbrev methods_ask : List Mention
  methods_ask = flat_map (impl_method_mentions own i.of.path) i.methods

  -- what it mentions breaks no rule
  abbrev ImplKept : Type 0
  ImplKept = Kept scope (form_mentions krate line (forms.Impl (record { type_params = type_params; form = impls.Trait i })))

  asked : ImplKept → (m : Mention) → Contains (head_asks ++ given_by_trait_mentions own i) m → broken scope m.what ≡ []
  unfolding form_mentions impl_in
  asked kept m has = All-contains (λ m. broken scope m.what ≡ []) (head_asks ++ given_by_trait_mentions own i) m kept has

  -- its trait
  pub trait_asked : ImplKept → Found scope (wants.One kinds.Trait) (path_named i.of.path) (length i.of.args) None
  unfolding trait_head_mentions
  trait_asked kept =
      let m = path_at (wants.One kinds.Trait) i.of.path (length i.of.args) None in
      let params = impl_params_mentions type_params (i.target ∷ i.of.args) in
      let named = named_mentions (scope_with own) (wants.One kinds.Trait) i.of None in
      let self_type = written_type (scope_with own) i.target in
      let here : Contains named m = Contains-here m (written_types (scope_with own) i.of.args) in
      let among = Contains-append_left (params ++ named ++ self_type) (at line (whats.Head (head_names_crate krate i)) ∷ []) m (Contains-append_left (params ++ named) self_type m (Contains-append_right params named m here)) in
      found_at scope (record { wanted = wants.One kinds.Trait; path = path_named i.of.path; type_args = length i.of.args; operands = None })
      (asked kept m (Contains-append_left head_asks (given_by_trait_mentions own i) m among))

  -- each of its methods is one of the trait
  pub method_asked : ImplKept → (given : ImplMethod) → Contains i.methods given
      → Found scope (wants.One kinds.Method) (path_in (path_named i.of.path) given.function.name.text) (length given.function.type_params) (Some (length given.function.signature.params))
  unfolding given_by_trait_mentions
  method_asked kept given has =
      let m = member_at (wants.One kinds.Method) i.of.path given.function.name (length given.function.type_params) (Some (length given.function.signature.params)) in
      let here : Contains (impl_method_mentions own i.of.path given) m = Contains-here m (given_mentions own given.function) in
      let among = Contains-append_right (bounds_mentions (scope_with own) i.bounds) methods_ask m (Contains-flat_map (impl_method_mentions own i.of.path) i.methods given m has here) in
      found_at scope (record { wanted = wants.One kinds.Method; path = path_in (path_named i.of.path) given.function.name.text; type_args = length given.function.type_params; operands = Some (length given.function.signature.params) })
      (asked kept m (Contains-append_right head_asks (given_by_trait_mentions own i) m among))

-- ---- the names of its methods

passes_at : {X : Type 0} (test : X → Bool) (xs : List X) (k : ℕ) (x : X) → list_all test xs ≡ true → slice_get xs k ≡ Some x → test x ≡ true
passes_at test [] k x all is = absurd (none-some x is)
passes_at test (y ∷ xs) zero x all is = ap test (sym (same_Some y x is)) ∙ and_left (test y) (list_all test xs) all
passes_at test (y ∷ xs) (suc k) x all is = passes_at test xs k x (and_right (test y) (list_all test xs) all) is

module _ (type_params : List Name) (i : TraitImpl) where
  pub name_written : written_form (forms.Impl (record { type_params = type_params; form = impls.Trait i })) ≡ true → (k : ℕ) (given : ImplMethod) → slice_get i.methods k ≡ Some given → is_name given.function.name.text ≡ true
  unfolding written_form written_impl written_trait_impl written_function written_name
  name_written written k given is =
      let test : ImplMethod → Bool = λ method. written_function method.function in
      let f = given.function in
      let all = and_right (written_names type_params) (written_trait_impl i) written in
      let methods = and_right (written_types_of.written_args i.of && written_types_of.written_type i.target && written_bounds i.bounds) (few i.methods && list_all test i.methods) all in
      let here = passes_at test i.methods k given (and_right (few i.methods) (list_all test i.methods) methods) is in
      let head = and_left (written_name f.name && written_names f.type_params && written_signature f.signature && written_bounds f.bounds) (written_body (length f.signature.params) f.body) here in
      let typed = and_left (written_name f.name && written_names f.type_params && written_signature f.signature) (written_bounds f.bounds) head in
      let names = and_left (written_name f.name && written_names f.type_params) (written_signature f.signature) typed in
      and_left (written_name f.name) (written_names f.type_params) names
