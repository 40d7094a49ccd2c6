-- Signatures, bounds, and traits at their types, where what they mention breaks no rule.
use Rattle.std.proofs.Common.{◌≡◌, ℕ, ◌+◌, List, [], ◌∷◌, None, Some, true, false, nat_lt, length, map, sum, subst, arith}
use Rattle.std.specs.declared.option.Option.{Option}
use Rattle.std.specs.List.{cons_option, list_all}
use Rattle.std.specs.Option.{IfSome, option_map_or}
use Rattle.std.specs.Prelude.{All}
use Rattle.std.proofs.lemmas.Bool.{ltb-true}
use Rattle.std.proofs.lemmas.List.{length-map}
use Rattle.std.proofs.lemmas.List.Elements.{All-nil, All-cons, All-tail, All-weaker}
use Rattle.mm_ast.specs.declared.bodies.DynTrait.{DynTrait}
use Rattle.mm_ast.specs.declared.items.Bound.{Bound}
use Rattle.mm_ast.specs.declared.items.BoundForm.{BoundForm}
use Rattle.mm_ast.specs.declared.items.BoundForm.TheVariants as forms
use Rattle.mm_ast.specs.declared.items.Signature.{Signature}
use Rattle.mm_ast.specs.declared.names.PathWithArgs.{PathWithArgs}
use Rattle.mm_ast.specs.declared.types.Type as types
use Rattle.mm_definitions.specs.declared.kinds.Kind.TheVariants as kinds
use Rattle.mm_definitions.specs.declared.kinds.Wanted.TheVariants as wants
use Rattle.mm_definitions.specs.Paths.{path_named}
use Rattle.mm_lower.specs.Items as lowered
use Rattle.mm_lower.specs.Items.{Site}
use Rattle.mm_lower.specs.Params.{Params}
use Rattle.mm_lower.specs.Paths.{def_of}
use Rattle.mm_lower.specs.Types.{type_of, types_of, result_of, trait_of, dyn_type_of}
use Rattle.mm_mentions.specs.BodyMentions.{dyn_trait_mentions}
use Rattle.mm_mentions.specs.CalleeMentions.{named_mentions}
use Rattle.mm_mentions.specs.declared.mention.Mention.{Mention}
use Rattle.mm_mentions.specs.declared.mention.What.TheVariants as whats
use Rattle.mm_mentions.specs.FunctionMentions.{signature_mentions, bound_mentions, bound_form_mentions, bounds_mentions}
use Rattle.mm_mentions.specs.Mentions.{at, path_at, dyn_at}
use Rattle.mm_mentions.specs.Scopes as mentions
use Rattle.mm_mentions.specs.TypeMentions as mentioned
use Rattle.mm_program.specs.declared.parts.Parts.{Parts}
use Rattle.mm_program.specs.Types.{IsTypeIn, IsHeadIn, HasHeadsIn}
use Rattle.mm_resolve.specs.Scopes.{Scope, leads_to}
use Rattle.mm_rules.specs.MentionRules.{broken}
use Rattle.mm_terms.specs.declared.head.Head.{Head}
use Rattle.mm_terms.specs.declared.ty_head.TyHead.TheVariants.{Tuple, Dyn}
use Rattle.mm_terms.specs.Formed.{IsFormed, IsFormed-node}
use Rattle.mm_terms.specs.Length.{length_of-node}
use Rattle.mm_terms.specs.Lists.{All-apart}
use Rattle.mm_terms.specs.Tree.{node}
use Rattle.mm_terms.proofs.ListLemmas.{and_left, and_right}
use Rattle.mm_written.specs.Bodies.{written_dyn}
use Rattle.mm_written.specs.Items.{written_signature, written_bound, written_bound_form, written_bounds}
use Rattle.mm_written.specs.Lists.{few}
use Rattle.mm_written.specs.Types.{constructors_in, written_type, written_types, written_result, written_args}
use Rattle.mm_load.specs.Leads.{Leads, Kept, InScope}
use Rattle.mm_load.proofs.NamedIn.{path_kept, trait_named}
use Rattle.mm_load.proofs.TraitsIn.{head_at}
use Rattle.mm_load.proofs.TypesFormed.{types_long}
use Rattle.mm_load.proofs.TypesIn.{heads_above, type_in, types_in, written_in, all_written_in, each_written}

-- ---- what each part has of the whole

kept_signature : (scope : Scope) (names : mentions.Scope) (s : Signature) → Kept scope (signature_mentions names s)
    → Kept scope (mentioned.written_types names s.params) × Kept scope (option_map_or (mentioned.written_type names) s.result [])
unfolding signature_mentions
kept_signature scope names s = All-apart (λ m. broken scope m.what ≡ []) (mentioned.written_types names s.params) (option_map_or (mentioned.written_type names) s.result [])

params_written : (s : Signature) → written_signature s ≡ true → written_types s.params ≡ true
unfolding written_signature
params_written s = and_left (written_types s.params) (written_result s.result)

result_written : (s : Signature) → written_signature s ≡ true → written_result s.result ≡ true
unfolding written_signature
result_written s = and_right (written_types s.params) (written_result s.result)

kept_bound : (scope : Scope) (names : mentions.Scope) (b : Bound) → Kept scope (bound_mentions names b) → Kept scope (mentioned.names_in true names b.ty) × Kept scope (bound_form_mentions names b.form)
unfolding bound_mentions
kept_bound scope names b = All-apart (λ m. broken scope m.what ≡ []) (mentioned.names_in true names b.ty) (bound_form_mentions names b.form)

type_written : (b : Bound) → written_bound b ≡ true → written_type b.ty ≡ true
unfolding written_bound
type_written b = and_left (written_type b.ty) (written_bound_form b.form)

form_written : (b : Bound) → written_bound b ≡ true → written_bound_form b.form ≡ true
unfolding written_bound
form_written b = and_right (written_type b.ty) (written_bound_form b.form)

each_bound : (bounds : List Bound) → written_bounds bounds ≡ true → list_all written_bound bounds ≡ true
unfolding written_bounds
each_bound bounds = and_right (few bounds) (list_all written_bound bounds)

-- ---- in the program

unit_in : (p : Parts) (n : ℕ) → IsTypeIn p n (node Tuple [])
unit_in p n = record {
  type = record { formed = IsFormed-node Tuple [] (omega arith) (All-nil IsFormed); short = omega (arith, length_of-node Tuple []) };
  heads = heads_above p n Tuple [] tt (All-nil (HasHeadsIn p n));
}

module _ (p : Parts) (scope : Scope) (leads : Leads p (leads_to scope)) (names : mentions.Scope) (params : Params) (n : ℕ) (in_scope : InScope names params n) where
  pub params_in : (s : Signature) → Kept scope (signature_mentions names s) → written_signature s ≡ true → All (IsTypeIn p n) (types_of (leads_to scope) params s.params)
  params_in s kept written = all_written_in p scope leads names params n in_scope s.params (kept_signature scope names s kept).0 (params_written s written)

  result_by : (result : Option types.«Type») → Kept scope (option_map_or (mentioned.written_type names) result []) → written_result result ≡ true → IsTypeIn p n (result_of (leads_to scope) params result)
  unfolding result_of
  result_by None kept written = unit_in p n
  result_by (Some t) kept written = written_in p scope leads names params n in_scope t kept written

  pub result_in : (s : Signature) → Kept scope (signature_mentions names s) → written_signature s ≡ true → IsTypeIn p n (result_of (leads_to scope) params s.result)
  result_in s kept written = result_by s.result (kept_signature scope names s kept).1 (result_written s written)

  -- the trait of an impl, at its types
  pub trait_in : (self_type : types.«Type») (named : PathWithArgs) → Kept scope (mentioned.written_type names self_type) → Kept scope (named_mentions names (wants.One kinds.Trait) named None)
      → written_type self_type ≡ true → written_args named ≡ true → IsHeadIn p n (trait_of (leads_to scope) params self_type named)
  trait_in self_type named kept_self kept written_self written =
      head_at p scope leads params n self_type named
      (path_kept scope (wants.One kinds.Trait) named.path (length named.args) None (mentioned.written_types names named.args) kept)
      (written_in p scope leads names params n in_scope self_type kept_self written_self)
      (all_written_in p scope leads names params n in_scope named.args
      (All-tail (λ m. broken scope m.what ≡ []) (path_at (wants.One kinds.Trait) named.path (length named.args) None) (mentioned.written_types names named.args) kept)
      written)

  -- the trait of a bound, where it has one
  bound_in : (site : Site) (self_type : types.«Type») (form : BoundForm) → IsTypeIn p n (type_of (leads_to scope) params self_type) → Kept scope (bound_form_mentions names form) → written_bound_form form ≡ true
      → IfSome (lowered.bound_by (leads_to scope) site params self_type form) (IsHeadIn p n)
  bound_in site self_type (forms.Trait named) self_in kept written =
      head_at p scope leads params n self_type named
      (path_kept scope (wants.One kinds.Trait) named.path (length named.args) None (mentioned.names_in_all true names named.args) kept)
      self_in
      (types_in p scope leads names params n in_scope true named.args
      (All-tail (λ m. broken scope m.what ≡ []) (path_at (wants.One kinds.Trait) named.path (length named.args) None) (mentioned.names_in_all true names named.args) kept)
      (each_written named.args written))
  bound_in site self_type forms.Call self_in kept written = tt

  -- each bound after the first as well
  one_more : (site : Site) (b : Bound) (bs : List Bound) (head : Option Head) → head ≡ lowered.bound_by (leads_to scope) site params b.ty b.form → IfSome head (IsHeadIn p n)
      → All (IsHeadIn p n) (lowered.bounds_of (leads_to scope) site params bs) → All (IsHeadIn p n) (lowered.bounds_of (leads_to scope) site params (b ∷ bs))
  one_more site b bs None is here rest = subst (λ o. All (IsHeadIn p n) (cons_option o (lowered.bounds_of (leads_to scope) site params bs))) is rest
  one_more site b bs (Some head) is here rest =
      subst (λ o. All (IsHeadIn p n) (cons_option o (lowered.bounds_of (leads_to scope) site params bs))) is (All-cons (IsHeadIn p n) head (lowered.bounds_of (leads_to scope) site params bs) here rest)

  each_bound_in : (site : Site) (bs : List Bound) → Kept scope (bounds_mentions names bs) → list_all written_bound bs ≡ true → All (IsHeadIn p n) (lowered.bounds_of (leads_to scope) site params bs)
  each_bound_in site [] kept written = All-nil (IsHeadIn p n)
  each_bound_in site (b ∷ bs) kept written =
      let apart = All-apart (λ m. broken scope m.what ≡ []) (bound_mentions names b) (bounds_mentions names bs) kept in
      let parts = kept_bound scope names b apart.0 in
      let is_written : written_bound b ≡ true = and_left (written_bound b) (list_all written_bound bs) written in
      one_more site b bs (lowered.bound_by (leads_to scope) site params b.ty b.form) (λ i. lowered.bound_by (leads_to scope) site params b.ty b.form)
      (bound_in site b.ty b.form (type_in p scope leads names params n in_scope true b.ty parts.0 (type_written b is_written)) parts.1 (form_written b is_written))
      (each_bound_in site bs apart.1 (and_right (written_bound b) (list_all written_bound bs) written))

  pub bounds_in : (site : Site) (bounds : List Bound) → Kept scope (bounds_mentions names bounds) → written_bounds bounds ≡ true → All (IsHeadIn p n) (lowered.bounds_of (leads_to scope) site params bounds)
  bounds_in site bounds kept written = each_bound_in site bounds kept (each_bound bounds written)

  pub dyn_in : (d : DynTrait) → Kept scope (dyn_trait_mentions names d) → written_dyn d ≡ true → IsTypeIn p n (dyn_type_of (leads_to scope) params d)
  unfolding dyn_trait_mentions written_dyn dyn_type_of
  dyn_in d kept written =
      let IsKept : Mention → Type 0 = λ m. broken scope m.what ≡ [] in
      let tr = path_at (wants.One kinds.Trait) d.of.path (length d.of.args) None in
      let safe = dyn_at d.line d.of.path in
      let in_args = mentioned.names_in_all false names d.of.args in
      let apart = All-apart IsKept (tr ∷ safe ∷ in_args) (at d.line (whats.«Type» (1 + sum (map mentioned.constructors d.of.args))) ∷ []) kept in
      let is = trait_named p scope leads (path_named d.of.path) (length d.of.args) None (path_kept scope (wants.One kinds.Trait) d.of.path (length d.of.args) None (safe ∷ in_args) apart.0) in
      let few_below = ltb-true (1 + constructors_in d.of.args) 4294967296 (and_right (written_args d.of) (nat_lt (1 + constructors_in d.of.args) 4294967296) written) in
      let args = types_of (leads_to scope) params d.of.args in
      let args_in : All (IsTypeIn p n) args =
      types_in p scope leads names params n in_scope false d.of.args (All-tail IsKept safe in_args (All-tail IsKept tr (safe ∷ in_args) apart.0))
      (each_written d.of.args (and_left (written_args d.of) (nat_lt (1 + constructors_in d.of.args) 4294967296) written))
      in
      let head = Dyn (def_of (leads_to scope) (wants.One kinds.Trait) d.of.path) in
      let many : length args ≡ length d.of.args = length-map d.of.args (type_of (leads_to scope) params) in
      record {
        type = record {
          formed = IsFormed-node head args tt (All-weaker (IsTypeIn p n) IsFormed (λ t t_in. t_in.type.formed) args args_in);
          short = omega (arith, few_below, length_of-node head args, types_long (leads_to scope) params d.of.args);
        };
        heads = heads_above p n head args (is.0, omega (arith, is.1, many)) (All-weaker (IsTypeIn p n) (HasHeadsIn p n) (λ t t_in. t_in.heads) args args_in);
      }
