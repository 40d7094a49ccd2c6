-- What is made by `new`, where what it mentions breaks no rule.
use Rattle.std.proofs.Common.{◌≡◌, ℕ, List, [], ◌∷◌, None, Some, true, false, nat_eq, length, sym, ap, subst, ◌∙◌}
use Rattle.std.specs.declared.option.Option.{Option}
use Rattle.std.specs.Option.{option_map_or}
use Rattle.std.specs.Prelude.{All}
use Rattle.std.proofs.lemmas.Bool.{eqb-true}
use Rattle.std.proofs.lemmas.List.Elements.{All-head, All-tail}
use Rattle.mm_ast.specs.declared.names.Name.{Name}
use Rattle.mm_ast.specs.declared.names.PathWithArgs.{PathWithArgs}
use Rattle.mm_definitions.specs.declared.kinds.Kind.TheVariants as kinds
use Rattle.mm_definitions.specs.declared.kinds.Wanted.{Wanted}
use Rattle.mm_definitions.specs.declared.kinds.Wanted.TheVariants as wants
use Rattle.mm_definitions.specs.declared.named.Named.{Named}
use Rattle.mm_definitions.specs.Paths.{path_in, path_named}
use Rattle.mm_lower.specs.Bodies.{made_of, variant_of}
use Rattle.mm_lower.specs.Params.{Params}
use Rattle.mm_lower.specs.Paths.{def_of, place_at}
use Rattle.mm_lower.specs.Types.{types_of}
use Rattle.mm_mentions.specs.CalleeMentions.{fields_at, named_mentions, new_mentions}
use Rattle.mm_mentions.specs.declared.mention.Mention.{Mention}
use Rattle.mm_mentions.specs.Mentions.{path_at, member_at}
use Rattle.mm_mentions.specs.Scopes as mentions
use Rattle.mm_mentions.specs.TypeMentions as mentioned
use Rattle.mm_program.specs.declared.parts.Parts.{Parts}
use Rattle.mm_program.specs.Bodies.{IsNewIn}
use Rattle.mm_program.specs.Types.{IsTypeIn}
use Rattle.mm_resolve.specs.Scopes.{Scope, leads_to}
use Rattle.mm_rules.specs.declared.fault.CrateRule.TheVariants.{WrongArity}
use Rattle.mm_rules.specs.MentionRules.{broken, fails_of}
use Rattle.mm_terms.specs.Lists.{All-apart}
use Rattle.mm_written.specs.Names.{written_variant_name}
use Rattle.mm_written.specs.Types.{written_args}
use Rattle.mm_load.specs.Leads.{Leads, Kept, InScope, HasFields}
use Rattle.mm_load.proofs.MentionsKept.{holds_of, no_rule}
use Rattle.mm_load.proofs.MethodsIn.{name_is}
use Rattle.mm_load.proofs.NamedIn.{path_kept, member_kept, def_is, is_as, enum_in, whole_in}
use Rattle.mm_load.proofs.PathsIn.{Found}
use Rattle.mm_load.proofs.TraitsIn.{args_for}
use Rattle.mm_load.proofs.TypesIn.{all_written_in}

-- the mention of so many operands of a variant is kept
fields_fit : (scope : Scope) (path : List ℕ) (k : ℕ) (v : Named) → leads_to scope (wants.One kinds.Variant) path ≡ Some v
    → fails_of (leads_to scope (wants.One kinds.Variant) path) (λ d. nat_eq k d.operands) ≡ false → k ≡ v.operands
fields_fit scope path k v leads fails = eqb-true k v.operands (holds_of (leads_to scope (wants.One kinds.Variant) path) (λ d. nat_eq k d.operands) v leads fails)

module _ (p : Parts) (scope : Scope) (leads : Leads p (leads_to scope)) (names : mentions.Scope) (params : Params) (n : ℕ) (in_scope : InScope names params n) where
  abbrev IsKept : Mention → Type 0
  IsKept m = broken scope m.what ≡ []

  -- the type arguments behind the path
  args_in : (w : Wanted) (named : PathWithArgs) (o : Option ℕ) → Kept scope (named_mentions names w named o) → written_args named ≡ true → All (IsTypeIn p n) (types_of (leads_to scope) params named.args)
  args_in w named o kept written =
      all_written_in p scope leads names params n in_scope named.args (All-tail IsKept (path_at w named.path (length named.args) o) (mentioned.written_types names named.args) kept) written

  -- the variant that is found is one of the enum, with as many fields
  variant_in : (named : PathWithArgs) (name : Name) (k : ℕ) → written_variant_name (Some name) ≡ true
      → Found scope (wants.One kinds.Enum) (path_named named.path) (length named.args) None
      → Kept scope (member_at (wants.One kinds.Variant) named.path name 0 None ∷ fields_at named.path name k ∷ [])
      → HasFields p (def_of (leads_to scope) (wants.One kinds.Enum) named.path) (place_at (leads_to scope) kinds.Variant named.path name) k
  variant_in named name k spelled of kept =
      let path = path_in (path_named named.path) name.text in
      let fields = fields_at named.path name k in
      let v = member_kept scope (wants.One kinds.Variant) named.path name 0 None (fields ∷ []) kept in
      let kept_fields : broken scope fields.what ≡ [] = All-head IsKept fields [] (All-tail IsKept (member_at (wants.One kinds.Variant) named.path name 0 None) (fields ∷ []) kept) in
      let many : k ≡ v.to.operands =
      fields_fit scope path k v.to v.leads (no_rule (fails_of (leads_to scope (wants.One kinds.Variant) path) (λ d. nat_eq k d.operands)) WrongArity kept_fields)
      in
      let of_it : v.to.def ≡ of.to.def = leads.variant (path_named named.path) name of.to v.to (name_is name spelled) of.leads v.leads in
      let held = is_as p scope leads kinds.Variant path 0 None v in
      let has = held.1 in
      let place_is : place_at (leads_to scope) kinds.Variant named.path name ≡ v.to.place = ap (λ (o : Option Named). option_map_or (λ d. d.place) o 0) v.leads in
      let def_of_it = of_it ∙ sym (def_is p scope leads (wants.One kinds.Enum) (path_named named.path) (length named.args) None of) in
      let here : HasFields p v.to.def v.to.place k = record { fields = has.fields; there = has.there; as_many = many ∙ has.as_many } in
      subst (λ d. HasFields p d (place_at (leads_to scope) kinds.Variant named.path name) k) def_of_it (subst (λ place. HasFields p v.to.def place k) (sym place_is) here)

  pub made_in : (named : PathWithArgs) (variant : Option Name) (count : ℕ) → Kept scope (new_mentions names named variant count) → written_args named ≡ true → written_variant_name variant ≡ true
      → IsNewIn p n (made_of (leads_to scope) named variant) (types_of (leads_to scope) params named.args) (variant_of (leads_to scope) named variant) count
  unfolding new_mentions made_of variant_of
  made_in named None count kept written spelled =
      let found = path_kept scope wants.Whole named.path (length named.args) (Some count) (mentioned.written_types names named.args) kept in
      let is = whole_in p scope leads (path_named named.path) (length named.args) count found in
      let has = is.2 in
      record {
        kind = is.0;
        type_args = args_for p (leads_to scope) params n (def_of (leads_to scope) wants.Whole named.path) named.args is.1 (args_in wants.Whole named (Some count) kept written);
        fields = has.fields;
        there = has.there;
        count = has.as_many;
      }
  made_in named (Some name) count kept written spelled =
      let of = named_mentions names (wants.One kinds.Enum) named None in
      let apart = All-apart IsKept of (member_at (wants.One kinds.Variant) named.path name 0 None ∷ fields_at named.path name count ∷ []) kept in
      let found = path_kept scope (wants.One kinds.Enum) named.path (length named.args) None (mentioned.written_types names named.args) apart.0 in
      let is = enum_in p scope leads (path_named named.path) (length named.args) None found in
      let has = variant_in named name count spelled found apart.1 in
      record {
        kind = is.0;
        type_args = args_for p (leads_to scope) params n (def_of (leads_to scope) (wants.One kinds.Enum) named.path) named.args is.1 (args_in (wants.One kinds.Enum) named None apart.0 written);
        fields = has.fields;
        there = has.there;
        count = has.as_many;
      }
