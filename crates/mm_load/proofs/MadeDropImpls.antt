-- Drop impls and their methods, as they are made.
use Rattle.std.proofs.Common.{◌≡◌, ℕ, suc, List, [], ◌∷◌, ◌++◌, length, codes, Bool, true, false, ◌&&◌, Some, refl, arith}
use Rattle.std.proofs.lemmas.List.Elements.{All-nil, All-cons, All-append}
use Rattle.std.specs.List.{All}
use Rattle.mm_ast.specs.declared.items.DropImpl.{DropImpl}
use Rattle.mm_ast.specs.declared.names.Name.{Name}
use Rattle.mm_lower.specs.Items as lowered
use Rattle.mm_lower.specs.Items.{Site, plain, drop_signature, drop_method_part, drop_parts}
use Rattle.mm_lower.specs.Params.{Params, numbered, texts}
use Rattle.mm_lower.specs.Paths.{def_id}
use Rattle.mm_lower.specs.Types.{type_of}
use Rattle.mm_mentions.specs.BodyMentions.{body_mentions}
use Rattle.mm_mentions.specs.declared.mention.Mention.{Mention}
use Rattle.mm_mentions.specs.FunctionMentions.{scope_with, bounds_mentions, signature_mentions}
use Rattle.mm_mentions.specs.ImplMentions.{impl_params_mentions, drop_target_mentions, drop_head_mentions, given_by_drop_mentions}
use Rattle.mm_mentions.specs.Scopes as mentions
use Rattle.mm_mentions.specs.Scopes.{of_params}
use Rattle.mm_mentions.specs.TypeMentions as mentioned
use Rattle.mm_program.specs.declared.kind.DefKind.TheVariants as kind
use Rattle.mm_program.specs.declared.parts.DefPart.{DefPart}
use Rattle.mm_program.specs.declared.parts.Parts.{Parts}
use Rattle.mm_program.specs.Types.{IsTypeIn}
use Rattle.mm_program.specs.Valid.{IsShort}
use Rattle.mm_resolve.specs.Scopes.{Scope, leads_to}
use Rattle.mm_rules.specs.MentionRules.{broken}
use Rattle.mm_terms.proofs.ListLemmas.{and_left, and_right, and_true}
use Rattle.mm_terms.specs.declared.tree.Tree.{Tree}
use Rattle.mm_written.specs.Bodies.{written_body}
use Rattle.mm_written.specs.Items.{written_bounds, written_drop_impl, written_signature}
use Rattle.mm_written.specs.Lists.{few}
use Rattle.mm_written.specs.Types.{written_type, written_types}
use Rattle.mm_load.specs.Leads.{Leads, Kept}
use Rattle.mm_load.proofs.Made.{IsMade}
use Rattle.mm_load.proofs.MadeCode.{code_made}
use Rattle.mm_load.proofs.MadeLists.{kept_left, kept_right, bounds_short}
use Rattle.mm_load.proofs.ParamsInScope.{params_in_scope, texts_in_scope}
use Rattle.mm_load.proofs.SignaturesIn.{bounds_in}
use Rattle.mm_load.proofs.TypesIn.{written_in}

-- ---- the signature of the method, of which the one parameter is written

module _ (scope : Scope) (site : Site) (d : DropImpl) where
  signature_kept : (names : mentions.Scope) → Kept scope (mentioned.written_type names d.param) → Kept scope (signature_mentions names (drop_signature (leads_to scope) site d))
  unfolding signature_mentions
  signature_kept names kept =
      let P : Mention → Type 0 = λ m. broken scope m.what ≡ [] in
      All-append P (mentioned.written_types names (d.param ∷ [])) [] (All-append P (mentioned.written_type names d.param) [] kept (All-nil P)) (All-nil P)

  signature_written : written_type d.param ≡ true → written_signature (drop_signature (leads_to scope) site d) ≡ true
  unfolding written_signature written_types few
  signature_written written = and_true (written_types (d.param ∷ [])) true (and_true (written_type d.param) true written refl) refl

module _ (p : Parts) (scope : Scope) (leads : Leads p (leads_to scope)) (site : Site) (type_params : List Name) (d : DropImpl) where
  abbrev names : mentions.Scope
  names = scope_with (of_params type_params)

  abbrev params : Params
  params = numbered (texts type_params)

  drop_method_made : Kept scope (mentioned.written_type names d.param) → Kept scope (body_mentions names 1 d.body) → written_type d.param ≡ true → written_body 1 d.body ≡ true
      → IsMade p (drop_method_part (leads_to scope) site (texts type_params) d)
  unfolding drop_method_part written_bounds few
  drop_method_made kept_param kept_body spelled_param spelled_body =
      code_made p scope leads names params (length (texts type_params)) (texts_in_scope type_params) site
      kind.ImplMethod (codes "Drop::drop") false d.is_inline (Some (def_id site.number)) (drop_signature (leads_to scope) site d) [] (Some d.body)
      (record { parent = refl; head = refl; drop_self = refl; result = refl; term = refl; fields = refl; one_variant = tt; methods = refl; drop_impl = refl; params = tt; bounds = tt; bodies = tt; body = refl })
      (signature_kept scope site d names kept_param) (All-nil (λ m. broken scope m.what ≡ [])) kept_body
      (signature_written scope site d spelled_param) refl spelled_body

  -- the impl alone
  abbrev alone : DefPart
  alone = record (plain site kind.DropImpl [] (length type_params)) {
    drop_self = Some (type_of (leads_to scope) params d.target);
    methods = def_id (suc site.number) ∷ [];
    bounds = lowered.bounds_of (leads_to scope) site params d.bounds;
  }

  alone_made : Kept scope (mentioned.written_type names d.target) → Kept scope (bounds_mentions names d.bounds) → written_type d.target ≡ true → written_bounds d.bounds ≡ true → IsMade p alone
  alone_made kept_self kept_bounds spelled_self spelled_bounds =
      let n : ℕ = length type_params in
      record {
        has = record { parent = refl; head = refl; drop_self = refl; result = refl; term = refl; fields = refl; one_variant = tt; methods = tt; drop_impl = refl; params = refl; bounds = tt; bodies = refl; body = tt };
        short = record {
          variants = omega arith;
          fields = All-nil (λ (ts : List Tree). IsShort ts);
          methods = omega arith;
          params = omega arith;
          bounds = bounds_short (leads_to scope) site params d.bounds spelled_bounds;
        };
        fields = All-nil (All (IsTypeIn p n));
        head = tt;
        drop_self = written_in p scope leads names params n (params_in_scope type_params) d.target kept_self spelled_self;
        params = All-nil (IsTypeIn p n);
        result = tt;
        term = tt;
        bounds = bounds_in p scope leads names params n (params_in_scope type_params) site d.bounds kept_bounds spelled_bounds;
        body = tt;
        drop_impl = refl;
      }

  pub drop_impl_made : (krate : List ℕ) (line : ℕ) → Kept scope (drop_head_mentions krate line names type_params d.target ++ given_by_drop_mentions names d) → written_drop_impl d ≡ true
      → All (IsMade p) (drop_parts (leads_to scope) site type_params d)
  unfolding drop_parts drop_head_mentions given_by_drop_mentions written_drop_impl
  drop_impl_made krate line kept written =
      let occurs : List Mention = impl_params_mentions type_params (d.target ∷ []) in
      let self : List Mention = mentioned.written_type names d.target in
      let fits : List Mention = drop_target_mentions krate line type_params d.target in
      let bounds : List Mention = bounds_mentions names d.bounds in
      let param : List Mention = mentioned.written_type names d.param in
      let body : List Mention = body_mentions names 1 d.body in
      let front = kept_left scope (occurs ++ self) fits (kept_left scope (occurs ++ self ++ fits) (bounds ++ param ++ body) kept) in
      let back = kept_right scope (occurs ++ self ++ fits) (bounds ++ param ++ body) kept in
      let given = kept_left scope (bounds ++ param) body back in
      let bounded : Bool = written_type d.target && written_bounds d.bounds in
      let headed : Bool = bounded && written_type d.param in
      let first : headed ≡ true = and_left headed (written_body 1 d.body) written in
      let second : bounded ≡ true = and_left bounded (written_type d.param) first in
      All-cons (IsMade p) alone (drop_method_part (leads_to scope) site (texts type_params) d ∷ [])
      (alone_made (kept_right scope occurs self front) (kept_left scope bounds param given) (and_left (written_type d.target) (written_bounds d.bounds) second) (and_right (written_type d.target) (written_bounds d.bounds) second))
      (All-cons (IsMade p) (drop_method_part (leads_to scope) site (texts type_params) d) []
      (drop_method_made (kept_right scope bounds param given) (kept_right scope (bounds ++ param) body back) (and_right bounded (written_type d.param) first) (and_right headed (written_body 1 d.body) written))
      (All-nil (IsMade p)))
