-- Impls of traits and the methods that they give, as they are made.
use Rattle.std.proofs.Common.{◌≡◌, ℕ, ◌+◌, List, [], ◌∷◌, ◌++◌, length, map, Bool, true, false, ◌&&◌, None, Some, refl, arith}
use Rattle.std.proofs.lemmas.List.Elements.{All-nil, All-cons, All-map, All-tail}
use Rattle.std.specs.List.{All, flat_map}
use Rattle.mm_ast.specs.declared.items.ImplMethod.{ImplMethod}
use Rattle.mm_ast.specs.declared.items.TraitImpl.{TraitImpl}
use Rattle.mm_ast.specs.declared.names.Name.{Name}
use Rattle.mm_ast.specs.declared.names.Path.{Path}
use Rattle.mm_definitions.specs.declared.kinds.Kind.TheVariants as kinds
use Rattle.mm_definitions.specs.declared.kinds.Wanted.TheVariants as wants
use Rattle.mm_definitions.specs.Paths.{path_in, path_named}
use Rattle.mm_lower.specs.Items as lowered
use Rattle.mm_lower.specs.Items.{Site, plain, ids_behind, given_part, impl_parts}
use Rattle.mm_lower.specs.Params.{Params, numbered, texts}
use Rattle.mm_lower.specs.Paths.{def_id}
use Rattle.mm_lower.specs.Types.{trait_of}
use Rattle.mm_mentions.specs.CalleeMentions.{named_mentions}
use Rattle.mm_mentions.specs.declared.mention.Mention.{Mention}
use Rattle.mm_mentions.specs.declared.mention.What.TheVariants as whats
use Rattle.mm_mentions.specs.FunctionMentions.{scope_with, bounds_mentions}
use Rattle.mm_mentions.specs.ImplHeads.{head_names_crate}
use Rattle.mm_mentions.specs.ImplMentions.{impl_params_mentions, given_mentions, impl_method_mentions, trait_head_mentions, given_by_trait_mentions}
use Rattle.mm_mentions.specs.Mentions.{at, member_at}
use Rattle.mm_mentions.specs.Scopes.{of_params, scope_of}
use Rattle.mm_mentions.specs.TypeMentions as mentioned
use Rattle.mm_program.specs.declared.kind.DefKind.TheVariants as kind
use Rattle.mm_program.specs.declared.parts.DefPart.{DefPart}
use Rattle.mm_program.specs.declared.parts.Parts.{Parts}
use Rattle.mm_program.specs.Types.{IsTypeIn}
use Rattle.mm_program.specs.Valid.{IsShort}
use Rattle.mm_resolve.specs.Scopes.{Scope, leads_to}
use Rattle.mm_rules.specs.MentionRules.{broken}
use Rattle.mm_terms.proofs.ListLemmas.{All-both, All-from_flat_map, and_left, and_right}
use Rattle.mm_terms.specs.declared.tree.Tree.{Tree}
use Rattle.mm_written.specs.Items.{written_bounds, written_function, written_trait_impl}
use Rattle.mm_written.specs.Lists.{few_each}
use Rattle.mm_written.specs.Types.{written_args, written_type}
use Rattle.mm_load.specs.Leads.{Leads, Kept}
use Rattle.mm_load.proofs.Made.{IsMade}
use Rattle.mm_load.proofs.MadeCode.{coded_made}
use Rattle.mm_load.proofs.MadeLists.{kept_left, kept_right, each_few, each_passes, ids_short, bounds_short}
use Rattle.mm_load.proofs.ParamsInScope.{params_in_scope, given_in_scope}
use Rattle.mm_load.proofs.SignaturesIn.{trait_in, bounds_in}

module _ (p : Parts) (scope : Scope) (leads : Leads p (leads_to scope)) (site : Site) where
  -- a method that an impl with these type parameters gives
  given_made : (tr : List ℕ) (outer : List Name) (m : ImplMethod) → Kept scope (given_mentions (of_params outer) m.function) → written_function m.function ≡ true → IsMade p (given_part (leads_to scope) site tr (texts outer) m)
  unfolding given_part
  given_made tr outer m kept written =
      coded_made p scope leads (scope_of (of_params outer) (of_params m.function.type_params) false) (numbered (texts outer ++ texts m.function.type_params)) (length (texts outer) + length m.function.type_params)
      (given_in_scope outer m.function.type_params) site
      kind.ImplMethod (path_in tr m.function.name.text) false (Some (def_id site.number)) m.function
      (record { parent = refl; head = refl; drop_self = refl; result = refl; term = refl; fields = refl; one_variant = tt; methods = refl; drop_impl = refl; params = tt; bounds = tt; bodies = tt; body = refl })
      kept written

  -- the impl alone
  abbrev alone : List Name → TraitImpl → DefPart
  alone type_params i = record (plain site kind.Impl [] (length type_params)) {
    head = Some (trait_of (leads_to scope) (numbered (texts type_params)) i.target i.of);
    methods = ids_behind {A = ImplMethod} site.number i.methods;
    bounds = lowered.bounds_of (leads_to scope) site (numbered (texts type_params)) i.bounds;
  }

  alone_made : (type_params : List Name) (i : TraitImpl) → Kept scope (mentioned.written_type (scope_with (of_params type_params)) i.target)
      → Kept scope (named_mentions (scope_with (of_params type_params)) (wants.One kinds.Trait) i.of None) → Kept scope (bounds_mentions (scope_with (of_params type_params)) i.bounds)
      → written_type i.target ≡ true → written_args i.of ≡ true → written_bounds i.bounds ≡ true → IsShort i.methods → IsMade p (alone type_params i)
  alone_made type_params i kept_self kept_of kept_bounds spelled_self spelled_of spelled_bounds few =
      let params : Params = numbered (texts type_params) in
      let n : ℕ = length type_params in
      record {
        has = record { parent = refl; head = refl; drop_self = refl; result = refl; term = refl; fields = refl; one_variant = tt; methods = tt; drop_impl = refl; params = refl; bounds = tt; bodies = refl; body = tt };
        short = record {
          variants = omega arith;
          fields = All-nil (λ (ts : List Tree). IsShort ts);
          methods = ids_short site.number i.methods few;
          params = omega arith;
          bounds = bounds_short (leads_to scope) site params i.bounds spelled_bounds;
        };
        fields = All-nil (All (IsTypeIn p n));
        head = trait_in p scope leads (scope_with (of_params type_params)) params n (params_in_scope type_params) i.target i.of kept_self kept_of spelled_self spelled_of;
        drop_self = tt;
        params = All-nil (IsTypeIn p n);
        result = tt;
        term = tt;
        bounds = bounds_in p scope leads (scope_with (of_params type_params)) params n (params_in_scope type_params) site i.bounds kept_bounds spelled_bounds;
        body = tt;
        drop_impl = refl;
      }

  -- what a method mentions, behind the method that it is
  given_kept : (outer : List Name) (tr : Path) (m : ImplMethod) → Kept scope (impl_method_mentions (of_params outer) tr m) → Kept scope (given_mentions (of_params outer) m.function)
  given_kept outer tr m kept =
      All-tail (λ m. broken scope m.what ≡ []) (member_at (wants.One kinds.Method) tr m.function.name (length m.function.type_params) (Some (length m.function.signature.params))) (given_mentions (of_params outer) m.function) kept

  pub impl_made : (krate : List ℕ) (line : ℕ) (type_params : List Name) (i : TraitImpl)
      → Kept scope (trait_head_mentions krate line (scope_with (of_params type_params)) type_params i ++ given_by_trait_mentions (of_params type_params) i) → written_trait_impl i ≡ true
      → All (IsMade p) (impl_parts (leads_to scope) site type_params i)
  unfolding impl_parts trait_head_mentions given_by_trait_mentions written_trait_impl
  impl_made krate line type_params i kept written =
      let occurs : List Mention = impl_params_mentions type_params (i.target ∷ i.of.args) in
      let of : List Mention = named_mentions (scope_with (of_params type_params)) (wants.One kinds.Trait) i.of None in
      let self : List Mention = mentioned.written_type (scope_with (of_params type_params)) i.target in
      let local : List Mention = at line (whats.Head (head_names_crate krate i)) ∷ [] in
      let bounds : List Mention = bounds_mentions (scope_with (of_params type_params)) i.bounds in
      let given : List Mention = flat_map (impl_method_mentions (of_params type_params) i.of.path) i.methods in
      let front = kept_left scope (occurs ++ of ++ self) local (kept_left scope (occurs ++ of ++ self ++ local) (bounds ++ given) kept) in
      let back = kept_right scope (occurs ++ of ++ self ++ local) (bounds ++ given) kept in
      let typed : Bool = written_args i.of && written_type i.target in
      let bounded : Bool = typed && written_bounds i.bounds in
      let methods : Bool = few_each (λ m. written_function m.function) i.methods in
      let first : bounded ≡ true = and_left bounded methods written in
      let second : typed ≡ true = and_left typed (written_bounds i.bounds) first in
      let spelled : methods ≡ true = and_right bounded methods written in
      let method : ImplMethod → DefPart = given_part (leads_to scope) site (path_named i.of.path) (texts type_params) in
      All-cons (IsMade p) (alone type_params i) (map method i.methods)
      (alone_made type_params i (kept_right scope (occurs ++ of) self front) (kept_right scope occurs of (kept_left scope (occurs ++ of) self front)) (kept_left scope bounds given back)
      (and_right (written_args i.of) (written_type i.target) second) (and_left (written_args i.of) (written_type i.target) second) (and_right typed (written_bounds i.bounds) first)
      (each_few (λ (m : ImplMethod). written_function m.function) i.methods spelled))
      (All-map (IsMade p) method i.methods
      (All-both (λ m. Kept scope (impl_method_mentions (of_params type_params) i.of.path m)) (λ m. written_function m.function ≡ true) (λ m. IsMade p (method m))
      (λ m kept_m written_m. given_made (path_named i.of.path) type_params m (given_kept type_params i.of.path m kept_m) written_m) i.methods
      (All-from_flat_map (λ m. broken scope m.what ≡ []) (impl_method_mentions (of_params type_params) i.of.path) i.methods (kept_right scope bounds given back))
      (each_passes (λ (m : ImplMethod). written_function m.function) i.methods spelled)))
