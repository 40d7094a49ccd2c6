-- Traits and their methods, as they are made.
use Rattle.std.proofs.Common.{◌≡◌, ℕ, ◌+◌, List, [], ◌∷◌, ◌++◌, length, map, Bool, true, ◌&&◌, Some, refl, arith}
use Rattle.std.proofs.lemmas.List.Elements.{All-nil, All-cons, All-map}
use Rattle.std.specs.List.{All}
use Rattle.std.specs.Option.{option_map_or}
use Rattle.mm_ast.specs.declared.items.Method.{Method}
use Rattle.mm_ast.specs.declared.items.Trait.{Trait}
use Rattle.mm_ast.specs.declared.names.Name.{Name}
use Rattle.mm_definitions.specs.Paths.{path_in}
use Rattle.mm_lower.specs.Items.{Site, path_here, plain, ids_behind, method_part, trait_parts}
use Rattle.mm_lower.specs.Params.{numbered, self_name, texts}
use Rattle.mm_lower.specs.Paths.{def_id}
use Rattle.mm_mentions.specs.BodyMentions.{body_mentions}
use Rattle.mm_mentions.specs.declared.mention.Mention.{Mention}
use Rattle.mm_mentions.specs.FunctionMentions.{signature_mentions, bounds_mentions, method_in, method_mentions, methods_mentions}
use Rattle.mm_mentions.specs.Scopes as mentions
use Rattle.mm_mentions.specs.Scopes.{of_params, scope_of}
use Rattle.mm_program.specs.declared.kind.DefKind.TheVariants as kind
use Rattle.mm_program.specs.declared.parts.DefPart.{DefPart}
use Rattle.mm_program.specs.declared.parts.Parts.{Parts}
use Rattle.mm_program.specs.Types.{IsTypeIn, IsHeadIn}
use Rattle.mm_program.specs.Valid.{IsShort}
use Rattle.mm_resolve.specs.Scopes.{Scope, leads_to}
use Rattle.mm_rules.specs.MentionRules.{broken}
use Rattle.mm_terms.proofs.ListLemmas.{All-both, All-from_flat_map, and_left, and_right}
use Rattle.mm_terms.specs.declared.tree.Tree.{Tree}
use Rattle.mm_written.specs.Bodies.{written_body}
use Rattle.mm_written.specs.Items.{written_trait, written_method, written_signature, written_bounds}
use Rattle.mm_written.specs.Lists.{few_each}
use Rattle.mm_written.specs.Names.{written_name, written_names}
use Rattle.mm_load.specs.Leads.{Leads, Kept}
use Rattle.mm_load.proofs.Made.{IsMade}
use Rattle.mm_load.proofs.MadeCode.{code_made}
use Rattle.mm_load.proofs.MadeLists.{kept_left, kept_right, each_few, each_passes, ids_short}
use Rattle.mm_load.proofs.ParamsInScope.{method_in_scope}

module _ (p : Parts) (scope : Scope) (leads : Leads p (leads_to scope)) (site : Site) (is_pub : Bool) where
  -- a method of a trait with this path and these type parameters
  method_made : (path : List ℕ) (outer : List Name) (m : Method) → Kept scope (method_mentions (of_params outer) m) → written_method m ≡ true → IsMade p (method_part (leads_to scope) site is_pub path (self_name ∷ texts outer) m)
  unfolding method_part method_in written_method
  method_made path outer m kept written =
      let names : mentions.Scope = scope_of (of_params outer) (of_params m.type_params) true in
      let s : List Mention = signature_mentions names m.signature in
      let w : List Mention = bounds_mentions names m.bounds in
      let b : List Mention = option_map_or (body_mentions names (length m.signature.params)) m.body [] in
      let front = kept_left scope (s ++ w) b kept in
      let named : Bool = written_name m.name && written_names m.type_params in
      let headed : Bool = named && written_signature m.signature in
      let bounded : Bool = headed && written_bounds m.bounds in
      let bodied : Bool = option_map_or (written_body (length m.signature.params)) m.body true in
      let first : bounded ≡ true = and_left bounded bodied written in
      let second : headed ≡ true = and_left headed (written_bounds m.bounds) first in
      code_made p scope leads names (numbered (self_name ∷ texts outer ++ texts m.type_params)) (length (self_name ∷ texts outer) + length m.type_params) (method_in_scope outer m.type_params) site
      kind.Method (path_in path m.name.text) is_pub m.is_inline (Some (def_id site.number)) m.signature m.bounds m.body
      (record { parent = refl; head = refl; drop_self = refl; result = refl; term = refl; fields = refl; one_variant = tt; methods = refl; drop_impl = refl; params = tt; bounds = tt; bodies = tt; body = tt })
      (kept_left scope s w front) (kept_right scope s w front) (kept_right scope (s ++ w) b kept)
      (and_right named (written_signature m.signature) second)
      (and_right headed (written_bounds m.bounds) first)
      (and_right bounded bodied written)

  -- the trait alone, which has no types
  abbrev alone : Trait → DefPart
  alone t = record (plain site kind.Trait (path_here (leads_to scope) site t.name) (length (self_name ∷ texts t.type_params))) { is_pub = is_pub; methods = ids_behind {A = Method} site.number t.methods }

  alone_made : (t : Trait) → IsShort t.methods → IsMade p (alone t)
  alone_made t few =
      let n : ℕ = length (self_name ∷ texts t.type_params) in
      record {
        has = record { parent = refl; head = refl; drop_self = refl; result = refl; term = refl; fields = refl; one_variant = tt; methods = tt; drop_impl = refl; params = refl; bounds = refl; bodies = refl; body = tt };
        short = record { variants = omega arith; fields = All-nil (λ (ts : List Tree). IsShort ts); methods = ids_short site.number t.methods few; params = omega arith; bounds = omega arith };
        fields = All-nil (All (IsTypeIn p n));
        head = tt;
        drop_self = tt;
        params = All-nil (IsTypeIn p n);
        result = tt;
        term = tt;
        bounds = All-nil (IsHeadIn p n);
        body = tt;
        drop_impl = refl;
      }

  pub trait_made : (t : Trait) → Kept scope (methods_mentions (of_params t.type_params) t.methods) → written_trait t ≡ true → All (IsMade p) (trait_parts (leads_to scope) site is_pub t)
  unfolding trait_parts written_trait
  trait_made t kept written =
      let spelled : few_each written_method t.methods ≡ true = and_right (written_name t.name && written_names t.type_params) (few_each written_method t.methods) written in
      let method : Method → DefPart = method_part (leads_to scope) site is_pub (path_here (leads_to scope) site t.name) (self_name ∷ texts t.type_params) in
      All-cons (IsMade p) (alone t) (map method t.methods) (alone_made t (each_few written_method t.methods spelled))
      (All-map (IsMade p) method t.methods
      (All-both (λ m. Kept scope (method_mentions (of_params t.type_params) m)) (λ m. written_method m ≡ true) (λ m. IsMade p (method m))
      (method_made (path_here (leads_to scope) site t.name) t.type_params) t.methods
      (All-from_flat_map (λ m. broken scope m.what ≡ []) (method_mentions (of_params t.type_params)) t.methods kept)
      (each_passes written_method t.methods spelled)))
