-- A definition with a signature, bounds and a body, as functions and methods have them.
use Rattle.std.proofs.Common.{◌≡◌, ℕ, ◌+◌, List, [], ◌++◌, length, Bool, true, ◌&&◌, Option, None, Some, refl, sym, subst, arith}
use Rattle.std.proofs.lemmas.List.{length-map}
use Rattle.std.proofs.lemmas.List.Elements.{All-nil}
use Rattle.std.specs.List.{All}
use Rattle.std.specs.Option.{option_map, option_map_or}
use Rattle.std.specs.Prelude.{IfSome}
use Rattle.mm_ast.specs.declared.bodies.Body.{Body}
use Rattle.mm_ast.specs.declared.items.Bound.{Bound}
use Rattle.mm_ast.specs.declared.items.Function.{Function}
use Rattle.mm_ast.specs.declared.items.Signature.{Signature}
use Rattle.mm_lower.specs.Bodies.{body_of}
use Rattle.mm_lower.specs.Items.{Site, plain, with_signature, with_body}
use Rattle.mm_lower.specs.Params.{Params}
use Rattle.mm_lower.specs.Types.{type_of, types_of, result_of}
use Rattle.mm_mentions.specs.BodyMentions.{body_mentions}
use Rattle.mm_mentions.specs.declared.mention.Mention.{Mention}
use Rattle.mm_mentions.specs.FunctionMentions.{signature_mentions, bounds_mentions, function_mentions}
use Rattle.mm_mentions.specs.Scopes as mentions
use Rattle.mm_program.specs.declared.kind.DefKind.{DefKind}
use Rattle.mm_program.specs.declared.parts.DefPart.{DefPart}
use Rattle.mm_program.specs.declared.parts.Parts.{Parts}
use Rattle.mm_program.specs.Bodies.{IsBodyIn}
use Rattle.mm_program.specs.Types.{IsTypeIn}
use Rattle.mm_program.specs.Valid.{HasItsParts, IsShort}
use Rattle.mm_resolve.specs.Scopes.{Scope, leads_to}
use Rattle.mm_terms.proofs.ListLemmas.{and_left, and_right}
use Rattle.mm_terms.specs.declared.ids.DefId.{DefId}
use Rattle.mm_terms.specs.declared.tree.Tree.{Tree}
use Rattle.mm_written.specs.Bodies.{written_body}
use Rattle.mm_written.specs.Items.{written_function, written_signature, written_bounds}
use Rattle.mm_written.specs.Names.{written_name, written_names}
use Rattle.mm_written.specs.Types.{written_types, written_result}
use Rattle.mm_load.specs.Leads.{Leads, Kept, InScope}
use Rattle.mm_load.proofs.BodiesIn.{body_in}
use Rattle.mm_load.proofs.Made.{IsMade}
use Rattle.mm_load.proofs.MadeLists.{kept_left, kept_right, types_short, bounds_short}
use Rattle.mm_load.proofs.SignaturesIn.{params_in, result_in, bounds_in}

pub params_short : (scope : Scope) (params : Params) (s : Signature) → written_signature s ≡ true → IsShort (types_of (leads_to scope) params s.params)
unfolding written_signature
params_short scope params s written = types_short (leads_to scope) params s.params (and_left (written_types s.params) (written_result s.result) written)

module _ (p : Parts) (scope : Scope) (leads : Leads p (leads_to scope)) (names : mentions.Scope) (params : Params) (n : ℕ) (in_scope : InScope names params n) where
  -- the body of a part that has this signature, where there is a body
  code_body : (part : DefPart) (s : Signature) (body : Option Body) → part.type_params ≡ n → part.params ≡ types_of (leads_to scope) params s.params → part.result ≡ Some (result_of (leads_to scope) params s.result)
      → Kept scope (signature_mentions names s) → Kept scope (option_map_or (body_mentions names (length s.params)) body []) → written_signature s ≡ true → option_map_or (written_body (length s.params)) body true ≡ true
      → IfSome (option_map (body_of (leads_to scope) params (result_of (leads_to scope) params s.result) (types_of (leads_to scope) params s.params)) body) (IsBodyIn p part)
  code_body part s None of_n of_params of_result kept_s kept_b written_s written_b = tt
  code_body part s (Some body) of_n of_params of_result kept_s kept_b written_s written_b =
      let tys : List Tree = types_of (leads_to scope) params s.params in
      let long : length tys ≡ length s.params = length-map s.params (type_of (leads_to scope) params) in
      body_in p scope leads names params n in_scope part (result_of (leads_to scope) params s.result) tys (length s.params) body of_n of_params of_result
      (result_in p scope leads names params n in_scope s kept_s written_s)
      (params_in p scope leads names params n in_scope s kept_s written_s)
      (subst (λ k. Kept scope (body_mentions names k body)) (sym long) kept_b)
      written_b
      (omega (arith, long))

  module _ (site : Site) where
    -- with these marks, and of this trait or impl
    abbrev pub coded : DefKind → List ℕ → Bool → Bool → Option DefId → Signature → List Bound → Option Body → DefPart
    coded k path is_pub is_inline parent s bounds body =
        with_body (leads_to scope) site params s body (with_signature (leads_to scope) site params s bounds
        (record (plain site k path n) { is_pub = is_pub; is_inline = is_inline; parent = parent }))

    pub code_made : (k : DefKind) (path : List ℕ) (is_pub is_inline : Bool) (parent : Option DefId) (s : Signature) (bounds : List Bound) (body : Option Body)
        → HasItsParts (coded k path is_pub is_inline parent s bounds body)
        → Kept scope (signature_mentions names s) → Kept scope (bounds_mentions names bounds) → Kept scope (option_map_or (body_mentions names (length s.params)) body [])
        → written_signature s ≡ true → written_bounds bounds ≡ true → option_map_or (written_body (length s.params)) body true ≡ true
        → IsMade p (coded k path is_pub is_inline parent s bounds body)
    code_made k path is_pub is_inline parent s bounds body has kept_s kept_w kept_b written_s written_w written_b = record {
      has = has;
      short = record {
        variants = omega arith;
        fields = All-nil (λ (ts : List Tree). IsShort ts);
        methods = omega arith;
        params = params_short scope params s written_s;
        bounds = bounds_short (leads_to scope) site params bounds written_w;
      };
      fields = All-nil (All (IsTypeIn p n));
      head = tt;
      drop_self = tt;
      params = params_in p scope leads names params n in_scope s kept_s written_s;
      result = result_in p scope leads names params n in_scope s kept_s written_s;
      term = tt;
      bounds = bounds_in p scope leads names params n in_scope site bounds kept_w written_w;
      body = code_body (coded k path is_pub is_inline parent s bounds body) s body refl refl refl kept_s kept_b written_s written_b;
      drop_impl = refl;
    }

    -- as a written function has them
    pub coded_made : (k : DefKind) (path : List ℕ) (is_pub : Bool) (parent : Option DefId) (f : Function) → HasItsParts (coded k path is_pub f.is_inline parent f.signature f.bounds (Some f.body))
        → Kept scope (function_mentions names f) → written_function f ≡ true → IsMade p (coded k path is_pub f.is_inline parent f.signature f.bounds (Some f.body))
    unfolding function_mentions written_function
    coded_made k path is_pub parent f has kept written =
        let s : List Mention = signature_mentions names f.signature in
        let w : List Mention = bounds_mentions names f.bounds in
        let b : List Mention = body_mentions names (length f.signature.params) f.body in
        let front = kept_left scope (s ++ w) b kept in
        let named : Bool = written_name f.name && written_names f.type_params in
        let headed : Bool = named && written_signature f.signature in
        let bounded : Bool = headed && written_bounds f.bounds in
        let first : bounded ≡ true = and_left bounded (written_body (length f.signature.params) f.body) written in
        let second : headed ≡ true = and_left headed (written_bounds f.bounds) first in
        code_made k path is_pub f.is_inline parent f.signature f.bounds (Some f.body) has
        (kept_left scope s w front) (kept_right scope s w front) (kept_right scope (s ++ w) b kept)
        (and_right named (written_signature f.signature) second)
        (and_right headed (written_bounds f.bounds) first)
        (and_right bounded (written_body (length f.signature.params) f.body) written)
