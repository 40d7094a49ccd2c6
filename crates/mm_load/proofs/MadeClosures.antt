-- Closures, as they are made.
use Rattle.std.proofs.Common.{◌≡◌, ℕ, ◌+◌, ◌<◌, ◌^◌, List, [], ◌∷◌, ◌++◌, length, Bool, true, ◌&&◌, refl, sym, subst, arith}
use Rattle.std.proofs.lemmas.Bool.{ltb-true}
use Rattle.std.proofs.lemmas.List.{length-map}
use Rattle.std.proofs.lemmas.List.Elements.{All-nil, All-cons}
use Rattle.std.specs.List.{All}
use Rattle.mm_ast.specs.declared.items.Closure.{Closure}
use Rattle.mm_lower.specs.Items.{Site, self_ref, closure_part}
use Rattle.mm_lower.specs.Params.{Params, numbered, texts}
use Rattle.mm_lower.specs.Paths.{def_id}
use Rattle.mm_lower.specs.Types.{type_of, types_of, result_of}
use Rattle.mm_mentions.specs.BodyMentions.{body_mentions}
use Rattle.mm_mentions.specs.declared.mention.Mention.{Mention}
use Rattle.mm_mentions.specs.FunctionMentions.{scope_with, signature_mentions, closure_mentions}
use Rattle.mm_mentions.specs.Scopes as mentions
use Rattle.mm_mentions.specs.TypeMentions as mentioned
use Rattle.mm_program.specs.declared.kind.DefKind.TheVariants as kind
use Rattle.mm_program.specs.declared.parts.Parts.{Parts}
use Rattle.mm_program.specs.Types.{IsTypeIn, IsHeadIn}
use Rattle.mm_program.specs.Valid.{IsShort}
use Rattle.mm_program.specs.Views.{IsOfKind, type_params_of}
use Rattle.mm_resolve.specs.Scopes.{Scope, leads_to}
use Rattle.mm_terms.proofs.ListLemmas.{and_left, and_right}
use Rattle.mm_terms.specs.declared.tree.Tree.{Tree}
use Rattle.mm_written.specs.Bodies.{written_block, written_body, few_locals}
use Rattle.mm_written.specs.Items.{written_closure, written_signature}
use Rattle.mm_written.specs.Lists.{some, few_each, few_in_self}
use Rattle.mm_written.specs.Names.{written_name, written_names}
use Rattle.mm_written.specs.Types.{written_types}
use Rattle.mm_load.specs.Leads.{Leads, Kept, InScope}
use Rattle.mm_load.proofs.BodiesIn.{body_in}
use Rattle.mm_load.proofs.Made.{IsMade}
use Rattle.mm_load.proofs.MadeLists.{kept_left, kept_right, types_short}
use Rattle.mm_load.proofs.ParamsInScope.{params_in_scope}
use Rattle.mm_load.proofs.SelfIn.{self_ref_in}
use Rattle.mm_load.proofs.SignaturesIn.{params_in, result_in}
use Rattle.mm_load.proofs.TypesIn.{all_written_in}

-- what is written of a closure
record Written (c : Closure) : Type 0 where
  captures : written_types c.captures ≡ true
  signature : written_signature c.signature ≡ true
  body : written_body (length c.signature.params) c.body ≡ true
  few_args : length c.type_params + 2 < 2 ^ 32

written_parts : (c : Closure) → written_closure c ≡ true → Written c
unfolding written_closure
written_parts c written =
    let named : Bool = written_name c.name && written_names c.type_params in
    let caught : Bool = named && written_types c.captures in
    let headed : Bool = caught && written_signature c.signature in
    let bodied : Bool = headed && written_body (length c.signature.params) c.body in
    let few : Bool = few_in_self c.type_params in
    let first : bodied ≡ true = and_left bodied few written in
    let second : headed ≡ true = and_left headed (written_body (length c.signature.params) c.body) first in
    record {
      captures = and_right named (written_types c.captures) (and_left caught (written_signature c.signature) second);
      signature = and_right caught (written_signature c.signature) second;
      body = and_right headed (written_body (length c.signature.params) c.body) first;
      few_args = ltb-true (length c.type_params + 2) 4294967296 (and_right bodied few written);
    }

-- a body leaves room for one parameter more than it is written with
params_few : (params : ℕ) (c : Closure) → written_body params c.body ≡ true → params + 1 < 2 ^ 32
unfolding written_body
params_few params c written =
    let few : Bool = few_locals params (length c.body.lets) in
    let typed : Bool = few && written_types c.body.lets in
    let begun : Bool = typed && some c.body.blocks in
    let below = ltb-true (params + length c.body.lets + 2) 4294967296 (and_left few (written_types c.body.lets) (and_left typed (some c.body.blocks) (and_left begun (few_each written_block c.body.blocks) written))) in
    omega (arith, below)

module _ (p : Parts) (scope : Scope) (leads : Leads p (leads_to scope)) (site : Site) (c : Closure) where
  abbrev names : mentions.Scope
  names = scope_with (mentions.of_params c.type_params)

  abbrev params : Params
  params = numbered (texts c.type_params)

  abbrev n : ℕ
  n = length c.type_params

  abbrev in_scope : InScope names params n
  in_scope = params_in_scope c.type_params

  abbrev tys : List Tree
  tys = types_of (leads_to scope) params c.signature.params

  long : length (self_ref (leads_to scope) site c.type_params ∷ tys) ≡ length c.signature.params + 1
  long = omega (arith, length-map c.signature.params (type_of (leads_to scope) params))

  pub closure_made : (is_pub : Bool) → Kept scope (closure_mentions names c) → written_closure c ≡ true → IsOfKind p (def_id site.number) kind.Closure → length c.type_params ≡ type_params_of p (def_id site.number)
      → IsMade p (closure_part (leads_to scope) site is_pub c)
  unfolding closure_part closure_mentions
  closure_made is_pub kept written is count =
      let captured : List Mention = mentioned.written_types names c.captures in
      let signed : List Mention = signature_mentions names c.signature in
      let bodied : List Mention = body_mentions names (length c.signature.params + 1) c.body in
      let front = kept_left scope (captured ++ signed) bodied kept in
      let kept_s : Kept scope signed = kept_right scope captured signed front in
      let has = written_parts c written in
      let self_in = self_ref_in p scope site c.type_params is count has.few_args in
      let result = result_in p scope leads names params n in_scope c.signature kept_s has.signature in
      let all_in : All (IsTypeIn p n) (self_ref (leads_to scope) site c.type_params ∷ tys) =
      All-cons (IsTypeIn p n) (self_ref (leads_to scope) site c.type_params) tys self_in (params_in p scope leads names params n in_scope c.signature kept_s has.signature) in
      record {
        has = record { parent = refl; head = refl; drop_self = refl; result = refl; term = refl; fields = tt; one_variant = refl; methods = refl; drop_impl = refl; params = tt; bounds = refl; bodies = tt; body = refl };
        short = record {
          variants = omega arith;
          fields = All-cons (λ (ts : List Tree). IsShort ts) (types_of (leads_to scope) params c.captures) [] (types_short (leads_to scope) params c.captures has.captures) (All-nil (λ (ts : List Tree). IsShort ts));
          methods = omega arith;
          params = omega (arith, long, params_few (length c.signature.params) c has.body);
          bounds = omega arith;
        };
        fields = All-cons (All (IsTypeIn p n)) (types_of (leads_to scope) params c.captures) []
            (all_written_in p scope leads names params n in_scope c.captures (kept_left scope captured signed front) has.captures) (All-nil (All (IsTypeIn p n)));
        head = tt;
        drop_self = tt;
        params = all_in;
        result = result;
        term = tt;
        bounds = All-nil (IsHeadIn p n);
        body = body_in p scope leads names params n in_scope (closure_part (leads_to scope) site is_pub c) (result_of (leads_to scope) params c.signature.result)
            (self_ref (leads_to scope) site c.type_params ∷ tys) (length c.signature.params) c.body refl refl refl result all_in
            (subst (λ k. Kept scope (body_mentions names k c.body)) (sym long) (kept_right scope (captured ++ signed) bodied kept))
            has.body (omega (arith, long));
        drop_impl = refl;
      }
