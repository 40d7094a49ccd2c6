-- What is written for signatures, bounds, functions, closures and methods are the fewest tokens that spell them. A result that is
-- `()` is not written, so a signature that was spelled with it is written with fewer tokens.
use Rattle.std.proofs.Common.{◌≡◌, inl, inr, ℕ, List, [], ◌∷◌, ◌++◌, map, Bool, true, false, cond, Option, None, Some, refl, sym, ap, subst, ◌∙◌, append_assoc, arith}
use Rattle.std.specs.Prelude.{flat_map}
use Rattle.mm_names.specs.declared.word.Word as word_type
use Rattle.mm_names.specs.declared.word.Word.TheVariants as words
use Rattle.mm_lex.specs.declared.punct.Punct.TheVariants as puncts
use Rattle.mm_lex.specs.Lexemes.{LexemeKind, Word, Punct}
use Rattle.mm_ast.specs.declared.types.Type as types
use Rattle.mm_ast.specs.declared.types.Type.TheViews.{out-Type}
use Rattle.mm_forms.specs.Forms.{Map}
use Rattle.mm_grammar.specs.declared.heads.FnHead.{FnHead}
use Rattle.mm_grammar.specs.declared.heads.ClosureHead.{ClosureHead}
use Rattle.mm_grammar.specs.Rules.{Sort, Types, Value, bare, flag}
use Rattle.mm_grammar.specs.Grammar.{ty, some_types, path_args, body}
use Rattle.mm_grammar.specs.ItemGrammar.{next_param, more_params, some_params, param_types, result_type, is_unit, result_of, signature, bound_form, bound, next_bound, more_bounds, some_bounds, bounds, bounded, generic, fn_name, fn_head, first_let, function, captures, capturing, generic_capturing, closure_head, first_closure_let, closure, method_body, method}
use Rattle.mm_shape.specs.Spellings.{spelled_by}
use Rattle.mm_shape.specs.Shapes.{AllTokens}
use Rattle.mm_shape.proofs.Twins.{twin}
use Rattle.mm_spell.specs.Listed.{behind_comma, listed, in_parens}
use Rattle.mm_spell.specs.TypeTokens.{name_tokens, params_tokens, type_tokens, types_tokens, path_args_tokens}
use Rattle.mm_spell_bodies.specs.BodyTokens.{body_tokens}
use Rattle.mm_print.specs.ItemTokens.{flag_tokens, result_tokens, signature_tokens, bound_form_tokens, bound_tokens, bounds_tokens, function_tokens, captures_tokens, closure_tokens, method_body_tokens, method_tokens}
use Rattle.mm_shape.proofs.Writing.{w_bare, none_shorter, Parts, Sorted, Fewest, Rules, lifted, w_nothing, w_word, w_punct, w_then, w_both, w_or, w_many, w_many_numbered, w_made, w_map, w_at, w_inner, w_below, w_as, w_optional, w_closed, w_list}
use Rattle.mm_print.proofs.TypeWriting.{name_written, params_written}
use Rattle.mm_print.proofs.Units.{results_same_by}

-- what stands behind the last of two stands behind both
pub behind : (xs ys rest : List LexemeKind) {whole : List LexemeKind} → ys ++ rest ≡ whole → (xs ++ ys) ++ rest ≡ xs ++ whole
behind xs ys rest is = append_assoc xs ys rest ∙ ap (λ zs. xs ++ zs) is

abbrev fn_tokens : FnHead → List LexemeKind
fn_tokens h =
    flag_tokens h.is_inline words.Inline ++ Word words.Fn ∷ (name_tokens h.name ++ (params_tokens h.type_params ++ (signature_tokens h.signature ++ bounds_tokens h.bounds)))

fn_behind : (h : FnHead) (rest : List LexemeKind) → fn_tokens h ++ rest
    ≡ flag_tokens h.is_inline words.Inline ++ Word words.Fn ∷ (name_tokens h.name ++ (params_tokens h.type_params ++ (signature_tokens h.signature ++ (bounds_tokens h.bounds ++ rest))))
fn_behind h rest =
    behind (flag_tokens h.is_inline words.Inline) _ rest (ap (λ ks. Word words.Fn ∷ ks) (behind (name_tokens h.name) _ rest (behind (params_tokens h.type_params) _ rest
    (append_assoc (signature_tokens h.signature) (bounds_tokens h.bounds) rest))))

abbrev closure_head_tokens : ClosureHead → List LexemeKind
closure_head_tokens h = Word words.Closure ∷ (name_tokens h.name ++ (params_tokens h.type_params ++ (captures_tokens h.captures ++ signature_tokens h.signature)))

closure_behind : (h : ClosureHead) (rest : List LexemeKind) → closure_head_tokens h ++ rest
    ≡ Word words.Closure ∷ (name_tokens h.name ++ (params_tokens h.type_params ++ (captures_tokens h.captures ++ (signature_tokens h.signature ++ rest))))
closure_behind h rest =
    ap (λ ks. Word words.Closure ∷ ks) (behind (name_tokens h.name) _ rest (behind (params_tokens h.type_params) _ rest
    (append_assoc (captures_tokens h.captures) (signature_tokens h.signature) rest)))

module _ {M : Parts} where
  pub flag_written : {k : ℕ} (w : word_type.Word) → Rules M (flag w) k (λ b. flag_tokens b w)
  flag_written w = w_or (w_bare w refl) (w_nothing refl)

module _ (M : Parts) where
  -- nothing, where there is no result
  unwritten : (others : List LexemeKind) → Fewest (spelled_by M.spelled (Map result_of result_type) 0 None) [] others
  unfolding result_type
  unwritten others = record { tokens = tt; spelled = (None, refl, inr (refl, refl)); few = none_shorter others }

  -- a result, which is `()` or is not
  shown : Rules M result_type 0 result_tokens → (t : types.«Type») (unit : Bool) → unit ≡ is_unit (out-Type t).head (out-Type t).children → (others : List LexemeKind) → AllTokens others → spelled_by M.spelled result_type 0 (Some t) others
      → Fewest (spelled_by M.spelled (Map result_of result_type) 0 (cond unit None (Some t))) (result_tokens (cond unit None (Some t))) others
  shown r t true is others all s = unwritten others
  shown r t false is others all s = lifted (λ ks x. (Some t, ap (λ u. cond u None (Some t)) is, x)) (r.writes (Some t) others all s)

  shown_of : Rules M result_type 0 result_tokens → (result : Option types.«Type») (others : List LexemeKind) → AllTokens others → spelled_by M.spelled result_type 0 result others
      → Fewest (spelled_by M.spelled (Map result_of result_type) 0 (result_of result)) (result_tokens (result_of result)) others
  shown_of r None others all s = unwritten others
  shown_of r (Some t) others all s = shown r t (is_unit (out-Type t).head (out-Type t).children) refl others all s

module _ {M : Parts} (type_writes : Sorted M Types type_tokens) where
  pub ty_written : {k : ℕ} → Rules M ty k type_tokens
  ty_written = w_inner {s = Types} type_writes

  pub more_params_written : Rules M more_params 0 (λ ts. flat_map behind_comma (map type_tokens ts))
  unfolding more_params next_param
  more_params_written = w_many_numbered {T = λ t. Punct puncts.Comma ∷ type_tokens t} refl (λ t ts. refl) (λ i. w_punct puncts.Comma (w_below {s = Types} type_writes))

  pub some_params_written : Rules M some_params 0 types_tokens
  unfolding some_params
  some_params_written = w_list {U = λ ts. flat_map behind_comma (map type_tokens ts)} (λ t ts. refl) ty_written more_params_written

  pub param_types_written : Rules M param_types 0 (λ ts. in_parens (types_tokens ts))
  unfolding param_types
  param_types_written = w_punct puncts.Open (w_closed puncts.Close refl some_params_written)

  pub result_type_written : Rules M result_type 0 result_tokens
  unfolding result_type
  result_type_written = w_optional refl (w_punct puncts.Arrow ty_written)

  -- of two results that are written alike both are `()` or none is
  results_same : (r u : Option types.«Type») (ks : List LexemeKind) → twin M.twins result_type 0 r u ks → result_tokens (result_of r) ≡ result_tokens (result_of u)
  unfolding result_type
  results_same r u ks (inl (a, b, p, q, t)) =
      let same = type_writes.same a b t.back t.second in
      ap (λ z. result_tokens (result_of z)) p ∙ results_same_by a b same ∙ sym (ap (λ z. result_tokens (result_of z)) q)
  results_same r u ks (inr t) = ap (λ z. result_tokens (result_of z)) (t.0 ∙ sym t.1)

  pub result_written : Rules M (Map result_of result_type) 0 result_tokens
  result_written = record {
    writes = λ r others all s. subst (λ z. Fewest (spelled_by M.spelled (Map result_of result_type) 0 z) (result_tokens z) others) (sym s.1) (shown_of M result_type_written s.0 others all s.2);
    same = λ x y ks t. ap result_tokens t.2 ∙ results_same t.0 t.1 ks t.4 ∙ sym (ap result_tokens t.3);
  }

  pub signature_written : Rules M signature 0 signature_tokens
  unfolding signature
  signature_written = record {
    writes = λ sig others all s.
        lifted (λ ks x. ((sig.params, x.second.0), ap (λ r. record { params = sig.params; result = r }) x.second.1, record { front = x.front; back = x.back; is = x.is; first = x.first; second = x.second.2 }))
        ((w_both param_types_written result_written).writes (sig.params, sig.result) others all
        (record { front = s.2.front; back = s.2.back; is = s.2.is; first = subst (λ ts. spelled_by M.spelled param_types 0 ts s.2.front) (sym (ap (λ z. z.params) s.1)) s.2.first; second = (s.0.1, ap (λ z. z.result) s.1, s.2.second) }));
    same = λ x y ks t.
        let params = param_types_written.same t.0.0 t.1.0 t.4.1.front t.4.1.first in
        let results = results_same t.0.1 t.1.1 t.4.1.back t.4.1.second in
        ap signature_tokens t.2 ∙ (λ i. params i ++ results i) ∙ sym (ap signature_tokens t.3);
  }

module _ {M : Parts} (type_writes : Sorted M Types type_tokens) (path_args_written : Rules M path_args 0 path_args_tokens) where
  pub bound_form_written : Rules M bound_form 0 bound_form_tokens
  unfolding bound_form
  bound_form_written = w_or (w_bare words.CallTrait refl) (w_map path_args_written)

  pub bound_written : Rules M bound 0 bound_tokens
  unfolding bound
  bound_written = w_map (w_both (ty_written type_writes) (w_punct puncts.Colon bound_form_written))

  pub some_bounds_written : Rules M some_bounds 0 (λ bs. listed (map bound_tokens bs))
  unfolding some_bounds more_bounds next_bound
  some_bounds_written =
      w_list {U = λ bs. flat_map behind_comma (map bound_tokens bs)} (λ b bs. refl) bound_written
      (w_many {T = λ b. Punct puncts.Comma ∷ bound_tokens b} refl (λ b bs. refl) (w_punct puncts.Comma bound_written))

  pub bounds_written : Rules M bounds 0 bounds_tokens
  unfolding bounds some_bounds
  bounds_written =
      w_or
      (w_as {U = λ bs. Word words.Where ∷ listed (map bound_tokens bs)}
      (λ bs ks s. ap bounds_tokens s.second.1 ∙ sym (ap (λ ys. Word words.Where ∷ listed (map bound_tokens ys)) s.second.1))
      (w_word words.Where some_bounds_written))
      (w_nothing refl)

  fn_head_written : Rules M fn_head 0 fn_tokens
  unfolding fn_head fn_name generic bounded
  fn_head_written = w_map (w_both (flag_written words.Inline) (w_word words.Fn (w_both name_written (w_both params_written (w_both (signature_written type_writes) bounds_written)))))

  module _ (body_written : (k : ℕ) → Rules M body k (body_tokens k)) where
    pub function_written : Rules M function 0 function_tokens
    unfolding function
    function_written = w_made {U = λ p. fn_tokens p.0 ++ body_tokens (first_let p.0) p.1} (λ p. sym (fn_behind p.0 (body_tokens (first_let p.0) p.1))) (w_then fn_head_written body_written)

    method_body_written : (k : ℕ) → Rules M method_body k (method_body_tokens k)
    unfolding method_body
    method_body_written k =
        w_or (w_as {U = λ b. Punct puncts.Semicolon ∷ []} (λ b ks s. ap (method_body_tokens k) s.second.0) (w_punct puncts.Semicolon (w_nothing refl))) (w_map (body_written k))

    pub method_written : Rules M method 0 method_tokens
    unfolding method
    method_written =
        w_made {U = λ p. fn_tokens p.1.0 ++ method_body_tokens (first_let p.1.0) p.1.1} (λ p. sym (fn_behind p.1.0 (method_body_tokens (first_let p.1.0) p.1.1)))
        (w_at (w_then fn_head_written method_body_written))

module _ {M : Parts} (type_writes : Sorted M Types type_tokens) (some_types_written : Rules M some_types 0 types_tokens) where
  pub captures_written : Rules M captures 0 captures_tokens
  unfolding captures
  captures_written = w_punct puncts.OpenBracket (w_closed puncts.CloseBracket refl some_types_written)

  closure_head_written : Rules M closure_head 0 closure_head_tokens
  unfolding closure_head generic_capturing capturing
  closure_head_written = w_map (w_word words.Closure (w_both name_written (w_both params_written (w_both captures_written (signature_written type_writes)))))

  pub closure_written : ((k : ℕ) → Rules M body k (body_tokens k)) → Rules M closure 0 closure_tokens
  unfolding closure
  closure_written body_written =
      w_made {U = λ p. closure_head_tokens p.0 ++ body_tokens (first_closure_let p.0) p.1} (λ p. sym (closure_behind p.0 (body_tokens (first_closure_let p.0) p.1)))
      (w_then closure_head_written body_written)
