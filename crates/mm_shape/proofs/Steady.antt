-- Each rule of the grammar is steady: a signature and its twin have as many parameters.
use Rattle.std.proofs.Common.{◌≡◌, ◌⊎◌, inl, inr, ℕ, suc, ◌+◌, List, ◌∷◌, length, Bool, false, refl, sym, ap, ◌∙◌, rules}
use Rattle.mm_ast.specs.declared.items.Signature.{Signature}
use Rattle.mm_grammar.specs.declared.heads.FnHead.{FnHead}
use Rattle.mm_grammar.specs.declared.heads.ClosureHead.{ClosureHead}
use Rattle.mm_grammar.specs.Grammar.{otherwise, switch_head, cases, call_place, arguments, called_with, end_with_parts, block_end, body_blocks, dyn_target, some_types, path_shape, called_method, named_operand, binary, variant_name, built_rvalue, name, next_name, more_names, params, next_type, more_types, args, segment, more_segments, segments, path, path_args, tys, fields, tuple, reference, boxed, fn_pointer, behind_krate, named, shape, type_node, label, step, steps, base, place, call_method, trait_method, method_callee, callee, operand, next_operand, more_operands, operands, op, two_operands, new_head, new, dyn_trait, dyncast, rvalue, set, statement, statements, arm, arms, switch, called, call, drop_end, end, block, more_blocks, blocks, declared, lets, body}
use Rattle.mm_grammar.specs.TermGrammar.{next_term, more_terms, parts, new_term, term_shape, term_node}
use Rattle.mm_grammar.specs.ItemGrammar.{some_params, some_bounds, bounded, generic, fn_name, capturing, generic_capturing, struct_fields, generic_fields, some_variants, generic_variants, trait_methods, generic_methods, value_term, generic_term, drop_param, drop_fn, drop_braces, bounded_drop, impl_braces, bounded_methods, impl_target, impl_form, value_definition, crate_name, next_param, more_params, param_types, result_type, signature, bound_form, bound, next_bound, more_bounds, bounds, fn_head, first_let, first_closure_let, function, captures, closure_head, closure, field_types, struct_item, variant, next_variant, more_variants, variants, enum_item, method_body, method, methods, trait_item, typed_term, static_item, const_item, drop_method, drop_impl, impl_method, impl_methods, trait_impl, impl_item, definition_form, definition, module_entry, entry, item, more_items, braces, krate, more_crates, crates}
use Rattle.mm_ast.specs.declared.types.Type as types
use Rattle.mm_forms.specs.Forms.{Then, empty}
use Rattle.mm_grammar.specs.Codes.{code}
use Rattle.mm_lex.specs.declared.punct.Punct.TheVariants as puncts
use Rattle.mm_grammar.specs.Rules.{◌⋅◌, closed}
use Rattle.mm_grammar.specs.Reading.{start}
use Rattle.mm_lex.specs.Lexemes.{LexemeKind}
use Rattle.mm_grammar.specs.Rules.{Sort, Value}
use Rattle.mm_shape.proofs.Twins.{pairs_length, twin, steady}

module _ (N : (s : Sort) → Value s → Value s → List LexemeKind → Type 0) where
  params_twins : (x y : List types.«Type») (k : ℕ) (ks : List LexemeKind) → twin N param_types k x y ks → length x ≡ length y
  unfolding param_types some_params more_params next_param
  params_twins x y k ks t = by t.second
    where
      by : {js : List LexemeKind} → twin N (closed puncts.Close some_params) k x y js → length x ≡ length y
      by (inl r) = ap length (r.second.0 ∙ sym r.second.1)
      by (inr r) =
          let s = r.first in
          ap length s.2 ∙ ap suc (pairs_length _ 0 s.0.1 s.1.1 s.4.1.back s.4.1.second) ∙ sym (ap length s.3)

  signature_twins : (x y : Signature) (k : ℕ) (ks : List LexemeKind) → twin N signature k x y ks → length x.params ≡ length y.params
  unfolding signature
  signature_twins x y k ks t = ap (λ (s : Signature). length s.params) t.2 ∙ params_twins t.0.0 t.1.0 k t.4.1.front t.4.1.first ∙ sym (ap (λ (s : Signature). length s.params) t.3)

  fn_head_twins : (x y : FnHead) (k : ℕ) (ks : List LexemeKind) → twin N fn_head k x y ks → first_let x ≡ first_let y
  unfolding fn_head fn_name generic bounded
  fn_head_twins x y k ks t =
      let s = t.4.1.second.second.1.second.1.second.1 in
      ap first_let t.2 ∙ ap (λ n. 1 + n) (signature_twins t.0.1.1.1.0 t.1.1.1.1.0 0 s.front s.first) ∙ sym (ap first_let t.3)

  closure_head_twins : (x y : ClosureHead) (k : ℕ) (ks : List LexemeKind) → twin N closure_head k x y ks → first_closure_let x ≡ first_closure_let y
  unfolding closure_head generic_capturing capturing
  closure_head_twins x y k ks t =
      let s = t.4.second.1.second.1.second.1 in
      ap first_closure_let t.2 ∙ ap (λ n. 2 + n) (signature_twins t.0.1.1.1 t.1.1.1.1 0 s.back s.second) ∙ sym (ap first_closure_let t.3)

  pub type_steady : steady N type_node
  unfolding type_node shape path_shape some_types named behind_krate fn_pointer boxed reference tuple fields tys path_args path segments more_segments segment args more_types next_type
  type_steady = search rules

  pub term_steady : steady N term_node
  unfolding term_node term_shape variant_name called_method some_types new_term parts more_terms next_term new_head callee method_callee trait_method call_method name path_args path segments more_segments segment args more_types next_type
  term_steady = search rules

  body_steady : steady N body
  unfolding name next_name more_names params next_type some_types more_types args segment more_segments segments path path_args label step steps base place call_method trait_method called_method method_callee callee named_operand operand next_operand more_operands operands op two_operands binary variant_name new_head new dyn_trait dyn_target dyncast built_rvalue rvalue set statement statements arm arms otherwise switch_head cases switch called call_place arguments called_with call drop_end end_with_parts end block_end block more_blocks blocks declared lets body_blocks body
  body_steady = search rules

  fn_head_steady : steady N fn_head
  unfolding name next_name more_names params next_type some_types more_types args segment more_segments segments path path_args next_param more_params some_params param_types result_type signature bound_form bound next_bound more_bounds some_bounds bounds bounded generic fn_name fn_head tys captures capturing generic_capturing closure_head
  fn_head_steady = search rules

  closure_head_steady : steady N closure_head
  unfolding name next_name more_names params next_type some_types more_types args segment more_segments segments path path_args next_param more_params some_params param_types result_type signature bound_form bound next_bound more_bounds some_bounds bounds bounded generic fn_name fn_head tys captures capturing generic_capturing closure_head
  closure_head_steady = search rules

  bounds_steady : steady N bounds
  unfolding name next_name more_names params next_type some_types more_types args segment more_segments segments path path_args next_param more_params some_params param_types result_type signature bound_form bound next_bound more_bounds some_bounds bounds bounded generic fn_name fn_head tys captures capturing generic_capturing closure_head
  bounds_steady = search rules

  function_steady : steady N function
  unfolding function
  function_steady = (fn_head_twins, fn_head_steady, body_steady)

  closure_steady : steady N closure
  unfolding closure
  closure_steady = (closure_head_twins, closure_head_steady, body_steady)

  function_full : empty code start function ≡ false
  unfolding name next_name more_names params next_type some_types more_types args segment more_segments segments path path_args next_param more_params some_params param_types result_type signature bound_form bound next_bound more_bounds some_bounds bounds bounded generic fn_name fn_head tys captures capturing generic_capturing closure_head function
  function_full = refl

  method_full : empty code start (Then fn_head first_let method_body) ≡ false
  unfolding name next_name more_names params next_type some_types more_types args segment more_segments segments path path_args next_param more_params some_params param_types result_type signature bound_form bound next_bound more_bounds some_bounds bounds bounded generic fn_name fn_head tys captures capturing generic_capturing closure_head method_body body
  method_full = refl

  method_steady : steady N method
  unfolding method method_body
  method_steady = (method_full, (fn_head_twins, fn_head_steady, (tt, body_steady)))

  drop_steady : steady N drop_fn
  unfolding drop_fn drop_param
  drop_steady = (λ x y k ks t. refl, tt, body_steady)

  impl_method_steady : steady N impl_method
  unfolding impl_method
  impl_method_steady = (function_full, function_steady)

  name_steady : steady N name
  unfolding name
  name_steady = search rules

  params_steady : steady N params
  unfolding name next_name more_names params
  params_steady = search rules

  path_args_steady : steady N path_args
  unfolding name next_name more_names params next_type some_types more_types args segment more_segments segments path path_args next_param more_params some_params param_types result_type signature bound_form bound next_bound more_bounds some_bounds bounds bounded generic fn_name fn_head tys captures capturing generic_capturing closure_head
  path_args_steady = search rules

  drop_impl_steady : steady N drop_impl
  unfolding drop_impl bounded_drop drop_braces drop_method
  drop_impl_steady = (λ x y k ks t. refl, tt, (λ x y k ks t. refl, bounds_steady, (λ x y k ks t. refl, (tt, tt), drop_steady)))

  trait_impl_steady : steady N trait_impl
  unfolding trait_impl impl_target bounded_methods impl_braces impl_methods
  trait_impl_steady = (λ x y k ks t. refl, path_args_steady, (λ x y k ks t. refl, tt, (λ x y k ks t. refl, bounds_steady, impl_method_steady)))

  impl_steady : steady N impl_item
  unfolding impl_item impl_form
  impl_steady = (λ x y k ks t. refl, params_steady, (drop_impl_steady, trait_impl_steady))

  trait_steady : steady N trait_item
  unfolding trait_item generic_methods trait_methods methods
  trait_steady = (λ x y k ks t. refl, name_steady, (λ x y k ks t. refl, params_steady, method_steady))

  struct_steady : steady N struct_item
  unfolding name next_name more_names params next_type some_types more_types tys field_types struct_fields generic_fields struct_item variant next_variant more_variants some_variants variants generic_variants enum_item value_term typed_term static_item generic_term const_item
  struct_steady = search rules

  enum_steady : steady N enum_item
  unfolding name next_name more_names params next_type some_types more_types tys field_types struct_fields generic_fields struct_item variant next_variant more_variants some_variants variants generic_variants enum_item value_term typed_term static_item generic_term const_item
  enum_steady = search rules

  static_steady : steady N static_item
  unfolding name next_name more_names params next_type some_types more_types tys field_types struct_fields generic_fields struct_item variant next_variant more_variants some_variants variants generic_variants enum_item value_term typed_term static_item generic_term const_item
  static_steady = search rules

  const_steady : steady N const_item
  unfolding name next_name more_names params next_type some_types more_types tys field_types struct_fields generic_fields struct_item variant next_variant more_variants some_variants variants generic_variants enum_item value_term typed_term static_item generic_term const_item
  const_steady = search rules

  definition_steady : steady N definition
  unfolding definition definition_form value_definition
  definition_steady = (λ x y k ks t. refl, (tt, tt), (closure_steady, (struct_steady, (enum_steady, (trait_steady, (static_steady, (const_steady, function_steady)))))))

  entry_full : empty code start entry ≡ false
  unfolding entry module_entry impl_item definition definition_form value_definition closure closure_head struct_item enum_item trait_item static_item const_item function name next_name more_names params next_type some_types more_types args segment more_segments segments path path_args next_param more_params some_params param_types result_type signature bound_form bound next_bound more_bounds some_bounds bounds bounded generic fn_name fn_head tys captures capturing generic_capturing
  entry_full = refl

  item_steady : steady N item
  unfolding item entry module_entry
  item_steady = (entry_full, ((λ x y k ks t. refl, name_steady, tt), (impl_steady, definition_steady)))

  pub braces_steady : steady N braces
  unfolding braces more_items
  braces_steady = item_steady

  crate_full : empty code start (crate_name ⋅ more_items) ≡ false
  unfolding crate_name
  crate_full = refl

  krate_steady : steady N krate
  unfolding krate crate_name more_items
  krate_steady = (crate_full, (λ x y k ks t. refl, name_steady, item_steady))

  pub text_steady : steady N crates
  unfolding crates more_crates
  text_steady = (λ x y k ks t. refl, krate_steady, krate_steady)
