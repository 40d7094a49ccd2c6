-- Modules that nest no deeper than so many levels, one level at a time; and what is read alike within a module and elsewhere.
use Rattle.std.proofs.Common.{◌≡◌, ℕ, ◌-◌, List, Bool, true, false, refl}
use Rattle.mm_lex.specs.Lexemes.{Lexeme}
use Rattle.mm_forms.proofs.Environments.{is_over, alike}
use Rattle.mm_forms.proofs.Levels.{no_level, one_level}
use Rattle.mm_grammar.specs.Codes.{code}
use Rattle.mm_grammar.specs.Rules.{Sort, Types, Terms, Modules, number_of}
use Rattle.mm_grammar.specs.Grammar.{switch_head, cases, call_place, arguments, called_with, end_with_parts, block_end, body_blocks, name, next_name, more_names, params, next_type, some_types, more_types, args, segment, more_segments, segments, path, path_args, tys, label, step, steps, base, place, call_method, trait_method, called_method, method_callee, callee, named_operand, operand, next_operand, more_operands, operands, op, two_operands, binary, variant_name, new_head, new, dyn_trait, dyn_target, dyncast, built_rvalue, rvalue, set, statement, statements, arm, arms, otherwise, switch, called, call, drop_end, end, block, more_blocks, blocks, declared, lets, body}
use Rattle.mm_grammar.specs.ItemGrammar.{some_params, some_bounds, bounded, generic, fn_name, capturing, generic_capturing, struct_fields, generic_fields, some_variants, generic_variants, trait_methods, generic_methods, value_term, generic_term, drop_param, drop_fn, drop_braces, bounded_drop, impl_braces, bounded_methods, impl_target, value_definition, next_param, more_params, param_types, result_type, signature, bound_form, bound, next_bound, more_bounds, bounds, fn_head, function, captures, closure_head, closure, field_types, struct_item, variant, next_variant, more_variants, variants, enum_item, method_body, method, methods, trait_item, typed_term, static_item, const_item, drop_method, drop_impl, impl_method, impl_methods, trait_impl, impl_form, impl_item, definition_form, definition, braces}
use Rattle.mm_grammar.specs.Reading.{start, read, read_in_module, readers, module_readers, braces_in, no_braces}

pub no_module_level : (n : ℕ) (ts : List Lexeme) → n ≡ 0 → braces_in n ts ≡ no_braces ts
no_module_level = no_level code number_of start braces (start Modules) module_readers

pub one_module_level : (n : ℕ) (ts : List Lexeme) → (n ≡ 0 → ⊥) → braces_in n ts ≡ read_in_module (n - 1) braces ts
one_module_level = one_level code number_of start braces (start Modules) module_readers

-- the sorts of parts that are read alike everywhere
abbrev outside : Sort → Bool
outside Types = true
outside Terms = true
outside Modules = false

same_parts : (levels : ℕ) (s : Sort) → outside s ≡ true → (ts : List Lexeme) → readers s ts ≡ module_readers (braces_in levels) s ts
same_parts levels Types h ts = refl
same_parts levels Terms h ts = refl
same_parts levels Modules h ts = cc

impl_over : is_over outside impl_item ≡ true
unfolding name next_name more_names params next_type some_types more_types args segment more_segments segments path path_args tys label step steps base place call_method trait_method called_method method_callee callee named_operand operand next_operand more_operands operands op two_operands binary variant_name new_head new dyn_trait dyn_target dyncast built_rvalue rvalue set statement statements arm arms otherwise switch called call drop_end end block more_blocks blocks declared lets body next_param more_params param_types result_type signature bound_form bound next_bound more_bounds bounds fn_head function drop_method drop_impl impl_method impl_methods trait_impl impl_form impl_item switch_head cases call_place arguments called_with end_with_parts block_end body_blocks some_params some_bounds bounded generic fn_name capturing generic_capturing struct_fields generic_fields some_variants generic_variants trait_methods generic_methods value_term generic_term drop_param drop_fn drop_braces bounded_drop impl_braces bounded_methods impl_target value_definition
impl_over = refl

definition_over : is_over outside definition ≡ true
unfolding name next_name more_names params next_type some_types more_types args segment more_segments segments path path_args tys label step steps base place call_method trait_method called_method method_callee callee named_operand operand next_operand more_operands operands op two_operands binary variant_name new_head new dyn_trait dyn_target dyncast built_rvalue rvalue set statement statements arm arms otherwise switch called call drop_end end block more_blocks blocks declared lets body next_param more_params param_types result_type signature bound_form bound next_bound more_bounds bounds fn_head function captures closure_head closure field_types struct_item variant next_variant more_variants variants enum_item method_body method methods trait_item typed_term static_item const_item definition_form definition switch_head cases call_place arguments called_with end_with_parts block_end body_blocks some_params some_bounds bounded generic fn_name capturing generic_capturing struct_fields generic_fields some_variants generic_variants trait_methods generic_methods value_term generic_term drop_param drop_fn drop_braces bounded_drop impl_braces bounded_methods impl_target value_definition
definition_over = refl

-- An impl is read within a module as it is elsewhere.
pub impl_anywhere : (levels : ℕ) (ts : List Lexeme) → read impl_item ts ≡ read_in_module levels impl_item ts
impl_anywhere levels ts = alike code number_of start outside readers (module_readers (braces_in levels)) (same_parts levels) impl_item impl_over 0 ts

-- A definition is read within a module as it is elsewhere.
pub definition_anywhere : (levels : ℕ) (ts : List Lexeme) → read definition ts ≡ read_in_module levels definition ts
definition_anywhere levels ts = alike code number_of start outside readers (module_readers (braces_in levels)) (same_parts levels) definition definition_over 0 ts
