-- A token of each kind that the grammar names, and that one token decides how each part is read.
use Rattle.std.proofs.Common.{◌≡◌, inl, inr, ℕ, List, [], ◌∷◌, ◌++◌, map, Bool, true, false, cond, ◌||◌, eqb, refl, sym}
use Rattle.std.proofs.lemmas.Bool.{eqb-true, or_cases}
use Rattle.mm_names.specs.declared.word.Word.{Word}
use Rattle.mm_names.specs.declared.word.Word.TheVariants as words
use Rattle.mm_lex.specs.declared.punct.Punct.{Punct}
use Rattle.mm_lex.specs.declared.punct.Punct.TheVariants as puncts
use Rattle.mm_lex.specs.Lexemes.{LexemeKind, Lexeme}
use Rattle.mm_lex.specs.Lexemes as kinds
use Rattle.mm_forms.specs.Forms.{decides}
use Rattle.mm_forms.proofs.Nesting.{Fits}
use Rattle.mm_grammar.specs.Codes.{kind_code, code}
use Rattle.mm_grammar.specs.Rules.{Sort, Types, Terms, Modules, number_of}
use Rattle.mm_grammar.specs.Grammar.{otherwise, switch_head, cases, call_place, arguments, called_with, end_with_parts, block_end, body_blocks, dyn_target, some_types, path_shape, called_method, named_operand, binary, variant_name, built_rvalue, name, next_name, more_names, params, next_type, more_types, args, segment, more_segments, segments, path, path_args, tys, fields, tuple, reference, boxed, fn_pointer, behind_krate, named, shape, type_node, label, step, steps, base, place, call_method, trait_method, method_callee, callee, operand, next_operand, more_operands, operands, op, two_operands, new_head, new, dyn_trait, dyncast, rvalue, set, statement, statements, arm, arms, switch, called, call, drop_end, end, block, more_blocks, blocks, declared, lets, body}
use Rattle.mm_grammar.specs.TermGrammar.{next_term, more_terms, parts, new_term, term_shape, term_node}
use Rattle.mm_grammar.specs.ItemGrammar.{some_params, some_bounds, bounded, generic, fn_name, capturing, generic_capturing, struct_fields, generic_fields, some_variants, generic_variants, trait_methods, generic_methods, value_term, generic_term, drop_param, drop_fn, drop_braces, bounded_drop, impl_braces, bounded_methods, impl_target, impl_form, value_definition, crate_name, next_param, more_params, param_types, result_type, signature, bound_form, bound, next_bound, more_bounds, bounds, fn_head, function, captures, closure_head, closure, field_types, struct_item, variant, next_variant, more_variants, variants, enum_item, method_body, method, methods, trait_item, typed_term, static_item, const_item, drop_method, drop_impl, impl_method, impl_methods, trait_impl, impl_item, definition_form, definition, module_entry, entry, item, more_items, braces, krate, more_crates, crates}
use Rattle.mm_grammar.specs.Reading.{start}

abbrev all_words : List Word
all_words = words.Crate ∷ words.Mod ∷ words.Pub ∷ words.Inline ∷ words.Fn ∷ words.Closure ∷ words.Struct ∷ words.Enum ∷
    words.Trait ∷ words.Impl ∷ words.For ∷ words.Where ∷ words.Static ∷ words.Const ∷ words.Dyn ∷ words.Let ∷ words.Print ∷
    words.Return ∷ words.Goto ∷ words.Switch ∷ words.Else ∷ words.Call ∷ words.Drop ∷ words.Unreachable ∷ words.Copy ∷
    words.Move ∷ words.True ∷ words.False ∷ words.New ∷ words.Box ∷ words.Tuple ∷ words.As ∷ words.Variant ∷ words.Not ∷
    words.Add ∷ words.Sub ∷ words.Mul ∷ words.Div ∷ words.Rem ∷ words.Eq ∷ words.Lt ∷ words.Dyncast ∷ words.BoxType ∷
    words.DropTrait ∷ words.CallTrait ∷ words.SelfType ∷ words.U64 ∷ words.Bool ∷ words.FnPtr ∷ words.FnItem ∷ []

abbrev all_puncts : List Punct
all_puncts = puncts.PathSep ∷ puncts.Arrow ∷ puncts.FatArrow ∷ puncts.Open ∷ puncts.Close ∷ puncts.OpenBrace ∷
    puncts.CloseBrace ∷ puncts.Less ∷ puncts.Greater ∷ puncts.OpenBracket ∷ puncts.CloseBracket ∷ puncts.Comma ∷
    puncts.Semicolon ∷ puncts.Colon ∷ puncts.Dot ∷ puncts.Star ∷ puncts.At ∷ puncts.Ampersand ∷ puncts.Equals ∷ []

abbrev named_kinds : List LexemeKind
named_kinds = kinds.Name [] ∷ kinds.Local 0 ∷ kinds.Label 0 ∷ kinds.Number 0 ∷ (map kinds.Word all_words ++ map kinds.Punct all_puncts)

abbrev found : ℕ → List LexemeKind → LexemeKind
found n [] = kinds.Other
found n (k ∷ ks) = cond (eqb (kind_code k) n) k (found n ks)

abbrev token_of : LexemeKind → Lexeme
token_of k = record { kind = k; line = 1; column = 1 }

-- whether this is the number of a kind
abbrev pub is_kind : ℕ → Bool
is_kind n = eqb (kind_code (found n named_kinds)) n

-- whether it is that of locals or labels
abbrev pub is_counted : ℕ → Bool
is_counted n = eqb n 3 || eqb n 4

pub sample : (n : ℕ) → is_kind n ≡ true → (t : Lexeme) × (code t ≡ n)
sample n h = (token_of (found n named_kinds), eqb-true (kind_code (found n named_kinds)) n h)

pub counted : (n k : ℕ) → is_counted n ≡ true → (t : Lexeme) × (code t ≡ n) × (number_of t ≡ k)
counted n k h = elim (or_cases (eqb n 3) (eqb n 4) h) [
  | inl e ↦ (token_of (kinds.Local k), sym (eqb-true n 3 e), refl)
  | inr e ↦ (token_of (kinds.Label k), sym (eqb-true n 4 e), refl)
]

-- the kinds of tokens that would go on with a part
abbrev pub goes_on : Sort → List ℕ
goes_on Types = kind_code (kinds.Punct puncts.PathSep) ∷ kind_code (kinds.Punct puncts.Less) ∷ []
goes_on Terms = kind_code (kinds.Punct puncts.PathSep) ∷ kind_code (kinds.Punct puncts.Less) ∷ []
goes_on Modules = []

-- A rule that is added to the grammar is named in what follows where it is part of a level.

-- the sorts in nothing, in types, in constant terms and in all
abbrev pub no_sort : Sort → Bool
no_sort s = false

abbrev pub types_only : Sort → Bool
types_only Types = true
types_only Terms = false
types_only Modules = false

abbrev pub types_and_terms : Sort → Bool
types_and_terms Types = true
types_and_terms Terms = true
types_and_terms Modules = false

abbrev pub all_sorts : Sort → Bool
all_sorts s = true

pub type_fits : Fits code number_of start goes_on is_kind is_counted types_only sample counted type_node (start Types) (goes_on Types) no_sort
unfolding type_node shape path_shape some_types named behind_krate fn_pointer boxed reference tuple fields tys path_args path segments more_segments segment args more_types next_type
type_fits = record { decided = refl; full = refl; begins_so = refl; goes_on_so = refl; ends_before = refl; free_before = refl }

pub term_fits : Fits code number_of start goes_on is_kind is_counted types_and_terms sample counted term_node (start Terms) (goes_on Terms) types_only
unfolding term_node term_shape variant_name called_method some_types new_term parts more_terms next_term new_head callee method_callee trait_method call_method name path_args path segments more_segments segment args more_types next_type
term_fits = record { decided = refl; full = refl; begins_so = refl; goes_on_so = refl; ends_before = refl; free_before = refl }

pub braces_fits : Fits code number_of start goes_on is_kind is_counted all_sorts sample counted braces (start Modules) (goes_on Modules) types_and_terms
unfolding braces some_types called_method named_operand binary variant_name built_rvalue more_items item entry module_entry definition definition_form impl_item trait_impl impl_methods impl_method drop_impl drop_method const_item static_item typed_term trait_item methods method method_body enum_item variants more_variants next_variant variant struct_item field_types closure closure_head captures function fn_head bounds more_bounds next_bound bound bound_form signature result_type param_types more_params next_param name next_name more_names params next_type more_types args segment more_segments segments path path_args tys label step steps base place call_method trait_method method_callee callee operand next_operand more_operands operands op two_operands new_head new dyn_trait dyncast rvalue set statement statements arm arms switch called call drop_end end block more_blocks blocks declared lets body otherwise switch_head cases call_place arguments called_with end_with_parts block_end body_blocks dyn_target some_params some_bounds bounded generic fn_name capturing generic_capturing struct_fields generic_fields some_variants generic_variants trait_methods generic_methods value_term generic_term drop_param drop_fn drop_braces bounded_drop impl_braces bounded_methods impl_target impl_form value_definition
braces_fits = record { decided = refl; full = refl; begins_so = refl; goes_on_so = refl; ends_before = refl; free_before = refl }

pub text_decided : decides code start goes_on is_kind is_counted all_sorts crates ≡ true
unfolding crates some_types called_method named_operand binary variant_name built_rvalue more_crates krate more_items item entry module_entry definition definition_form impl_item trait_impl impl_methods impl_method drop_impl drop_method const_item static_item typed_term trait_item methods method method_body enum_item variants more_variants next_variant variant struct_item field_types closure closure_head captures function fn_head bounds more_bounds next_bound bound bound_form signature result_type param_types more_params next_param name next_name more_names params next_type more_types args segment more_segments segments path path_args tys label step steps base place call_method trait_method method_callee callee operand next_operand more_operands operands op two_operands new_head new dyn_trait dyncast rvalue set statement statements arm arms switch called call drop_end end block more_blocks blocks declared lets body otherwise switch_head cases call_place arguments called_with end_with_parts block_end body_blocks dyn_target some_params some_bounds bounded generic fn_name capturing generic_capturing struct_fields generic_fields some_variants generic_variants trait_methods generic_methods value_term generic_term drop_param drop_fn drop_braces bounded_drop impl_braces bounded_methods impl_target impl_form value_definition crate_name
text_decided = refl
