-- What is written for definitions, impls, modules and crates are the fewest tokens that spell them.
use Rattle.std.proofs.Common.{◌≡◌, ℕ, List, [], ◌∷◌, ◌++◌, map, refl, ap, append_assoc}
use Rattle.std.specs.Prelude.{flat_map}
use Rattle.std.proofs.lemmas.List.Folds.{flat_map-map}
use Rattle.mm_names.specs.declared.word.Word.TheVariants as words
use Rattle.mm_lex.specs.declared.punct.Punct.TheVariants as puncts
use Rattle.mm_lex.specs.Lexemes.{LexemeKind, Word, Punct}
use Rattle.mm_ast.specs.declared.types.Type as types
use Rattle.mm_ast.specs.declared.terms.Term as terms
use Rattle.mm_ast.specs.declared.items.Bound.{Bound}
use Rattle.mm_ast.specs.declared.items.Item as items
use Rattle.mm_ast.specs.declared.items.Item.TheFolds.{fold-roll-Item}
use Rattle.mm_grammar.specs.declared.heads.DropMethod.{DropMethod}
use Rattle.mm_grammar.specs.Rules.{Sort, Types, Terms, Modules, Value}
use Rattle.mm_grammar.specs.Grammar.{some_types, tys, path_args, body}
use Rattle.mm_grammar.specs.ItemGrammar.{field_types, struct_fields, generic_fields, struct_item, variant, next_variant, more_variants, some_variants, variants, generic_variants, enum_item, methods, trait_methods, generic_methods, trait_item, value_term, typed_term, static_item, generic_term, const_item, drop_param, drop_fn, drop_method, drop_braces, bounded_drop, drop_impl, impl_method, impl_methods, impl_braces, bounded_methods, impl_target, trait_impl, impl_form, impl_item, value_definition, definition_form, definition, Entry, module_entry, entry, item, more_items, braces, crate_name, krate, more_crates, crates}
use Rattle.mm_spell.specs.Listed.{behind_comma, listed, in_parens}
use Rattle.mm_spell.specs.TypeTokens.{type_tokens, types_tokens, path_args_tokens}
use Rattle.mm_spell_bodies.specs.BodyTokens.{body_tokens}
use Rattle.mm_spell_bodies.specs.TermTokens.{term_tokens}
use Rattle.mm_print.specs.ItemTokens.{flag_tokens, bounds_tokens, struct_tokens, variant_tokens, enum_tokens, method_tokens, trait_tokens, typed_tokens, static_tokens, const_tokens, target_tokens, drop_impl_tokens, impl_method_tokens, trait_impl_tokens, impl_form_tokens, impl_tokens, definition_form_tokens, definition_tokens, module_tokens, item_form_tokens, item_tokens, crate_tokens, tree_tokens}
use Rattle.mm_shape.proofs.Writing.{Parts, Sorted, Rules, w_word, w_punct, w_ends, w_then, w_both, w_or, w_many, w_made, w_map, w_at, w_inner, w_closed, w_list}
use Rattle.mm_print.proofs.TypeWriting.{name_written, params_written}
use Rattle.mm_print.proofs.FunctionWriting.{behind, flag_written, ty_written, bounds_written, function_written, method_written, closure_written}

-- what stands behind the target of an impl
target_behind : (target : types.«Type») (bounds : List Bound) (rest : List LexemeKind) → target_tokens target bounds ++ rest ≡ Word words.For ∷ (type_tokens target ++ (bounds_tokens bounds ++ Punct puncts.OpenBrace ∷ rest))
target_behind target bounds rest = ap (λ ks. Word words.For ∷ ks) (behind (type_tokens target) _ rest (append_assoc (bounds_tokens bounds) (Punct puncts.OpenBrace ∷ []) rest))

-- the method of `impl Drop`
abbrev dropped_tokens : DropMethod → List LexemeKind
dropped_tokens d = flag_tokens d.is_inline words.Inline ++ Word words.Fn ∷ Word words.Drop ∷ (in_parens (type_tokens d.param) ++ body_tokens 2 d.body)

abbrev entry_tokens : Entry → List LexemeKind
entry_tokens e = item_form_tokens e.0 (map item_tokens e.1)

module _ {M : Parts} (some_types_written : Rules M some_types 0 types_tokens) where
  field_types_written : Rules M field_types 0 (λ ts. in_parens (types_tokens ts))
  unfolding field_types tys
  field_types_written = w_punct puncts.Open (w_closed puncts.Close refl some_types_written)

  pub struct_written : Rules M struct_item 0 struct_tokens
  unfolding struct_item generic_fields struct_fields
  struct_written = w_map (w_word words.Struct (w_both name_written (w_both params_written (w_ends puncts.Semicolon field_types_written))))

  variant_written : Rules M variant 0 variant_tokens
  unfolding variant
  variant_written = w_map (w_both name_written field_types_written)

  some_variants_written : Rules M some_variants 0 (λ vs. listed (map variant_tokens vs))
  unfolding some_variants more_variants next_variant
  some_variants_written =
      w_list {U = λ vs. flat_map behind_comma (map variant_tokens vs)} (λ v vs. refl) variant_written
      (w_many {T = λ v. Punct puncts.Comma ∷ variant_tokens v} refl (λ v vs. refl) (w_punct puncts.Comma variant_written))

  pub enum_written : Rules M enum_item 0 enum_tokens
  unfolding enum_item generic_variants variants
  enum_written = w_map (w_word words.Enum (w_both name_written (w_both params_written (w_punct puncts.OpenBrace (w_ends puncts.CloseBrace some_variants_written)))))

module _ {M : Parts} (type_writes : Sorted M Types type_tokens) (term_writes : Sorted M Terms term_tokens) where
  typed_term_written : Rules M typed_term 0 (λ p. typed_tokens p.0 p.1)
  unfolding typed_term value_term
  typed_term_written = w_punct puncts.Colon (w_both (ty_written type_writes) (w_punct puncts.Equals (w_ends puncts.Semicolon (w_inner {s = Terms} term_writes))))

  pub static_written : Rules M static_item 0 static_tokens
  unfolding static_item
  static_written = w_map (w_word words.Static (w_both name_written typed_term_written))

  pub const_written : Rules M const_item 0 const_tokens
  unfolding const_item generic_term
  const_written = w_map (w_word words.Const (w_both name_written (w_both params_written typed_term_written)))

module _ {M : Parts} (type_writes : Sorted M Types type_tokens) (path_args_written : Rules M path_args 0 path_args_tokens) (body_written : (k : ℕ) → Rules M body k (body_tokens k)) where
  pub trait_written : Rules M trait_item 0 trait_tokens
  unfolding trait_item generic_methods trait_methods methods
  trait_written =
      w_map (w_word words.Trait (w_both name_written (w_both params_written (w_punct puncts.OpenBrace (w_ends puncts.CloseBrace
      (w_many {V = λ ms. flat_map method_tokens ms} refl (λ m ms. refl) (method_written type_writes path_args_written body_written)))))))

  drop_method_written : Rules M drop_method 0 dropped_tokens
  unfolding drop_method drop_fn drop_param
  drop_method_written =
      w_map (w_both (flag_written words.Inline) (w_then (w_word words.Fn (w_word words.Drop (w_punct puncts.Open (w_ends puncts.Close (ty_written type_writes))))) body_written))

  drop_impl_written : Rules M drop_impl 0 drop_impl_tokens
  unfolding drop_impl bounded_drop drop_braces
  drop_impl_written =
      w_made (λ p. ap (λ ks. Word words.DropTrait ∷ ks) (target_behind p.0 p.1.0 (dropped_tokens p.1.1 ++ Punct puncts.CloseBrace ∷ [])))
      (w_word words.DropTrait (w_word words.For (w_both (ty_written type_writes) (w_both (bounds_written type_writes path_args_written)
      (w_punct puncts.OpenBrace (w_ends puncts.CloseBrace drop_method_written))))))

  impl_method_written : Rules M impl_method 0 impl_method_tokens
  unfolding impl_method
  impl_method_written = w_map (w_at (function_written type_writes path_args_written body_written))

  trait_impl_written : Rules M trait_impl 0 trait_impl_tokens
  unfolding trait_impl impl_target bounded_methods impl_braces impl_methods
  trait_impl_written =
      w_made (λ p. ap (λ ks. path_args_tokens p.0 ++ ks) (target_behind p.1.0 p.1.1.0 (flat_map impl_method_tokens p.1.1.1 ++ Punct puncts.CloseBrace ∷ [])))
      (w_both path_args_written (w_word words.For (w_both (ty_written type_writes) (w_both (bounds_written type_writes path_args_written)
      (w_punct puncts.OpenBrace (w_ends puncts.CloseBrace (w_many {V = λ ms. flat_map impl_method_tokens ms} refl (λ m ms. refl) impl_method_written)))))))

  impl_form_written : Rules M impl_form 0 impl_form_tokens
  unfolding impl_form
  impl_form_written = w_or (w_map drop_impl_written) (w_map trait_impl_written)

  pub impl_written : Rules M impl_item 0 impl_tokens
  unfolding impl_item
  impl_written = w_map (w_word words.Impl (w_both params_written impl_form_written))

module _ {M : Parts} (type_writes : Sorted M Types type_tokens) (term_writes : Sorted M Terms term_tokens)
    (module_writes : Sorted M Modules (λ is. Punct puncts.OpenBrace ∷ (flat_map item_tokens is ++ Punct puncts.CloseBrace ∷ [])))
    (some_types_written : Rules M some_types 0 types_tokens) (path_args_written : Rules M path_args 0 path_args_tokens) (body_written : (k : ℕ) → Rules M body k (body_tokens k)) where
  pub definition_form_written : Rules M definition_form 0 definition_form_tokens
  unfolding definition_form value_definition
  definition_form_written =
      w_or (w_map (closure_written type_writes some_types_written body_written))
      (w_or (w_map (struct_written some_types_written))
      (w_or (w_map (enum_written some_types_written))
      (w_or (w_map (trait_written type_writes path_args_written body_written))
      (w_or (w_map (static_written type_writes term_writes))
      (w_or (w_map (const_written type_writes term_writes))
      (w_map (function_written type_writes path_args_written body_written)))))))

  pub definition_written : Rules M definition 0 definition_tokens
  unfolding definition
  definition_written = w_map (w_both (flag_written words.Pub) definition_form_written)

  module_entry_written : Rules M module_entry 0 entry_tokens
  unfolding module_entry
  module_entry_written = w_made (λ p. ap (module_tokens p.0) (flat_map-map (λ x. x) item_tokens p.1)) (w_word words.Mod (w_both name_written (w_inner {s = Modules} module_writes)))

  entry_written : Rules M entry 0 entry_tokens
  unfolding entry
  entry_written = w_or module_entry_written (w_or (w_map (impl_written type_writes path_args_written body_written)) (w_map definition_written))

  pub item_written : Rules M item 0 item_tokens
  unfolding item item_tokens
  item_written =
      w_made {U = λ p. entry_tokens p.1}
      (λ p. fold-roll-Item (List LexemeKind) (λ layer. item_form_tokens layer.form layer.items) (record { line = p.0; form = p.1.0; items = p.1.1 })) (w_at entry_written)

  pub more_items_written : Rules M more_items 0 (λ is. flat_map item_tokens is)
  unfolding more_items
  more_items_written = w_many refl (λ i is. refl) item_written

  pub braces_written : Rules M braces 0 (λ is. Punct puncts.OpenBrace ∷ (flat_map item_tokens is ++ Punct puncts.CloseBrace ∷ []))
  unfolding braces
  braces_written = w_punct puncts.OpenBrace (w_ends puncts.CloseBrace more_items_written)

  crate_written : Rules M krate 0 crate_tokens
  unfolding krate crate_name
  crate_written = w_map (w_at (w_both (w_word words.Crate (w_ends puncts.Semicolon name_written)) more_items_written))

  pub crates_written : Rules M crates 0 tree_tokens
  unfolding crates more_crates
  crates_written = w_map (w_list {U = λ cs. flat_map crate_tokens cs} (λ c cs. refl) crate_written (w_many refl (λ c cs. refl) crate_written))
