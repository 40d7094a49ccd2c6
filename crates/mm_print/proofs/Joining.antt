-- In no text of the language do two neighbours join: `:` never stands before `:` or `::`, nor `=` before `>`.
use Rattle.std.proofs.Common.{◌≡◌, ℕ, zero, suc, true, false, ◌&&◌, not, eqb, List, [], ◌∷◌, refl, All}
use Rattle.std.proofs.lemmas.Bool.{and_parts}
use Rattle.std.proofs.lemmas.List.Elements.{All-head, All-tail}
use Rattle.mm_names.specs.declared.word.Word.TheVariants as words
use Rattle.mm_lex.specs.declared.punct.Punct as puncts
use Rattle.mm_lex.specs.declared.punct.Punct.TheVariants as punct
use Rattle.mm_lex.specs.declared.token.Token.{Token}
use Rattle.mm_lex.specs.Lexemes.{LexemeKind, Name, Word, Local, Label, Number, Punct, Other, Lexeme, lexemes}
use Rattle.mm_lex.specs.Tokens.{AreTokensOf, IsLexeme}
use Rattle.mm_lex.proofs.TextLaws.{lexemes-IsLexeme}
use Rattle.mm_ast.specs.declared.items.Ast.{Ast}
use Rattle.mm_forms.specs.Forms.{firsts, empty}
use Rattle.mm_forms.specs.Nesting.{within}
use Rattle.mm_grammar.specs.Codes.{kind_code, code}
use Rattle.mm_grammar.specs.Rules.{Sort, Types, Terms, Modules, number_of}
use Rattle.mm_grammar.specs.Reading.{start, type_languages, term_languages, module_languages, languages, IsText}
use Rattle.mm_grammar.specs.Grammar.{otherwise, switch_head, cases, call_place, arguments, called_with, end_with_parts, block_end, body_blocks, dyn_target, some_types, path_shape, called_method, named_operand, binary, variant_name, built_rvalue, name, next_name, more_names, params, next_type, more_types, args, segment, more_segments, segments, path, path_args, tys, fields, tuple, reference, boxed, fn_pointer, behind_krate, named, shape, type_node, label, step, steps, base, place, call_method, trait_method, method_callee, callee, operand, next_operand, more_operands, operands, op, two_operands, new_head, new, dyn_trait, dyncast, rvalue, set, statement, statements, arm, arms, switch, called, call, drop_end, end, block, more_blocks, blocks, declared, lets, body}
use Rattle.mm_grammar.specs.TermGrammar.{next_term, more_terms, parts, new_term, term_shape, term_node}
use Rattle.mm_grammar.specs.ItemGrammar.{some_params, some_bounds, bounded, generic, fn_name, capturing, generic_capturing, struct_fields, generic_fields, some_variants, generic_variants, trait_methods, generic_methods, value_term, generic_term, drop_param, drop_fn, drop_braces, bounded_drop, impl_braces, bounded_methods, impl_target, impl_form, value_definition, crate_name, next_param, more_params, param_types, result_type, signature, bound_form, bound, next_bound, more_bounds, bounds, fn_head, function, captures, closure_head, closure, field_types, struct_item, variant, next_variant, more_variants, variants, enum_item, method_body, method, methods, trait_item, typed_term, static_item, const_item, drop_method, drop_impl, impl_method, impl_methods, trait_impl, impl_item, definition_form, definition, module_entry, entry, item, more_items, braces, krate, more_crates, crates}
use Rattle.mm_shape.specs.Shapes.{AllTokens, kinds_of}
use Rattle.mm_print.specs.Canonical.{NoneJoin, ReadsAs, canonical, join, puncts_join}
use Rattle.mm_print.specs.Neighbours.{apart_in, lasts, never}
use Rattle.mm_print.proofs.Neighbours.{Edges, edges, has_all, wider}
use Rattle.mm_print.proofs.Written.{reads_as}

-- the kinds of tokens with which a part of each sort ends
abbrev stop : Sort → List ℕ
stop Types =
    kind_code (Word words.SelfType) ∷ kind_code (Word words.U64) ∷ kind_code (Word words.Bool) ∷ kind_code (Punct punct.Close) ∷ kind_code (Punct punct.Greater) ∷ 2 ∷ []
stop Terms =
    5 ∷ kind_code (Word words.True) ∷ kind_code (Word words.False) ∷ kind_code (Word words.Call) ∷ kind_code (Punct punct.Close) ∷ kind_code (Punct punct.Greater) ∷ 2 ∷ []
stop Modules = kind_code (Punct punct.CloseBrace) ∷ []

abbrev colon : ℕ
colon = kind_code (Punct punct.Colon)

abbrev path_sep : ℕ
path_sep = kind_code (Punct punct.PathSep)

abbrev equals : ℕ
equals = kind_code (Punct punct.Equals)

abbrev greater : ℕ
greater = kind_code (Punct punct.Greater)

-- tokens of the one kind never stand before those of the other
record Never (p q : ℕ) : Type 0 where
  pub types : never code start stop p q type_node ≡ true
  pub terms : never code start stop p q term_node ≡ true
  pub modules : never code start stop p q braces ≡ true
  pub text : never code start stop p q crates ≡ true

no_colons : Never colon colon
unfolding crates braces type_node term_node args arguments arm arms base behind_krate binary block block_end blocks body body_blocks bound bound_form bounded bounded_drop bounded_methods bounds boxed built_rvalue call call_method call_place called called_method called_with callee captures capturing cases closure closure_head const_item crate_name declared definition definition_form drop_braces drop_end drop_fn drop_impl drop_method drop_param dyn_target dyn_trait dyncast end end_with_parts entry enum_item field_types fields fn_head fn_name fn_pointer function generic generic_capturing generic_fields generic_methods generic_term generic_variants impl_braces impl_form impl_item impl_method impl_methods impl_target item krate label lets method method_body method_callee methods module_entry more_blocks more_bounds more_crates more_items more_names more_operands more_params more_segments more_terms more_types more_variants name named named_operand new new_head new_term next_bound next_name next_operand next_param next_term next_type next_variant op operand operands otherwise param_types params parts path path_args path_shape place reference result_type rvalue segment segments set shape signature some_bounds some_params some_types some_variants statement statements static_item step steps struct_fields struct_item switch switch_head term_shape trait_impl trait_item trait_method trait_methods tuple two_operands typed_term tys value_definition value_term variant variant_name variants
no_colons = record { types = refl; terms = refl; modules = refl; text = refl }

no_path_sep : Never colon path_sep
unfolding crates braces type_node term_node args arguments arm arms base behind_krate binary block block_end blocks body body_blocks bound bound_form bounded bounded_drop bounded_methods bounds boxed built_rvalue call call_method call_place called called_method called_with callee captures capturing cases closure closure_head const_item crate_name declared definition definition_form drop_braces drop_end drop_fn drop_impl drop_method drop_param dyn_target dyn_trait dyncast end end_with_parts entry enum_item field_types fields fn_head fn_name fn_pointer function generic generic_capturing generic_fields generic_methods generic_term generic_variants impl_braces impl_form impl_item impl_method impl_methods impl_target item krate label lets method method_body method_callee methods module_entry more_blocks more_bounds more_crates more_items more_names more_operands more_params more_segments more_terms more_types more_variants name named named_operand new new_head new_term next_bound next_name next_operand next_param next_term next_type next_variant op operand operands otherwise param_types params parts path path_args path_shape place reference result_type rvalue segment segments set shape signature some_bounds some_params some_types some_variants statement statements static_item step steps struct_fields struct_item switch switch_head term_shape trait_impl trait_item trait_method trait_methods tuple two_operands typed_term tys value_definition value_term variant variant_name variants
no_path_sep = record { types = refl; terms = refl; modules = refl; text = refl }

no_arrow : Never equals greater
unfolding crates braces type_node term_node args arguments arm arms base behind_krate binary block block_end blocks body body_blocks bound bound_form bounded bounded_drop bounded_methods bounds boxed built_rvalue call call_method call_place called called_method called_with callee captures capturing cases closure closure_head const_item crate_name declared definition definition_form drop_braces drop_end drop_fn drop_impl drop_method drop_param dyn_target dyn_trait dyncast end end_with_parts entry enum_item field_types fields fn_head fn_name fn_pointer function generic generic_capturing generic_fields generic_methods generic_term generic_variants impl_braces impl_form impl_item impl_method impl_methods impl_target item krate label lets method method_body method_callee methods module_entry more_blocks more_bounds more_crates more_items more_names more_operands more_params more_segments more_terms more_types more_variants name named named_operand new new_head new_term next_bound next_name next_operand next_param next_term next_type next_variant op operand operands otherwise param_types params parts path path_args path_shape place reference result_type rvalue segment segments set shape signature some_bounds some_params some_types some_variants statement statements static_item step steps struct_fields struct_item switch switch_head term_shape trait_impl trait_item trait_method trait_methods tuple two_operands typed_term tys value_definition value_term variant variant_name variants
no_arrow = record { types = refl; terms = refl; modules = refl; text = refl }

module _ (p q : ℕ) where
  -- what is spelled by tokens that begin and end as a part of the sort does, with no p before a q among them
  abbrev Whole : (s : Sort) → {A : Type 0} → (A → List Lexeme → Type 0) → Type 0
  Whole s {A = A} L = (a : A) (ts : List Lexeme) → L a ts → Edges code p q (start s) (stop s) false ts

  types_whole : never code start stop p q type_node ≡ true → (n : ℕ) → Whole Types (within code number_of type_node type_languages true n)
  unfolding within type_node shape path_shape some_types named behind_krate fn_pointer boxed reference tuple fields tys path_args path segments more_segments segment args more_types next_type
  types_whole free zero a ts s = absurd s
  types_whole free (suc n) a ts s = by (types_whole free n)
    where
      part : Whole Types (within code number_of type_node type_languages true n) → (s : Sort) → Whole s (type_languages true (within code number_of type_node type_languages true n) s)
      part again Types = again
      part again Terms = λ v us r. absurd r
      part again Modules = λ v us r. absurd r

      by : Whole Types (within code number_of type_node type_languages true n) → Edges code p q (start Types) (stop Types) false ts
      by again =
          wider code p q (firsts code start type_node) (start Types) (lasts code start stop type_node) (stop Types) (empty code start type_node) false ts
          (λ n. has_all n (firsts code start type_node) (start Types) refl) (λ n. has_all n (lasts code start stop type_node) (stop Types) refl) (λ e. e)
          (edges code p q start stop number_of true (type_languages true (within code number_of type_node type_languages true n)) (part again) type_node free 0 a ts s)

  terms_whole : Whole Types (within code number_of type_node type_languages true 2048) → never code start stop p q term_node ≡ true → (n : ℕ) → Whole Terms (within code number_of term_node term_languages true n)
  unfolding within term_node term_shape variant_name called_method some_types new_term parts more_terms next_term new_head callee method_callee trait_method call_method name path_args path segments more_segments segment args more_types next_type
  terms_whole types free zero a ts s = absurd s
  terms_whole types free (suc n) a ts s = by (terms_whole types free n)
    where
      part : Whole Terms (within code number_of term_node term_languages true n) → (s : Sort) → Whole s (term_languages true (within code number_of term_node term_languages true n) s)
      part again Types = types
      part again Terms = again
      part again Modules = λ v us r. absurd r

      by : Whole Terms (within code number_of term_node term_languages true n) → Edges code p q (start Terms) (stop Terms) false ts
      by again =
          wider code p q (firsts code start term_node) (start Terms) (lasts code start stop term_node) (stop Terms) (empty code start term_node) false ts
          (λ n. has_all n (firsts code start term_node) (start Terms) refl) (λ n. has_all n (lasts code start stop term_node) (stop Terms) refl) (λ e. e)
          (edges code p q start stop number_of true (term_languages true (within code number_of term_node term_languages true n)) (part again) term_node free 0 a ts s)

  modules_whole : Whole Types (within code number_of type_node type_languages true 2048) → Whole Terms (within code number_of term_node term_languages true 256) → never code start stop p q braces ≡ true → (n : ℕ) → Whole Modules (within code number_of braces module_languages true n)
  unfolding within braces some_types called_method named_operand binary variant_name built_rvalue more_items item entry module_entry definition definition_form impl_item trait_impl impl_methods impl_method drop_impl drop_method const_item static_item typed_term trait_item methods method method_body enum_item variants more_variants next_variant variant struct_item field_types closure closure_head captures function fn_head bounds more_bounds next_bound bound bound_form signature result_type param_types more_params next_param name next_name more_names params next_type more_types args segment more_segments segments path path_args tys label step steps base place call_method trait_method method_callee callee operand next_operand more_operands operands op two_operands new_head new dyn_trait dyncast rvalue set statement statements arm arms switch called call drop_end end block more_blocks blocks declared lets body otherwise switch_head cases call_place arguments called_with end_with_parts block_end body_blocks dyn_target some_params some_bounds bounded generic fn_name capturing generic_capturing struct_fields generic_fields some_variants generic_variants trait_methods generic_methods value_term generic_term drop_param drop_fn drop_braces bounded_drop impl_braces bounded_methods impl_target impl_form value_definition
  modules_whole types terms free zero a ts s = absurd s
  modules_whole types terms free (suc n) a ts s = by (modules_whole types terms free n)
    where
      part : Whole Modules (within code number_of braces module_languages true n) → (s : Sort) → Whole s (module_languages true (within code number_of braces module_languages true n) s)
      part again Types = types
      part again Terms = terms
      part again Modules = again

      by : Whole Modules (within code number_of braces module_languages true n) → Edges code p q (start Modules) (stop Modules) false ts
      by again =
          wider code p q (firsts code start braces) (start Modules) (lasts code start stop braces) (stop Modules) (empty code start braces) false ts
          (λ n. has_all n (firsts code start braces) (start Modules) refl) (λ n. has_all n (lasts code start stop braces) (stop Modules) refl) (λ e. e)
          (edges code p q start stop number_of true (module_languages true (within code number_of braces module_languages true n)) (part again) braces free 0 a ts s)

  text_apart : Never p q → (tree : Ast) (ts : List Lexeme) → IsText tree ts → apart_in code p q ts ≡ true
  text_apart free tree ts s = (edges code p q start stop number_of true (languages true) part crates free.text 0 tree ts s).apart
    where
      types : Whole Types (within code number_of type_node type_languages true 2048)
      types = types_whole free.types 2048

      terms : Whole Terms (within code number_of term_node term_languages true 256)
      terms = terms_whole types free.terms 256

      part : (s : Sort) → Whole s (languages true s)
      part Types = types
      part Terms = terms
      part Modules = modules_whole types terms free.modules 64

-- which two tokens join
pair : (k next : LexemeKind) → not (eqb (kind_code k) colon && eqb (kind_code next) colon) ≡ true → not (eqb (kind_code k) colon && eqb (kind_code next) path_sep) ≡ true → not (eqb (kind_code k) equals && eqb (kind_code next) greater) ≡ true → join k next ≡ false
pair (Punct p) (Punct q) a b c = by p q a b c
  where
    by_colon : (r : puncts.Punct) → not (eqb (kind_code (Punct r)) colon) ≡ true → not (eqb (kind_code (Punct r)) path_sep) ≡ true → puncts_join punct.Colon r ≡ false
    by_colon punct.Colon x y = cc
    by_colon punct.PathSep x y = cc
    by_colon _ x y = refl

    by_equals : (r : puncts.Punct) → not (eqb (kind_code (Punct r)) greater) ≡ true → puncts_join punct.Equals r ≡ false
    by_equals punct.Greater x = cc
    by_equals _ x = refl

    by : (o r : puncts.Punct) → not (eqb (kind_code (Punct o)) colon && eqb (kind_code (Punct r)) colon) ≡ true → not (eqb (kind_code (Punct o)) colon && eqb (kind_code (Punct r)) path_sep) ≡ true → not (eqb (kind_code (Punct o)) equals && eqb (kind_code (Punct r)) greater) ≡ true → puncts_join o r ≡ false
    by punct.Colon r x y z = by_colon r x y
    by punct.Equals r x y z = by_equals r z
    by _ r x y z = refl
pair (Punct p) (Name n) a b c = refl
pair (Punct p) (Word n) a b c = refl
pair (Punct p) (Local n) a b c = refl
pair (Punct p) (Label n) a b c = refl
pair (Punct p) (Number n) a b c = refl
pair (Punct p) Other a b c = refl
pair (Name n) next a b c = refl
pair (Word n) next a b c = refl
pair (Local n) next a b c = refl
pair (Label n) next a b c = refl
pair (Number n) next a b c = refl
pair Other next a b c = refl

none_join : (ts : List Lexeme) → apart_in code colon colon ts ≡ true → apart_in code colon path_sep ts ≡ true → apart_in code equals greater ts ≡ true → NoneJoin (kinds_of ts)
none_join [] a b c = tt
none_join (t ∷ []) a b c = tt
none_join (t ∷ next ∷ ts) a b c =
    let x = and_parts (not (eqb (code t) colon && eqb (code next) colon)) (apart_in code colon colon (next ∷ ts)) a in
    let y = and_parts (not (eqb (code t) colon && eqb (code next) path_sep)) (apart_in code colon path_sep (next ∷ ts)) b in
    let z = and_parts (not (eqb (code t) equals && eqb (code next) greater)) (apart_in code equals greater (next ∷ ts)) c in
    (pair t.kind next.kind x.0 y.0 z.0, none_join (next ∷ ts) x.1 y.1 z.1)

pub all_tokens : (ts : List Lexeme) → All IsLexeme ts → AllTokens (kinds_of ts)
all_tokens [] all = tt
all_tokens (t ∷ ts) all = (All-head IsLexeme t ts all, all_tokens ts (All-tail IsLexeme t ts all))

pub text_joins_none : (tree : Ast) (ts : List Lexeme) → IsText tree ts → NoneJoin (kinds_of ts)
text_joins_none tree ts s = none_join ts (text_apart colon colon no_colons tree ts s) (text_apart colon path_sep no_path_sep tree ts s) (text_apart equals greater no_arrow tree ts s)

-- the canonical text of a text's tokens has the same tokens
pub text_reads_as : (text : List ℕ) (tokens : List Token) (tree : Ast) → AreTokensOf text tokens → IsText tree (lexemes text tokens) → ReadsAs (kinds_of (lexemes text tokens)) (canonical (kinds_of (lexemes text tokens)))
text_reads_as text tokens tree are s =
    let ts = lexemes text tokens in
    reads_as (kinds_of ts) (all_tokens ts (lexemes-IsLexeme text tokens are)) (text_joins_none tree ts s)
