-- What is written for constant terms are the fewest tokens that spell them.
use Rattle.std.proofs.Common.{List, ◌∷◌, map, refl}
use Rattle.std.specs.Prelude.{flat_map}
use Rattle.mm_names.specs.declared.word.Word.TheVariants as words
use Rattle.mm_lex.specs.declared.punct.Punct.TheVariants as puncts
use Rattle.mm_lex.specs.Lexemes.{LexemeKind, Punct}
use Rattle.mm_ast.specs.declared.terms.Term as terms
use Rattle.mm_ast.specs.declared.terms.Term.TheFolds.{fold-roll-Term}
use Rattle.mm_grammar.specs.Rules.{Sort, Terms, Value}
use Rattle.mm_grammar.specs.Grammar.{path_args, callee}
use Rattle.mm_grammar.specs.TermGrammar.{TermShape, next_term, more_terms, parts, new_term, term_shape, term_node}
use Rattle.mm_spell.specs.Listed.{behind_comma, listed, in_parens}
use Rattle.mm_spell.specs.TypeTokens.{path_args_tokens, callee_tokens}
use Rattle.mm_spell_bodies.specs.BodyTokens.{variant_tokens}
use Rattle.mm_spell_bodies.specs.TermTokens.{term_head_tokens, term_tokens}
use Rattle.mm_shape.proofs.Writing.{w_bare, Parts, Sorted, Rules, w_number, w_word, w_punct, w_both, w_or, w_many, w_made, w_map, w_at, w_inner, w_closed, w_list}
use Rattle.mm_print.proofs.TypeWriting.{path_written}
use Rattle.mm_print.proofs.BodyWriting.{around, new_head_written}

-- a head with its parts
abbrev pub term_shape_tokens : TermShape → List LexemeKind
term_shape_tokens s = term_head_tokens s.0 (map term_tokens s.1)

module _ {M : Parts} (terms : Sorted M Terms term_tokens) (path_args_written : Rules M path_args 0 path_args_tokens) (callee_written : Rules M callee 0 callee_tokens) where
  pub more_terms_written : Rules M more_terms 0 (λ ts. flat_map behind_comma (map term_tokens ts))
  unfolding more_terms next_term
  more_terms_written = w_many {T = λ t. Punct puncts.Comma ∷ term_tokens t} refl (λ t ts. refl) (w_punct puncts.Comma (w_inner {s = Terms} terms))

  pub parts_written : Rules M parts 0 (λ ts. in_parens (listed (map term_tokens ts)))
  unfolding parts
  parts_written =
      w_punct puncts.Open (w_closed {T = λ ts. listed (map term_tokens ts)} puncts.Close refl
      (w_list {U = λ ts. flat_map behind_comma (map term_tokens ts)} (λ t ts. refl) (w_inner {s = Terms} terms) more_terms_written))

  pub new_term_written : Rules M new_term 0 term_shape_tokens
  unfolding new_term
  new_term_written =
      w_made (λ p. around words.New (path_args_tokens p.0.0) (variant_tokens p.0.1) (in_parens (listed (map term_tokens p.1))))
      (w_both (new_head_written path_args_written) parts_written)

  pub term_shape_written : Rules M term_shape 0 term_shape_tokens
  unfolding term_shape
  term_shape_written =
      w_or (w_map w_number) (w_or (w_bare words.True refl) (w_or (w_bare words.False refl) (w_or (w_map (w_word words.Tuple parts_written))
      (w_or (w_map (w_word words.Fn callee_written)) (w_or new_term_written (w_map (w_punct puncts.Ampersand path_written)))))))

  pub term_node_written : Rules M term_node 0 term_tokens
  unfolding term_node term_tokens
  term_node_written =
      w_made (λ p. fold-roll-Term (List LexemeKind) (λ layer. term_head_tokens layer.head layer.parts) (record { line = p.0; head = p.1.0; parts = p.1.1 }))
      (w_at term_shape_written)
