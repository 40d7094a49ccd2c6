-- What is written for a tree are the fewest tokens that spell it.
use Rattle.std.proofs.Common.{◌≡◌, ℕ, zero, suc, List, [], ◌∷◌, ◌++◌, subst, sym}
use Rattle.std.specs.Prelude.{flat_map}
use Rattle.mm_lex.specs.declared.punct.Punct.TheVariants.{OpenBrace, CloseBrace}
use Rattle.mm_lex.specs.Lexemes.{LexemeKind, Punct}
use Rattle.mm_ast.specs.declared.items.Ast.{Ast}
use Rattle.mm_ast.specs.declared.items.Item as items
use Rattle.mm_ast.specs.declared.terms.Term as terms
use Rattle.mm_ast.specs.declared.types.Type as types
use Rattle.mm_grammar.specs.Rules.{Sort, Types, Terms, Modules, Value}
use Rattle.mm_grammar.specs.TermGrammar.{term_node}
use Rattle.mm_grammar.specs.ItemGrammar.{braces, crates}
use Rattle.mm_shape.specs.Spellings.{spelled_within}
use Rattle.mm_shape.specs.Shapes.{term_parts, module_parts, parts, IsSpelled}
use Rattle.mm_shape.proofs.Twins.{twin_within}
use Rattle.mm_shape.proofs.Levels.{term_twins, term_both, terms_both, module_twins, module_both, braces_both, TreeTwins}
use Rattle.mm_shape.proofs.Writing.{Writes, Parts, Sorted, Rules}
use Rattle.mm_spell.specs.TypeTokens.{type_tokens}
use Rattle.mm_spell_bodies.specs.TermTokens.{term_tokens}
use Rattle.mm_print.specs.ItemTokens.{item_tokens, tree_tokens}
use Rattle.mm_print.proofs.TypeWriting.{type_level, types_written, some_types_written, path_args_written, callee_written}
use Rattle.mm_print.proofs.BodyWriting.{body_written}
use Rattle.mm_print.proofs.TermWriting.{term_node_written}
use Rattle.mm_print.proofs.ItemWriting.{braces_written, crates_written}

-- what stands in constant terms that nest so many levels deep
abbrev term_level : ℕ → Parts
term_level n = record {
  spelled = term_parts (spelled_within term_node term_parts n);
  twins = term_twins (twin_within term_node term_twins n);
  both = term_both (twin_within term_node term_twins n) (spelled_within term_node term_parts n) (terms_both n);
}

-- constant terms that nest no deeper than so many levels
terms_written : (n : ℕ) → Sorted (term_level n) Terms term_tokens
unfolding spelled_within twin_within
terms_written zero = record { writes = λ t others all s. absurd s; same = λ x y ks t. absurd t }
terms_written (suc n) =
    let types : Sorted (term_level n) Types type_tokens = record { writes = (types_written 2048).writes; same = (types_written 2048).same } in
    let r = term_node_written {M = term_level n} (terms_written n) (path_args_written types) (callee_written types) in
    record { writes = r.writes; same = r.same }

-- what stands in modules that nest so many levels deep
abbrev module_level : ℕ → Parts
module_level n = record {
  spelled = module_parts (spelled_within braces module_parts n);
  twins = module_twins (twin_within braces module_twins n);
  both = module_both (twin_within braces module_twins n) (spelled_within braces module_parts n) (braces_both n);
}

abbrev braces_tokens : List items.Item → List LexemeKind
braces_tokens is = Punct OpenBrace ∷ (flat_map item_tokens is ++ Punct CloseBrace ∷ [])

module _ (n : ℕ) where
  types_there : Sorted (module_level n) Types type_tokens
  types_there = record { writes = (types_written 2048).writes; same = (types_written 2048).same }

  terms_there : Sorted (module_level n) Terms term_tokens
  terms_there = record { writes = (terms_written 256).writes; same = (terms_written 256).same }

modules_written : (n : ℕ) → Sorted (module_level n) Modules braces_tokens
unfolding spelled_within twin_within
modules_written zero = record { writes = λ is others all s. absurd s; same = λ x y ks t. absurd t }
modules_written (suc n) =
    let types = types_there n in
    let r = braces_written {M = module_level n} types (terms_there n) (modules_written n) (some_types_written types) (path_args_written types) (body_written types (path_args_written types) (callee_written types)) in
    record { writes = r.writes; same = r.same }

text_written : Rules (module_level 64) crates 0 tree_tokens
text_written =
    let types = types_there 64 in
    crates_written {M = module_level 64} types (terms_there 64) (modules_written 64) (some_types_written types) (path_args_written types) (body_written types (path_args_written types) (callee_written types))

pub tree_written : (tree : Ast) → Writes (IsSpelled tree) (tree_tokens tree)
tree_written = text_written.writes

pub twins_same : (a b : Ast) (ks : List LexemeKind) → TreeTwins a b ks → tree_tokens a ≡ tree_tokens b
twins_same = text_written.same
