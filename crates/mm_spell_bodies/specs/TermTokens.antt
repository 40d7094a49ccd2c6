-- The tokens that are written for constant terms.
use Rattle.std.specs.Prelude.{List, [], ◌∷◌, ◌++◌}
use Rattle.mm_names.specs.declared.word.Word.TheVariants as words
use Rattle.mm_lex.specs.declared.punct.Punct.TheVariants.{Ampersand}
use Rattle.mm_lex.specs.Lexemes.{LexemeKind, Word, Number, Punct}
use Rattle.mm_ast.specs.declared.terms.Term as terms
use Rattle.mm_ast.specs.declared.terms.Term.TheFolds.{fold-Term}
use Rattle.mm_ast.specs.declared.terms.TermHead.{TermHead}
use Rattle.mm_ast.specs.declared.terms.TermHead.TheVariants as heads
use Rattle.mm_spell.specs.Listed.{listed, in_parens}
use Rattle.mm_spell.specs.TypeTokens.{path_tokens, path_args_tokens, callee_tokens}
use Rattle.mm_spell_bodies.specs.BodyTokens.{bool_word, variant_tokens}

-- a head with what is written for the terms within
abbrev pub term_head_tokens : TermHead → List (List LexemeKind) → List LexemeKind
term_head_tokens (heads.Number n) parts = Number n ∷ []
term_head_tokens (heads.Bool b) parts = Word (bool_word b) ∷ []
term_head_tokens heads.Tuple parts = Word words.Tuple ∷ in_parens (listed parts)
term_head_tokens (heads.New p v) parts = Word words.New ∷ (path_args_tokens p ++ (variant_tokens v ++ in_parens (listed parts)))
term_head_tokens (heads.Fn c) parts = Word words.Fn ∷ callee_tokens c
term_head_tokens (heads.At p) parts = Punct Ampersand ∷ path_tokens p

unfoldable pub term_tokens : terms.Term → List LexemeKind
term_tokens = fold-Term (List LexemeKind) (λ layer. term_head_tokens layer.head layer.parts)
