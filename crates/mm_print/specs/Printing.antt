-- The canonical text of a tree.
use Rattle.std.specs.Prelude.{◌≡◌, ◌⊎◌, ◌<◌, ℕ, List, length}
use Rattle.mm_lex.specs.declared.token.Token.{Token}
use Rattle.mm_lex.specs.Lexemes.{LexemeKind, lexemes}
use Rattle.mm_lex.specs.Tokens.{AreTokensOf}
use Rattle.mm_ast.specs.declared.items.Ast.{Ast}
use Rattle.mm_grammar.specs.Reading.{IsText}
use Rattle.mm_shape.specs.Shapes.{AllTokens, IsSpelled, SameShape}
use Rattle.mm_print.specs.Canonical.{canonical}

-- tokens that there are, of these kinds, spell the tree
pub record Spell (tree : Ast) (ks : List LexemeKind) : Type 0 where
  pub tokens : AllTokens ks
  pub tree_is : IsSpelled tree ks

-- The text is the canonical one of the fewest tokens that spell the tree, all others being more: `-> ()` of a signature is left out.
pub record IsCanonical (tree : Ast) (text : List ℕ) : Type 0 where
  pub kinds : List LexemeKind
  pub spell : Spell tree kinds
  pub fewest : (others : List LexemeKind) → Spell tree others → (others ≡ kinds) ⊎ (length kinds < length others)
  pub is : text ≡ canonical kinds

-- The text is read as a tree of the same shape, and is the canonical text of that tree too.
pub record ReadsBack (tree : Ast) (text : List ℕ) : Type 0 where
  pub tokens : List Token
  pub are : AreTokensOf text tokens
  pub read : Ast
  pub is_text : IsText read (lexemes text tokens)
  pub same : SameShape tree read
  pub again : IsCanonical read text
