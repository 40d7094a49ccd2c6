-- The canonical text of a tree: there is one, it is that of what is written for the tree, and twins have the same.
use Rattle.std.proofs.Common.{◌≡◌, ◌⊎◌, inl, inr, ◌<◌, ℕ, List, length, refl, sym, ap, subst, ◌∙◌, arith}
use Rattle.mm_lex.specs.Lexemes.{LexemeKind}
use Rattle.mm_ast.specs.declared.items.Ast.{Ast}
use Rattle.mm_shape.specs.Shapes.{AllTokens, IsSpelled}
use Rattle.mm_shape.proofs.Levels.{TreeTwins}
use Rattle.mm_shape.proofs.Writing.{Fewest}
use Rattle.mm_print.specs.ItemTokens.{tree_tokens}
use Rattle.mm_print.specs.Canonical.{canonical}
use Rattle.mm_print.specs.Printed.{printed}
use Rattle.mm_print.specs.Printing.{Spell, IsCanonical}
use Rattle.mm_print.proofs.Printed.{printed_canonical}
use Rattle.mm_print.proofs.TreeWriting.{tree_written, twins_same}

pub tree_canonical : (tree : Ast) (text : List ℕ) → text ≡ printed (tree_tokens tree) → (ks : List LexemeKind) → Spell tree ks → IsCanonical tree text
tree_canonical tree text is ks s =
    let fewest = tree_written tree ks s.tokens s.tree_is in
    record {
      kinds = tree_tokens tree;
      spell = record { tokens = fewest.tokens; tree_is = fewest.spelled };
      fewest = λ others o. (tree_written tree others o.tokens o.tree_is).few;
      is = is ∙ printed_canonical (tree_tokens tree) fewest.tokens;
    }

-- each of two lists of tokens is the other, or is shorter
same_tokens : (xs ys : List LexemeKind) → (ys ≡ xs) ⊎ (length xs < length ys) → (xs ≡ ys) ⊎ (length ys < length xs) → xs ≡ ys
same_tokens xs ys (inl a) b = sym a
same_tokens xs ys (inr a) (inl b) = b
same_tokens xs ys (inr a) (inr b) = absurd (omega (arith, a, b))

pub one_canonical : (tree : Ast) (a b : List ℕ) → IsCanonical tree a → IsCanonical tree b → a ≡ b
one_canonical tree a b c d = c.is ∙ ap canonical (same_tokens c.kinds d.kinds (c.fewest d.kinds d.spell) (d.fewest c.kinds c.spell)) ∙ sym d.is

kinds_written : (tree : Ast) (text : List ℕ) (c : IsCanonical tree text) → c.kinds ≡ tree_tokens tree
kinds_written tree text c =
    let w = tree_written tree c.kinds c.spell.tokens c.spell.tree_is in
    same_tokens c.kinds (tree_tokens tree) (c.fewest (tree_tokens tree) (record { tokens = w.tokens; tree_is = w.spelled })) w.few

-- a canonical text is that of each twin that is spelled by its tokens
pub twin_canonical : (tree other : Ast) (text : List ℕ) (c : IsCanonical tree text) → (ks : List LexemeKind) → TreeTwins tree other ks → IsSpelled other c.kinds → IsCanonical other text
twin_canonical tree other text c ks twins spelled =
    let same : tree_tokens other ≡ c.kinds = sym (kinds_written tree text c ∙ twins_same tree other ks twins) in
    record {
      kinds = c.kinds;
      spell = record { tokens = c.spell.tokens; tree_is = spelled };
      fewest = λ others o. subst (λ ks. (others ≡ ks) ⊎ (length ks < length others)) same (tree_written other others o.tokens o.tree_is).few;
      is = c.is;
    }
