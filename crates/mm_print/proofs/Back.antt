-- The canonical text of a tree is read as a tree of the same shape.
use Rattle.std.proofs.Common.{◌≡◌, ℕ, List, [], ◌∷◌, map, refl, sym, ap, subst}
use Rattle.mm_lex.specs.declared.token.Token.{Token}
use Rattle.mm_lex.specs.Lexemes.{LexemeKind, Lexeme, lexemes}
use Rattle.mm_lex.specs.Tokens.{AreTokensOf}
use Rattle.mm_lex.proofs.TextLaws.{lexemes-IsLexeme}
use Rattle.mm_ast.specs.declared.items.Ast.{Ast}
use Rattle.mm_grammar.specs.Reading.{IsText}
use Rattle.mm_shape.specs.Shapes.{IsSpelled, AllTokens, kinds_of}
use Rattle.mm_shape.proofs.Forgetting.{tree_forgets}
use Rattle.mm_shape.proofs.Levels.{twin_again, stands_again}
use Rattle.mm_print.specs.Canonical.{NoneJoin, ReadsAs, canonical}
use Rattle.mm_print.specs.Printing.{Spell, IsCanonical, ReadsBack}
use Rattle.mm_print.proofs.Written.{reads_as}
use Rattle.mm_print.proofs.Joining.{all_tokens, text_joins_none}
use Rattle.mm_print.proofs.Canonicals.{twin_canonical}

pub text_spells : (text : List ℕ) (tokens : List Token) (tree : Ast) → AreTokensOf text tokens → IsText tree (lexemes text tokens) → Spell tree (kinds_of (lexemes text tokens))
text_spells text tokens tree are s = record {
  tokens = all_tokens (lexemes text tokens) (lexemes-IsLexeme text tokens are);
  tree_is = tree_forgets tree (lexemes text tokens) s;
}

-- tokens of these kinds, wherever
somewhere : List LexemeKind → List Lexeme
somewhere ks = map (λ k. record { kind = k; line = 1; column = 1 }) ks

somewhere_are : (ks : List LexemeKind) → kinds_of (somewhere ks) ≡ ks
unfolding somewhere
somewhere_are [] = refl
somewhere_are (k ∷ ks) = ap (λ js. k ∷ js) (somewhere_are ks)

-- no two neighbours join in what spells a tree
none_joins : (tree : Ast) (ks : List LexemeKind) → IsSpelled tree ks → NoneJoin ks
none_joins tree ks s =
    let again = stands_again tree (somewhere ks) (subst (IsSpelled tree) (sym (somewhere_are ks)) s) in
    subst NoneJoin (somewhere_are ks) (text_joins_none again.0 (somewhere ks) again.1)

pub reads_back : (tree : Ast) (text : List ℕ) → IsCanonical tree text → ReadsBack tree text
reads_back tree text c =
    let reads = reads_as c.kinds c.spell.tokens (none_joins tree c.kinds c.spell.tree_is) in
    let ts = lexemes (canonical c.kinds) reads.tokens in
    let again = twin_again tree ts (subst (IsSpelled tree) (sym reads.spell) c.spell.tree_is) in
    let spelled : IsSpelled again.0 (kinds_of ts) = tree_forgets again.0 ts again.1 in
    subst (λ bytes. IsCanonical again.0 text → ReadsBack tree bytes) (sym c.is)
    (λ same. record {
      tokens = reads.tokens;
      are = reads.are;
      read = again.0;
      is_text = again.1;
      same = record { kinds = kinds_of ts; one = subst (IsSpelled tree) (sym reads.spell) c.spell.tree_is; other = spelled };
      again = subst (IsCanonical again.0) c.is same;
    })
    (twin_canonical tree again.0 text c (kinds_of ts) again.2 (subst (IsSpelled again.0) reads.spell spelled))
