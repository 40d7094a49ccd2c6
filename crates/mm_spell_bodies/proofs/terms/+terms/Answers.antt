use Rattle.std.proofs.Common.{◌≡◌, List, ◌++◌, OnOk, map, sym, ap, ◌∙◌, subst}
use Rattle.mm_ast.specs.declared.terms.Term.TheFolds.{fold_out-Term}
use Rattle.mm_ast.specs.declared.terms.Term.TheViews.{out-Term}
use Rattle.mm_lex.specs.Lexemes.{LexemeKind}
use Rattle.mm_spell.specs.Listed.{kinds}
use Rattle.mm_spell_bodies.specs.TermTokens.{term_head_tokens, term_tokens}
use Rattle.mm_spell_bodies.proofs.terms.+terms.Goals as goal

pub write_term-returns : goal.write_term-returns
unfolding term_tokens
write_term-returns t c =
    let term = c.args.term.now in
    let opened = fold_out-Term (List LexemeKind) (λ layer. term_head_tokens layer.head layer.parts) term in
    let parts = ap (λ terms. term_head_tokens (out-Term term).head (map term_tokens terms)) c.as_slice.ensures in
    subst (λ tokens. OnOk c.write_head.result (kinds c.write_head.new.out.items ≡ kinds c.args.out.now.items ++ tokens)) (parts ∙ sym opened) c.write_head.ensures
