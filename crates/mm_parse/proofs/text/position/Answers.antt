use Rattle.std.proofs.Common.{◌≡◌, Some, subst}
use Rattle.std.specs.List.{slice_get}
use Rattle.mm_grammar.proofs.Positions.{token_stands, token_found}
use Rattle.mm_parse.proofs.text.position.Goals as goal

pub returns-in-Some : goal.returns-in-Some
returns-in-Some c =
    let tokens = c.args.tokens.now in
    let token = c.in-Some.token.now in
    token_stands c.args.text.now tokens c.args.left token
    (subst (λ i. slice_get tokens i ≡ Some token) c.saturating_sub.ensures (token_found tokens c.saturating_sub.result _ token c.in-Some.ensures.lookup.0 c.in-Some.ensures.lookup.1))
