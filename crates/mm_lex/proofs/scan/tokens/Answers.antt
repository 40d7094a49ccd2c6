use Rattle.std.proofs.Common.{◌≡◌, ◌<◌, List, [], ◌∷◌, ◌++◌, length, Option, ap, sym, ◌∙◌, subst, arith, false-eqb, true-eqb, append-nil}
use Rattle.mm_lex.specs.declared.token.TokenKind.{TokenKind}
use Rattle.mm_lex.specs.declared.token.Token.{Token}
use Rattle.mm_lex.specs.Tokens.{IsFaultOf}
use Rattle.mm_lex.proofs.TextLaws.{onto}
use Rattle.mm_lex.proofs.Scanning.{IsScanned, IsSplit, split_off, IsScanned-step, IsScanned-end, IsScanned-fault}
use Rattle.mm_lex.proofs.scan.tokens.Goals as goal
use Rattle.mm_lex.proofs.scan.tokens.Goals.{After-after-behind}

-- the piece with which the rest begins
pub returns-in_default-clause-bad : goal.returns-in_default-clause-bad
returns-in_default-clause-bad c =
    let some : 0 < length c.loop-rest.rest.now = omega (arith, false-eqb _ 0 c.loop-rest-test.ensures) in
    subst (IsFaultOf c.args.text.now) (sym c.fault.ensures)
    (IsScanned-fault c.args.text.now c.loop-rest.tokens.items c.loop-rest.at c.loop-rest.rest.now c.rule_at.result c.loop-rest.invariant some (sym c.prefix.ensures ∙ c.in_default.is) c.rule_at.ensures)

pub split_at-requires : goal.split_at-requires
split_at-requires c =
    (split_off c.loop-rest.rest.now c.in-Some.kind c.in-Some.len c.loop-rest.invariant.utf8 (sym c.prefix.ensures ∙ c.in-Some.is)).boundary

split_behind : (c : After-after-behind) → IsSplit c.loop-rest.rest.now c.in-Some.kind c.in-Some.len
split_behind c = split_off c.loop-rest.rest.now c.in-Some.kind c.in-Some.len c.loop-rest.invariant.utf8 (sym c.prefix.ensures ∙ c.in-Some.is)

-- what is left is shorter
smaller : (c : After-after-behind) → length c.split_at.result.1.now < length c.loop-rest.rest.now
smaller c = omega (arith, (split_behind c).some, c.split_at.ensures.back_len)

pub loop-rest-smaller-in_ok-push : goal.loop-rest-smaller-in_ok-push
loop-rest-smaller-in_ok-push c = smaller (goal.at.loop-rest-smaller-in_ok-push c).After-after-behind

pub loop-rest-smaller : goal.loop-rest-smaller
loop-rest-smaller c = smaller (goal.at.loop-rest-smaller c).After-after-behind

-- behind the piece, with its token where it is one
scanned : (c : After-after-behind) → IsScanned c.args.text.now (c.loop-rest.tokens.items ++ onto c.in-Some.kind c.loop-rest.at c.after-behind.result []) c.after-behind.result c.split_at.result.1.now
scanned c =
    let behind = c.after-behind in
    IsScanned-step c.args.text.now c.loop-rest.tokens.items c.loop-rest.at behind.result c.loop-rest.rest.now c.split_at.result.0.now c.split_at.result.1.now c.in-Some.kind c.in-Some.len c.loop-rest.invariant (split_behind c) c.split_at.ensures.front c.split_at.ensures.back (omega (arith, c.split_at.ensures.back_len, c.split_at.ensures.front_len)) behind.ensures.position behind.ensures.offset behind.ensures.line behind.ensures.column

pub loop-rest-preserved-in_ok-push : goal.loop-rest-preserved-in_ok-push
loop-rest-preserved-in_ok-push c =
    let before = c.loop-rest.tokens.items in
    let at = c.loop-rest.at in
    let behind = c.after-behind.result in
    let pushed : before ++ onto c.in-Some.kind at behind [] ≡ c.push.new.self.items =
    ap (λ (k : Option TokenKind). before ++ onto k at behind []) c.in-Some-kind.is
    ∙ ap (λ (t : Token). before ++ (t ∷ [])) (sym c.token.ensures)
    ∙ sym {A = List Token} c.in_ok-push.ensures.items in
    subst (λ (tokens : List Token). IsScanned c.args.text.now tokens behind c.split_at.result.1.now) pushed (scanned (goal.at.loop-rest-preserved-in_ok-push c).After-after-behind)

pub loop-rest-preserved : goal.loop-rest-preserved
loop-rest-preserved c =
    let before = c.loop-rest.tokens.items in
    let behind = c.after-behind.result in
    let kept : before ++ onto c.in-Some.kind c.loop-rest.at behind [] ≡ before =
    ap (λ (k : Option TokenKind). before ++ onto k c.loop-rest.at behind []) c.in_default-kind.is ∙ append-nil before in
    subst (λ (tokens : List Token). IsScanned c.args.text.now tokens behind c.split_at.result.1.now) kept (scanned (goal.at.loop-rest-preserved c).After-after-behind)

pub returns-clause-ok : goal.returns-clause-ok
returns-clause-ok c = IsScanned-end c.args.text.now c.loop-rest.tokens.items c.loop-rest.at c.loop-rest.rest.now c.loop-rest.invariant (true-eqb _ 0 c.loop-rest-test.ensures)
