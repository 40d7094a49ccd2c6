use Rattle.std.proofs.Common.{◌≡◌, ◌-◌, Ok, sym, ◌∙◌, ap, subst, length}
use Rattle.mm_ast.specs.declared.bodies.Place.TheVariants as places
use Rattle.mm_forms.specs.Forms.{◌>>=◌, firsts, each_in}
use Rattle.mm_grammar.specs.Codes.{code}
use Rattle.mm_grammar.specs.Grammar.{step, steps}
use Rattle.mm_grammar.specs.Places.{projected}
use Rattle.mm_grammar.specs.Reading.{begun, read, start}
use Rattle.mm_grammar.specs.Seen.{seen}
use Rattle.mm_parse_bodies.proofs.PlaceLemmas.{some_token, first_and_others}
use Rattle.mm_parse_bodies.proofs.places.local_place.Goals as goal

pub returns : goal.returns
unfolding steps
returns c =
    let ts = seen c.args.tokens in
    let after = seen c.in_ok-first.rest in
    let rest = seen c.in_ok-others.rest in
    let step_begins = sym c.begins_step.ensures ∙ c.if-not-begins_step.false in
    let others = subst (λ n. each_in code (begun step) (λ i. read step) (n - 1) 1 after ≡ Ok (c.in_ok-others.others, rest)) c.len.ensures c.in_ok-others.ensures in
    ap (λ r. r >>= λ a. Ok (projected c.args.local a.0, a.1))
    (first_and_others (begun step) (λ i. read step) (length ts) ts after rest c.in_ok-first.first c.in_ok-others.others (some_token (firsts code start step) ts step_begins) step_begins c.in_ok-first.ensures others)
    ∙ ap (λ p. Ok (places.Projection p, rest)) (sym c.in_ok-new.ensures)
