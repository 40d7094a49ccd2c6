use Rattle.std.proofs.Common.{◌∙◌, ap, get_or, sym}
use Rattle.mm_link.proofs.Clashing.{least_of_reported, none_reported}
use Rattle.mm_link.proofs.clash.least_clash.Goals as goal

pub returns-in-None : goal.returns-in-None
returns-in-None c = none_reported c.args.index.now.units (sym c.in_ok-found.ensures ∙ sym c.deref.ensures.value ∙ c.in-None.ensures)

pub returns : goal.returns
returns c =
    least_of_reported c.args.index.now.units c.deref.result.now c.in-Some.position c.remove.result (c.deref.ensures.value ∙ c.in_ok-found.ensures) c.in-Some.ensures
    (c.remove.ensures.value ∙ ap (λ l. get_or l c.in-Some.position c.remove.result) (sym c.deref.ensures.value))
