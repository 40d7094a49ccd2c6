use Rattle.std.proofs.Common.{sym, ◌∙◌, ap}
use Rattle.mm_mentions.specs.ImplMentions.{impl_in}
use Rattle.mm_mentions.specs.Scopes.{of_params}
use Rattle.mm_mentions.proofs.Followed.{said_as}
use Rattle.mm_mentions.proofs.impls.mention_impl.Goals as goal

pub returns : goal.returns
returns c =
    let params = c.as_slice-params.result.now in
    let krate = c.args.krate.now in
    let form = c.args.item.now.form in
    said_as _ _ _ _ _ ((λ i. impl_in krate c.args.line (of_params (sym c.as_slice-params.ensures i)) (sym c.as_slice-params.ensures i) form) ∙ ap (λ own. impl_in krate c.args.line own params form) (sym c.in_ok-own.ensures)) c.mention_impl_in.ensures
