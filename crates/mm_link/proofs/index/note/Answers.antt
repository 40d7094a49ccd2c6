use Rattle.std.proofs.Common.{◌∙◌, ap, sym, Some, cond}
use Rattle.std.specs.Str.{bytes_eq}
use Rattle.mm_link.specs.Index.{look_up}
use Rattle.mm_link.proofs.Keys.{updated, noted}
use Rattle.mm_link.proofs.index.note.Goals as goal

pub returns : goal.returns
returns c s =
    updated c.args.names.now c.insert.new.self c.in_ok-key.key.items (Some c.args.target) c.in_ok-insert.ensures.updates s
    ∙ ap (λ bs. cond (bytes_eq bs s) (Some c.args.target) (look_up c.args.names.now s)) c.in_ok-key.ensures.items
    ∙ noted (look_up c.args.names.now) c.args.symbol.now c.args.target (sym c.contains_key.ensures ∙ c.if-contains_key.false) s
