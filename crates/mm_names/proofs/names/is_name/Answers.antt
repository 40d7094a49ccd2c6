use Rattle.std.proofs.Common.{◌≡◌, ◌∙◌, sym, ap}
use Rattle.mm_names.specs.Runs.{is_name}
use Rattle.mm_names.proofs.RunLemmas.{is_name-sound, is_name-complete}
use Rattle.mm_names.proofs.names.is_name.Goals as goal

pub returns-in-Ok : goal.returns-in-Ok
returns-in-Ok c =
    let bytes = c.args.bytes.now in
    let same : c.is_text_name.result ≡ is_name bytes = c.is_text_name.ensures ∙ ap is_name c.in-Ok.ensures.cases.0 in
    (λ yes. is_name-sound bytes (sym same ∙ yes), λ name. same ∙ is_name-complete bytes name)
