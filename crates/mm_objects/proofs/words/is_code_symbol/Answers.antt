use Rattle.std.proofs.Common.{◌∙◌}
use Rattle.mm_objects.proofs.NameLaws.{code_found}
use Rattle.mm_objects.proofs.words.is_code_symbol.Goals as goal

pub returns : goal.returns
returns c = c.is_form_of_code.ensures ∙ code_found c.args.word.now c.in_ok-found.found c.in_ok-found.ensures
