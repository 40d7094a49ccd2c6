use Rattle.mm_load.proofs.TextLeads.{text_leads}
use Rattle.mm_load.proofs.laws.paths_lead_to_definitions.Goals as goal

pub returns : goal.returns
returns c = λ tree written kept l has. text_leads tree written kept l has
