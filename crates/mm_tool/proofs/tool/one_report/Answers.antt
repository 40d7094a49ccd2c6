use Rattle.mm_tool.proofs.OneReport.{report_one}
use Rattle.mm_tool.proofs.tool.one_report.Goals as goal

pub returns : goal.returns
returns c words text s t a b one other = report_one words text s t a b one other
