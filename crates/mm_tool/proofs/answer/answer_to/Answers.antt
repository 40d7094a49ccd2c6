use Rattle.std.proofs.Common.{refl, inr, ap, Err}
use Rattle.mm_tool.proofs.answer.answer_to.Goals as goal

pub returns-in_ok-from_slice-in-Err-BadText : goal.returns-in_ok-from_slice-in-Err-BadText
returns-in_ok-from_slice-in-Err-BadText c = inr (record { status_is = refl; none = c.in-Err-BadText.ensures.bad (ap Err c.in-Err-BadText.field-0-is); output_is = c.in_ok-from_slice-in-Err-BadText.ensures.items })
