use Rattle.std.proofs.Common.{Err, ap, refl, inr}
use Rattle.mm_tool.proofs.linking.answer_link.Goals as goal

pub returns-in_ok-from_slice-in-Err-BadObjects : goal.returns-in_ok-from_slice-in-Err-BadObjects
returns-in_ok-from_slice-in-Err-BadObjects c = inr (record { status_is = refl; none = (c.in-Err-BadObjects.ensures.bad c.in-Err-BadObjects.field-0-0 (ap Err c.in-Err-BadObjects.field-0-is)).none; output_is = c.in_ok-from_slice-in-Err-BadObjects.ensures.items })
