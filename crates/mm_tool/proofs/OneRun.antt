-- Bytes that are linked and run have one answer.
use Rattle.std.proofs.Common.{◌≡◌, ◌≢◌, ℕ, List, sym, ◌∙◌, ap, subst, inl, inr}
use Rattle.mm_objects.specs.declared.objects.Objects.{Objects}
use Rattle.mm_objects.specs.ObjectForms.{IsUnitText}
use Rattle.mm_objects.proofs.TextLaws.{one_text}
use Rattle.mm_machines.specs.declared.trap.Obs.{Obs}
use Rattle.mm_machines.specs.Image.{observed_image}
use Rattle.mm_link.specs.declared.fault.LinkFault.{LinkFault}
use Rattle.mm_link.specs.declared.fault.LinkFault.TheVariants as unlinked
use Rattle.mm_objects.specs.declared.target.Linked.{Linked}
use Rattle.mm_link.proofs.OneVerdict.{linked_one, verdict_one, linked_or_fault}
use Rattle.mm_tool.specs.Observed.{obs_text, obs_status}
use Rattle.mm_tool.specs.Report.{TellsUnlinked, IsUnlinked, IsObserved, IsRun, IsLinkAnswer}
use Rattle.mm_tool.proofs.Reports.{Same}

-- out of memory is not reported
pub reported_fault : (f : LinkFault) (output : List ℕ) → TellsUnlinked f output → f ≢ unlinked.NoMemory
reported_fault (unlinked.Double symbol first second) output tells is = cc
reported_fault (unlinked.Undefined unit symbol) output tells is = cc
reported_fault unlinked.NoMain output tells is = cc
reported_fault unlinked.NoMemory output tells is = absurd tells

reported_one : (f : LinkFault) (a b : List ℕ) → TellsUnlinked f a → TellsUnlinked f b → a ≡ b
reported_one (unlinked.Double symbol first second) a b one other = one ∙ sym other
reported_one (unlinked.Undefined unit symbol) a b one other = one ∙ sym other
reported_one unlinked.NoMain a b one other = one ∙ sym other
reported_one unlinked.NoMemory a b one other = absurd one

unlinked_one : (objects : Objects) (s t : ℕ) (a b : List ℕ) → IsUnlinked objects s a → IsUnlinked objects t b → Same s t a b
unlinked_one objects s t a b one other =
    let same : one.fault ≡ other.fault = verdict_one objects one.fault other.fault one.verdict other.verdict (reported_fault one.fault a one.reported) (reported_fault other.fault b other.reported) in
    (one.status_is ∙ sym other.status_is, reported_one other.fault a b (subst (λ f. TellsUnlinked f a) same one.reported) other.reported)

-- what is seen of a run
abbrev pub seen : Linked → ℕ → Obs
seen image steps = observed_image image.objects.units image.main steps

observed_one : (objects : Objects) (steps s t : ℕ) (a b : List ℕ) → IsObserved objects steps s a → IsObserved objects steps t b → Same s t a b
observed_one objects steps s t a b one other =
    let same : one.image ≡ other.image = linked_one objects one.image other.image one.linked other.linked in (
      one.status_is ∙ ap (λ image. obs_status (seen image steps).ended) same ∙ sym other.status_is,
      one.output_is ∙ ap (λ image. obs_text (seen image steps)) same ∙ sym other.output_is,
    )

run_one : (objects : Objects) (steps s t : ℕ) (a b : List ℕ) → IsRun objects steps s a → IsRun objects steps t b → Same s t a b
run_one objects steps s t a b (inl one) (inl other) = observed_one objects steps s t a b one other
run_one objects steps s t a b (inl one) (inr other) = absurd (linked_or_fault objects one.image other.fault one.linked other.verdict (reported_fault other.fault b other.reported))
run_one objects steps s t a b (inr one) (inl other) = absurd (linked_or_fault objects other.image one.fault other.linked one.verdict (reported_fault one.fault a one.reported))
run_one objects steps s t a b (inr one) (inr other) = unlinked_one objects s t a b one other

pub objects_one : (bytes : List ℕ) (one other : Objects) → IsUnitText bytes one → IsUnitText bytes other → one ≡ other
objects_one bytes one other a b = one_text one other a.text.are b.text.are (sym a.text.is ∙ b.text.is)

pub link_answer_one : (bytes : List ℕ) (steps s t : ℕ) (a b : List ℕ) → IsLinkAnswer bytes steps s a → IsLinkAnswer bytes steps t b → Same s t a b
link_answer_one bytes steps s t a b (inl one) (inl other) =
    run_one other.objects steps s t a b (subst (λ objects. IsRun objects steps s a) (objects_one bytes one.objects other.objects one.text other.text) one.run) other.run
link_answer_one bytes steps s t a b (inl one) (inr other) = absurd (other.none one.objects one.text)
link_answer_one bytes steps s t a b (inr one) (inl other) = absurd (one.none other.objects other.text)
link_answer_one bytes steps s t a b (inr one) (inr other) = (one.status_is ∙ sym other.status_is, one.output_is ∙ sym other.output_is)
