-- What is reported of the bytes that were built is what is seen of the program.
use Rattle.std.proofs.Common.{◌≡◌, ℕ, List, ◌∙◌, ap, subst, inl, inr}
use Rattle.mm_terms.specs.declared.item.Item.{Item}
use Rattle.mm_plain.specs.declared.program.Program.{Program}
use Rattle.mm_objects.specs.declared.objects.Objects.{Objects}
use Rattle.mm_machines.specs.declared.trap.Obs.{Obs}
use Rattle.mm_machines.specs.Demand.{observed_demand}
use Rattle.mm_machines.specs.Image.{observed_image}
use Rattle.mm_link.proofs.OneVerdict.{linked_one, linked_or_fault}
use Rattle.mm_tool.specs.Observed.{obs_text, obs_status}
use Rattle.mm_tool.specs.Report.{IsLinkAnswer, IsObjectsOf, IsRun}
use Rattle.mm_tool.proofs.OneRun.{objects_one, seen, reported_fault}

module _ (p : Program) (items : List Item) (bytes : List ℕ) (built : IsObjectsOf p items bytes) (steps : ℕ) where
  -- the status and the bytes tell what is seen of the program
  abbrev pub TellsProgram : ℕ → List ℕ → Type 0
  TellsProgram status output = (status ≡ obs_status (observed_demand p steps).ended) × (output ≡ obs_text (observed_demand p steps))

  seen_of_program : seen built.runs.image steps ≡ observed_demand p steps
  seen_of_program = ap (λ (o : Objects). observed_image o.units built.runs.image.main steps) built.runs.linked.objects ∙ built.runs.same steps

  run_tells : (status : ℕ) (output : List ℕ) → IsRun built.objects steps status output → TellsProgram status output
  run_tells status output (inl run) =
      let same : seen run.image steps ≡ observed_demand p steps = ap (λ image. seen image steps) (linked_one built.objects run.image built.runs.image run.linked built.runs.linked) ∙ seen_of_program in
      (run.status_is ∙ ap (λ (o : Obs). obs_status o.ended) same, run.output_is ∙ ap obs_text same)
  run_tells status output (inr unlinked) = absurd (linked_or_fault built.objects built.runs.image unlinked.fault built.runs.linked unlinked.verdict (reported_fault unlinked.fault output unlinked.reported))

  pub built_runs : (status : ℕ) (output : List ℕ) → IsLinkAnswer bytes steps status output → TellsProgram status output
  built_runs status output (inl linked) =
      run_tells status output (subst (λ objects. IsRun objects steps status output) (objects_one bytes linked.objects built.objects linked.text built.text) linked.run)
  built_runs status output (inr bad) = absurd (bad.none built.objects built.text)
