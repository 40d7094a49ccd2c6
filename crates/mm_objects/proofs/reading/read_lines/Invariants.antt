use Rattle.std.proofs.Common.{◌≡◌, ◌+◌, drop}
use Rattle.mm_objects.specs.declared.progress.Progress.TheVariants as at
use Rattle.mm_objects.specs.TextReading.{follow}
use Rattle.mm_objects.proofs.PieceLemmas.{seen}
use Rattle.mm_objects.proofs.reading.read_lines.Given as goal

abbrev pub invariant-loop-line : goal.invariant-loop-line
invariant-loop-line l = record {
  follows : follow l.several 1 at.Start (seen l.lines) ≡ follow l.several l.number l.progress (seen (drop l.line-index l.lines));
  counts : l.number ≡ l.line-index + 1;
}
