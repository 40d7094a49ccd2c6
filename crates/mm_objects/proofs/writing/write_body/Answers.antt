use Rattle.std.proofs.Common.{◌∙◌, ◌++◌, ap, map}
use Rattle.mm_objects.specs.ObjectText.{instr_words, written}
use Rattle.mm_objects.proofs.WriteLemmas.{wrote_body}
use Rattle.mm_objects.proofs.writing.write_body.Goals as goal

pub returns : goal.returns
returns c = wrote_body c.args.out.now.items c.args.block.now.instrs c.args.block.now.end _ _ _ (c.in_ok-write_instrs.ensures ∙ ap (λ l. c.args.out.now.items ++ written (map instr_words l)) c.as_slice.ensures) c.in_ok-write_end.ensures c.in_ok-push.ensures.items
