use Rattle.std.proofs.Common.{◌∙◌, sym, ap, arith}
use Rattle.mm_terms.specs.Length.{length_of}
use Rattle.mm_terms.proofs.PutLemmas.{given, kept_length}
use Rattle.mm_terms.proofs.ty.substitution.+total_substituted.Goals as goal

pub returns-in-Some : goal.returns-in-Some
returns-in-Some t c =
    let long = ap length_of (given c.args.args.now c.args.tree.now c.in-Some.arg.now c.in-Some.ensures) in
    (omega (arith, c.length.ensures), c.length.ensures ∙ sym long)

pub loop-child-init : goal.loop-child-init
loop-child-init t c = (kept_length c.args.args.now c.args.tree.now c.in_default.ensures, omega arith)
