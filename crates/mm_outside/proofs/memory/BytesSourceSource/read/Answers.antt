use Rattle.std.proofs.Common.{◌≡◌, ◌≤◌, length, drop, take, min, ap, sym, ◌∙◌, arith}
use Rattle.std.proofs.lemmas.Grind.{common_steps}
use Rattle.mm_outside.proofs.Bytes.{copied_from, none_left, rest_is}
use Rattle.mm_outside.proofs.memory.BytesSourceSource.read.Goals as goal

pub returns-clause-bytes : goal.returns-clause-bytes
returns-clause-bytes c =
    let at = c.self.inside.at in
    let bytes = c.self.inside.bytes.items in
    let n = c.min-count.result in
    let left = ap (λ s. s.left) c.self.view_is in
    let count : n ≡ min (min c.self.inside.calls.piece (length c.args.buf.now)) (length (drop at bytes)) = grind (arith, common_steps) in
    let fits : n ≤ length (drop at bytes) = omega arith in
    let copied : c.copy_from_slice.new.self ≡ take n (drop at bytes) = grind (arith, common_steps, rest_is) in
    (sym left ∙ copied_from n at bytes _ _ fits copied, λ none _. none_left n _ _ at bytes count c.self.invariant.1 c.requires none)
