use Rattle.std.proofs.Common.{◌≡◌, ◌++◌, ap, sym, ◌∙◌}
use Rattle.mm_spell.specs.Listed.{kinds}
use Rattle.mm_print.specs.ItemTokens.{tree_tokens}
use Rattle.mm_print.specs.Printed.{printed}
use Rattle.mm_print.proofs.Canonicals.{tree_canonical}
use Rattle.mm_print.proofs.tree.print.Goals as goal

pub returns : goal.returns
returns c =
    let written : kinds c.deref.result.now ≡ tree_tokens c.args.tree.now = ap kinds c.deref.ensures.value ∙ c.in_ok-write_tree.ensures ∙ ap (λ ts. kinds ts ++ tree_tokens c.args.tree.now) c.new-tokens.ensures.items in
    tree_canonical c.args.tree.now c.write_canonical.new.text.items (c.in_ok-write_canonical.ensures ∙ ap (λ bytes. bytes ++ printed (kinds c.deref.result.now)) c.new-text.ensures.items ∙ ap printed written)
