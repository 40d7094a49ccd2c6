use Rattle.std.proofs.Common.{◌≡◌, ◌++◌, ◌∙◌, map, OnOk, codes, ap, sym, subst, append_assoc}
use Rattle.std.specs.List.{concat}
use Rattle.mm_symbols.specs.SymbolText.{signature_text, type_text}
use Rattle.mm_symbols.proofs.TextLemmas.{type_text-parts, signature_is}
use Rattle.mm_symbols.proofs.writing.+types.Goals as goal

pub write_signature-returns : goal.write_signature-returns
write_signature-returns t c =
    let params = c.split_at.result.0.now in
    let result = c.split_at.result.1.now in
    let prefix = concat (map type_text params) ++ codes "E" in
    let back = concat (map type_text result) in
    let middle : c.write_until_end.new.out.items ≡ c.args.out.now.items ++ prefix = c.in_ok-write_until_end.ensures in
    let joined : c.write_until_end.new.out.items ++ back ≡ c.args.out.now.items ++ (prefix ++ back) = ap (λ text. text ++ back) middle ∙ append_assoc c.args.out.now.items prefix back in
    let types = c.as_slice-types.result.now in
    subst (λ text. OnOk c.write_types.result (c.write_types.new.out.items ≡ text))
    (joined ∙ ap (λ text. c.args.out.now.items ++ text) (signature_is types params result c.saturating_sub.result c.saturating_sub.ensures c.split_at.ensures.front c.split_at.ensures.back ∙ ap (λ ts. signature_text (map type_text ts)) c.as_slice-types.ensures))
    c.write_types.ensures

pub write_type-returns : goal.write_type-returns
write_type-returns t c =
    subst (λ text. OnOk c.write_layer.result (c.write_layer.new.out.items ≡ c.args.out.now.items ++ text)) (sym (type_text-parts c.args.ty.now)) c.write_layer.ensures
