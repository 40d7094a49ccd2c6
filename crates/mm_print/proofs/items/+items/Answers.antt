use Rattle.std.proofs.Common.{◌≡◌, ◌++◌, OnOk, ap, ◌∙◌, subst}
use Rattle.mm_ast.specs.declared.items.ItemForm.TheVariants.{Impl, Definition}
use Rattle.mm_spell.specs.Listed.{kinds}
use Rattle.mm_print.specs.ItemTokens.{impl_tokens, definition_tokens}
use Rattle.mm_print.proofs.ItemLemmas.{item_is, module_is}
use Rattle.mm_print.proofs.items.+items.Goals as goal

pub write_item-returns-in-Module : goal.write_item-returns-in-Module
write_item-returns-in-Module t c =
    subst (λ ts. OnOk c.write_module.result (kinds c.write_module.new.out.items ≡ kinds c.args.out.now.items ++ ts)) (module_is c.args.item.now c.in-Module.name c.as_slice.result.now c.in-Module.is c.as_slice.ensures) c.write_module.ensures

pub write_item-returns-in-Impl : goal.write_item-returns-in-Impl
write_item-returns-in-Impl t c =
    subst (λ ts. OnOk c.write_impl.result (kinds c.write_impl.new.out.items ≡ kinds c.args.out.now.items ++ ts)) (ap impl_tokens c.get.ensures ∙ item_is c.args.item.now (Impl c.in-Impl.form) c.in-Impl.is) c.write_impl.ensures

pub write_item-returns-in-Definition : goal.write_item-returns-in-Definition
write_item-returns-in-Definition t c =
    subst (λ ts. OnOk c.write_definition.result (kinds c.write_definition.new.out.items ≡ kinds c.args.out.now.items ++ ts)) (ap definition_tokens c.get-in-Definition.ensures ∙ item_is c.args.item.now (Definition c.in-Definition.definition) c.in-Definition.is) c.write_definition.ensures
