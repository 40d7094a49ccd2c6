use Rattle.std.proofs.Common.{◌≡◌, ◌++◌, ℕ, List, map, OnOk, codes, ap, ◌∙◌, subst}
use Rattle.std.proofs.lemmas.List.{append_assoc}
use Rattle.mm_terms.specs.declared.ty_head.TyHead.TheVariants.{Param, U64, Bool, Tuple, Ref, Boxed, FnPtr, FnItem, Closure, Dyn, Adt}
use Rattle.mm_symbols.specs.TypeText.{list_text, fnptr_text, type_text}
use Rattle.mm_symbols.proofs.TypeTextLemmas.{layer_is, fnptr_is, OnOk-all, OnOk-behind}
use Rattle.mm_symbols.proofs.type_texts.+type_texts.Goals as goal

pub write_type-returns-in-Param : goal.write_type-returns-in-Param
write_type-returns-in-Param t c = subst (λ text. OnOk c.write_param.result (c.write_param.new.out.items ≡ c.args.out.now.items ++ text)) (layer_is c.args.p.now c.args.tree.now (Param c.in-Param.i) c.as_slice-children.result.now c.in-Param.is c.as_slice-children.ensures) c.write_param.ensures

pub write_type-returns-in-U64 : goal.write_type-returns-in-U64
write_type-returns-in-U64 t c = subst (λ text. OnOk c.extend_from_slice.result (c.extend_from_slice.new.self.items ≡ c.args.out.now.items ++ text)) (layer_is c.args.p.now c.args.tree.now U64 c.as_slice-children.result.now c.in-U64.is c.as_slice-children.ensures) (OnOk-all c.extend_from_slice.result c.extend_from_slice.new.self.items c.args.out.now.items _ c.extend_from_slice.ensures.items)

pub write_type-returns-in-Bool : goal.write_type-returns-in-Bool
write_type-returns-in-Bool t c = subst (λ text. OnOk c.extend_from_slice-in-Bool.result (c.extend_from_slice-in-Bool.new.self.items ≡ c.args.out.now.items ++ text)) (layer_is c.args.p.now c.args.tree.now Bool c.as_slice-children.result.now c.in-Bool.is c.as_slice-children.ensures) (OnOk-all c.extend_from_slice-in-Bool.result c.extend_from_slice-in-Bool.new.self.items c.args.out.now.items _ c.extend_from_slice-in-Bool.ensures.items)

pub write_type-returns-in-Tuple : goal.write_type-returns-in-Tuple
write_type-returns-in-Tuple t c = subst (λ text. OnOk c.write_within.result (c.write_within.new.out.items ≡ c.args.out.now.items ++ text)) (layer_is c.args.p.now c.args.tree.now Tuple c.as_slice-children.result.now c.in-Tuple.is c.as_slice-children.ensures) c.write_within.ensures

pub write_type-returns-in_ok-push-in-Ref : goal.write_type-returns-in_ok-push-in-Ref
write_type-returns-in_ok-push-in-Ref t c =
    let IsWritten : List ℕ → Type 0 = λ text. OnOk c.write_list.result (c.write_list.new.out.items ≡ c.args.out.now.items ++ text) in
    let children = c.as_slice-children.result.now in
    let written : IsWritten (codes "&" ++ list_text (map (type_text c.args.p.now) children)) =
    OnOk-behind c.write_list.result c.write_list.new.out.items c.push.new.self.items c.args.out.now.items (codes "&") (list_text (map (type_text c.args.p.now) children)) c.in_ok-push-in-Ref.ensures.items c.write_list.ensures in
    subst IsWritten (layer_is c.args.p.now c.args.tree.now Ref children c.in-Ref.is c.as_slice-children.ensures) written

pub write_type-returns-in-Boxed : goal.write_type-returns-in-Boxed
write_type-returns-in-Boxed t c = subst (λ text. OnOk c.write_within-in-Boxed.result (c.write_within-in-Boxed.new.out.items ≡ c.args.out.now.items ++ text)) (layer_is c.args.p.now c.args.tree.now Boxed c.as_slice-children.result.now c.in-Boxed.is c.as_slice-children.ensures) c.write_within-in-Boxed.ensures

pub write_type-returns-in_ok-extend_from_slice-in-FnPtr : goal.write_type-returns-in_ok-extend_from_slice-in-FnPtr
write_type-returns-in_ok-extend_from_slice-in-FnPtr t c =
    let IsWritten : List ℕ → Type 0 = λ text. OnOk c.write_list-in-FnPtr.result (c.write_list-in-FnPtr.new.out.items ≡ c.args.out.now.items ++ text) in
    let children = c.as_slice-children.result.now in
    let written : IsWritten (fnptr_text (map (type_text c.args.p.now) children)) =
    let prefix = codes "fnptr(" ++ list_text (map (type_text c.args.p.now) c.split_at.result.0.now) ++ codes ")" in
    let back = list_text (map (type_text c.args.p.now) c.split_at.result.1.now) in
    let middle : c.extend_from_slice-in-FnPtr.new.self.items ≡ c.args.out.now.items ++ (prefix ++ codes " -> ") =
    c.in_ok-extend_from_slice-in-FnPtr.ensures.items ∙ ap (λ text. text ++ codes " -> ") c.in_ok-write_within-in-FnPtr.ensures ∙ append_assoc c.args.out.now.items prefix (codes " -> ") in
    subst IsWritten (fnptr_is c.args.p.now children c.split_at.result.0.now c.split_at.result.1.now c.saturating_sub.result c.saturating_sub.ensures c.split_at.ensures.front c.split_at.ensures.back)
    (OnOk-behind c.write_list-in-FnPtr.result c.write_list-in-FnPtr.new.out.items c.extend_from_slice-in-FnPtr.new.self.items c.args.out.now.items (prefix ++ codes " -> ") back middle c.write_list-in-FnPtr.ensures) in
    subst IsWritten (layer_is c.args.p.now c.args.tree.now FnPtr children c.in-FnPtr.is c.as_slice-children.ensures) written

pub write_type-returns-in-FnItem : goal.write_type-returns-in-FnItem
write_type-returns-in-FnItem t c = subst (λ text. OnOk c.write_named.result (c.write_named.new.out.items ≡ c.args.out.now.items ++ text)) (layer_is c.args.p.now c.args.tree.now (FnItem c.in-FnItem.d) c.as_slice-children.result.now c.in-FnItem.is c.as_slice-children.ensures) c.write_named.ensures

pub write_type-returns-in-Closure : goal.write_type-returns-in-Closure
write_type-returns-in-Closure t c = subst (λ text. OnOk c.write_named-in-Closure.result (c.write_named-in-Closure.new.out.items ≡ c.args.out.now.items ++ text)) (layer_is c.args.p.now c.args.tree.now (Closure c.in-Closure.d) c.as_slice-children.result.now c.in-Closure.is c.as_slice-children.ensures) c.write_named-in-Closure.ensures

pub write_type-returns-in-Dyn : goal.write_type-returns-in-Dyn
write_type-returns-in-Dyn t c = subst (λ text. OnOk c.write_named-in-Dyn.result (c.write_named-in-Dyn.new.out.items ≡ c.args.out.now.items ++ text)) (layer_is c.args.p.now c.args.tree.now (Dyn c.in-Dyn.d) c.as_slice-children.result.now c.in-Dyn.is c.as_slice-children.ensures) c.write_named-in-Dyn.ensures

pub write_type-returns-in-Adt : goal.write_type-returns-in-Adt
write_type-returns-in-Adt t c = subst (λ text. OnOk c.write_named-in-Adt.result (c.write_named-in-Adt.new.out.items ≡ c.args.out.now.items ++ text)) (layer_is c.args.p.now c.args.tree.now (Adt c.in-Adt.d) c.as_slice-children.result.now c.in-Adt.is c.as_slice-children.ensures) c.write_named-in-Adt.ensures
