use Rattle.std.proofs.Common.{sym, ap, ◌∙◌, map}
use Rattle.mm_terms.specs.declared.ty_head.TyHead.TheVariants.{Tuple, Adt}
use Rattle.mm_terms.specs.Tree.{children_of}
use Rattle.mm_symbols.specs.TypeText.{opens, type_text}
use Rattle.mm_plain.specs.Uses.{path_of}
use Rattle.mm_symbols.proofs.TypeTextLemmas.{type_text-is, opens-path, opens-other}
use Rattle.mm_symbols.proofs.type_texts.opens.Goals as goal

pub returns-in-Tuple : goal.returns-in-Tuple
returns-in-Tuple c = sym (ap opens (type_text-is c.args.p.now c.args.tree.now Tuple c.in-Tuple.is))

pub returns-in-Adt : goal.returns-in-Adt
returns-in-Adt c =
    let d = c.in-Adt.d in
    let texts = map (type_text c.args.p.now) (children_of c.args.tree.now) in
    c.begins_with_open.ensures ∙ ap opens c.path.ensures ∙ sym (opens-path (path_of c.args.p.now d) texts) ∙ sym (ap opens (type_text-is c.args.p.now c.args.tree.now (Adt d) c.in-Adt.is))

pub returns-in_default : goal.returns-in_default
returns-in_default c = sym (opens-other c.args.p.now c.args.tree.now c.in_default.not-Tuple c.in_default.not-Adt)
