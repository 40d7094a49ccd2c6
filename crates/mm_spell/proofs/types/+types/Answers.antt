use Rattle.std.proofs.Common.{◌≡◌, ◌++◌, [], ◌∷◌, List, map, OnOk, sym, ap, subst, ◌∙◌}
use Rattle.mm_names.specs.declared.word.Word.TheVariants as words
use Rattle.mm_lex.specs.declared.punct.Punct.TheVariants as puncts
use Rattle.mm_lex.specs.Lexemes.{LexemeKind, Word, Punct}
use Rattle.mm_ast.specs.declared.types.Head.TheVariants as heads
use Rattle.mm_spell.specs.Listed.{kinds, in_parens}
use Rattle.mm_spell.specs.TypeTokens.{types_tokens, type_tokens}
use Rattle.mm_spell.proofs.Heads.{written_as, behind, fn_pointer_is}
use Rattle.mm_spell.proofs.types.+types.Goals as goal

pub write_type-returns-in-Param : goal.write_type-returns-in-Param
write_type-returns-in-Param t c =
    written_as c.args.ty.now (heads.Param c.as_slice.result.now) c.as_slice-children.result.now (c.in-Param.is ∙ ap heads.Param (sym c.as_slice.ensures)) c.as_slice-children.ensures _ _ _ c.write_text.ensures

pub write_type-returns-in-SelfType : goal.write_type-returns-in-SelfType
write_type-returns-in-SelfType t c = written_as c.args.ty.now heads.SelfType c.as_slice-children.result.now c.in-SelfType.is c.as_slice-children.ensures _ _ _ c.write_word.ensures

pub write_type-returns-in-U64 : goal.write_type-returns-in-U64
write_type-returns-in-U64 t c = written_as c.args.ty.now heads.U64 c.as_slice-children.result.now c.in-U64.is c.as_slice-children.ensures _ _ _ c.write_word-in-U64.ensures

pub write_type-returns-in-Bool : goal.write_type-returns-in-Bool
write_type-returns-in-Bool t c = written_as c.args.ty.now heads.Bool c.as_slice-children.result.now c.in-Bool.is c.as_slice-children.ensures _ _ _ c.write_word-in-Bool.ensures

pub write_type-returns-in-Tuple : goal.write_type-returns-in-Tuple
write_type-returns-in-Tuple t c = written_as c.args.ty.now heads.Tuple c.as_slice-children.result.now c.in-Tuple.is c.as_slice-children.ensures _ _ _ c.write_types_in_parens.ensures

pub write_type-returns-in-FnItem : goal.write_type-returns-in-FnItem
write_type-returns-in-FnItem t c = written_as c.args.ty.now (heads.FnItem c.in-FnItem.path) c.as_slice-children.result.now c.in-FnItem.is c.as_slice-children.ensures _ _ _ c.write_named.ensures

pub write_type-returns-in-Closure : goal.write_type-returns-in-Closure
write_type-returns-in-Closure t c = written_as c.args.ty.now (heads.Closure c.in-Closure.path) c.as_slice-children.result.now c.in-Closure.is c.as_slice-children.ensures _ _ _ c.write_named-in-Closure.ensures

pub write_type-returns-in-Dyn : goal.write_type-returns-in-Dyn
write_type-returns-in-Dyn t c = written_as c.args.ty.now (heads.Dyn c.in-Dyn.path) c.as_slice-children.result.now c.in-Dyn.is c.as_slice-children.ensures _ _ _ c.write_named-in-Dyn.ensures

pub write_type-returns-in-Adt : goal.write_type-returns-in-Adt
write_type-returns-in-Adt t c = written_as c.args.ty.now (heads.Adt c.in-Adt.path) c.as_slice-children.result.now c.in-Adt.is c.as_slice-children.ensures _ _ _ c.write_path_and_args.ensures

pub write_type-returns-in_ok-write_punct-in-Ref : goal.write_type-returns-in_ok-write_punct-in-Ref
write_type-returns-in_ok-write_punct-in-Ref t c =
    written_as c.args.ty.now heads.Ref c.as_slice-children.result.now c.in-Ref.is c.as_slice-children.ensures _ _ _
    (behind _ _ (kinds c.write_punct.new.out.items) _ (Punct puncts.Ampersand ∷ []) _ c.in_ok-write_punct-in-Ref.ensures c.write_types.ensures)

pub write_type-returns-in_ok-write_word-in-Boxed : goal.write_type-returns-in_ok-write_word-in-Boxed
write_type-returns-in_ok-write_word-in-Boxed t c =
    written_as c.args.ty.now heads.Boxed c.as_slice-children.result.now c.in-Boxed.is c.as_slice-children.ensures _ _ _
    (behind _ _ (kinds c.write_word-in-Boxed.new.out.items) _ (Word words.BoxType ∷ []) _ c.in_ok-write_word-in-Boxed.ensures c.write_types_in_angles.ensures)

pub write_type-returns-in_ok-write_punct-in-FnPtr : goal.write_type-returns-in_ok-write_punct-in-FnPtr
write_type-returns-in_ok-write_punct-in-FnPtr t c =
    let children = c.as_slice-children.result.now in
    let IsWritten : List LexemeKind → Type 0 = λ tokens. OnOk c.write_types-in-FnPtr.result (kinds c.write_types-in-FnPtr.new.out.items ≡ kinds c.args.out.now.items ++ tokens) in
    written_as c.args.ty.now heads.FnPtr children c.in-FnPtr.is c.as_slice-children.ensures _ _ _
    (subst IsWritten (fn_pointer_is children c.split_at.result.0.now c.split_at.result.1.now c.saturating_sub.result c.saturating_sub.ensures c.split_at.ensures.front c.split_at.ensures.back)
    (behind _ _ (kinds c.write_word-in-FnPtr.new.out.items) _ (Word words.FnPtr ∷ []) _ c.in_ok-write_word-in-FnPtr.ensures
    (behind _ _ (kinds c.write_types_in_parens-in-FnPtr.new.out.items) _ (in_parens (types_tokens c.split_at.result.0.now)) _ c.in_ok-write_types_in_parens-in-FnPtr.ensures
    (behind _ _ (kinds c.write_punct-in-FnPtr.new.out.items) _ (Punct puncts.Arrow ∷ []) (types_tokens c.split_at.result.1.now) c.in_ok-write_punct-in-FnPtr.ensures c.write_types-in-FnPtr.ensures))))
