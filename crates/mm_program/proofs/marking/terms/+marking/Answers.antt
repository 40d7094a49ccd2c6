use Rattle.std.specs.Prelude.{◌∷◌, flat_map}
use Rattle.std.proofs.Common.{ap, sym, ◌∙◌}
use Rattle.mm_program.specs.Marks.{marked}
use Rattle.mm_program.specs.Naming.{named_in_term, named_in_types}
use Rattle.mm_program.proofs.MarkLemmas.{mark_each, marked_append}
use Rattle.mm_program.proofs.TermLemmas.{tuple_names, new_names}
use Rattle.mm_program.proofs.marking.terms.+marking.Goals as goal

pub mark_term-returns-in-Tuple : goal.mark_term-returns-in-Tuple
mark_term-returns-in-Tuple t c =
    let old = c.args.marks.now in
    c.mark_terms.ensures ∙ ap (λ ts. marked old (flat_map named_in_term ts)) c.as_slice.ensures ∙ ap (marked old) (sym (tuple_names c.in-Tuple.parts))
    ∙ ap (λ t. marked old (named_in_term t)) (sym c.in-Tuple.is)

pub mark_term-returns-in-New : goal.mark_term-returns-in-New
mark_term-returns-in-New t c =
    let old = c.args.marks.now in
    let d = c.in-New.d in
    let args = c.in-New.args in
    let parts = c.in-New.parts in
    c.mark_terms-in-New.ensures ∙ ap (λ ts. marked c.mark_instance.new.marks (flat_map named_in_term ts)) c.as_slice-in-New-2.ensures
    ∙ ap (λ marks. marked marks (flat_map named_in_term parts)) (c.mark_instance.ensures ∙ ap (λ ts. marked old (d ∷ named_in_types ts)) c.as_slice-in-New.ensures)
    ∙ sym (marked_append old (d ∷ named_in_types args) (flat_map named_in_term parts))
    ∙ ap (marked old) (sym (new_names d args c.in-New.field-2 parts)) ∙ ap (λ t. marked old (named_in_term t)) (sym c.in-New.is)

pub mark_terms-loop-term-preserved : goal.mark_terms-loop-term-preserved
mark_terms-loop-term-preserved t c =
    mark_each named_in_term c.args.terms.now c.loop-term.term-index c.term-item.result c.loop-term.marks c.mark_term.new.marks _ c.loop-term-test.true c.term-item.is c.mark_term.ensures c.loop-term.invariant
