-- Constant terms by their heads and their parts: induction over written terms, and what is said of each term in a term.
use Rattle.std.proofs.Common.{◌≡◌, List, [], ◌∷◌, map, refl, sym, ap, subst}
use Rattle.std.specs.Prelude.{All}
use Rattle.std.proofs.lemmas.List.Elements.{All-nil, All-cons, All-head, All-tail}
use Rattle.mm_ast.specs.declared.terms.Term as written
use Rattle.mm_ast.specs.declared.terms.Term.TheFolds.{ind-Term}
use Rattle.mm_ast.specs.declared.terms.Term.TheOpen as layer
use Rattle.mm_ast.specs.declared.terms.Term.TheViews.{out-Term, roll-Term, out-roll-Term}
use Rattle.mm_program.specs.declared.term.Term.{Term}

each_of : {T : Type 0} (P : T → Type 0) (ts : List ((t : T) × P t)) → All P (map (λ e. e.0) ts)
each_of P [] = All-nil P
each_of P (t ∷ ts) = All-cons P t.0 (map (λ e. e.0) ts) t.1 (each_of P ts)

-- induction: what holds of a term wherever it holds of its parts holds of every term
pub term_ind : (P : written.Term → Type 0) → ((t : written.Term) → All P (out-Term t).parts → P t) → (t : written.Term) → P t
term_ind P step =
    ind-Term P (λ opened held are.
    step (roll-Term opened)
    (subst (All P) (sym (ap (λ (z : layer.Term-F written.Term). z.parts) (out-roll-Term opened)))
    (subst (λ (z : layer.Term-F written.Term). All P z.parts) are (each_of P held.parts))))

-- terms, each with what holds of it
pub paired : (P : Term → Type 0) (ts : List Term) → All P ts → List ((t : Term) × P t)
paired P [] each = []
paired P (t ∷ ts) each = (t, All-head P t ts each) ∷ paired P ts (All-tail P t ts each)

pub paired_are : (P : Term → Type 0) (ts : List Term) (each : All P ts) → map (λ e. e.0) (paired P ts each) ≡ ts
unfolding paired
paired_are P [] each = refl
paired_are P (t ∷ ts) each = ap (λ list. t ∷ list) (paired_are P ts (All-tail P t ts each))
