-- What a term names that has terms within it.
use Rattle.std.specs.Prelude.{◌≡◌, ℕ, List, ◌∷◌, ◌++◌, flat_map}
use Rattle.std.proofs.Common.{ap, sym, ◌∙◌}
use Rattle.std.proofs.lemmas.List.Folds.{flat_map-map}
use Rattle.mm_terms.specs.declared.ids.DefId.{DefId}
use Rattle.mm_terms.specs.declared.tree.Tree.{Tree}
use Rattle.mm_program.specs.declared.term.Term.{Term}
use Rattle.mm_program.specs.declared.term.Term.TheFolds.{fold-roll-Term}
use Rattle.mm_program.specs.declared.term.Term.TheOpen as layer
use Rattle.mm_program.specs.declared.term.Term.TheVariants.{Tuple, New, rolls-Tuple, rolls-New}
use Rattle.mm_program.specs.Naming.{Names, named_in_term, named_in_types, term_names}

pub tuple_names : (parts : List Term) → named_in_term (Tuple parts) ≡ flat_map named_in_term parts
unfolding named_in_term
tuple_names parts =
    ap named_in_term (sym (rolls-Tuple parts)) ∙ fold-roll-Term Names term_names (layer.Tuple parts)
    ∙ flat_map-map (λ names. names) named_in_term parts

pub new_names : (d : DefId) (args : List Tree) (variant : ℕ) (parts : List Term) → named_in_term (New d args variant parts) ≡ (d ∷ named_in_types args) ++ flat_map named_in_term parts
unfolding named_in_term
new_names d args variant parts =
    ap named_in_term (sym (rolls-New d args variant parts)) ∙ fold-roll-Term Names term_names (layer.New d args variant parts)
    ∙ ap (λ names. (d ∷ named_in_types args) ++ names) (flat_map-map (λ names. names) named_in_term parts)
