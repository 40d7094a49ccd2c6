-- What a valid program tells of the definition with an id, and what the condition on its kind tells of it.
use Rattle.std.specs.Prelude.{◌≡◌, ◌<◌, Bool, true, List, length, Some, slice_get}
use Rattle.std.proofs.Common.{ap, subst, sym, ◌∙◌, get_or}
use Rattle.std.proofs.lemmas.Option.{slice_get_read}
use Rattle.mm_terms.specs.declared.ids.DefId.{DefId}
use Rattle.mm_program.specs.declared.kind.DefKind.{DefKind}
use Rattle.mm_program.specs.declared.parts.DefPart.{DefPart}
use Rattle.mm_program.specs.declared.parts.Parts.{Parts}
use Rattle.mm_program.specs.Valid.{IsValid, IsDefinitionIn}
use Rattle.mm_program.specs.Views.{IsOfKind, IsOfKinds, def_of}

-- the definition that is read from the list is one of the program
pub part_is : (p inside : Parts) (list : List DefPart) (d : DefId) (part : DefPart) → IsValid inside → inside ≡ p → list ≡ inside.defs → d.0 < length p.defs → part ≡ get_or list d.0 part → IsDefinitionIn p d part
part_is p inside list d part valid is from within at =
    let read : slice_get list d.0 ≡ Some part = slice_get_read list (length p.defs) d.0 part (sym (ap length (from ∙ ap (λ q. q.defs) is))) within at in
    (subst IsValid is valid).defs d part (ap (λ defs. slice_get defs d.0) (sym (from ∙ ap (λ q. q.defs) is)) ∙ read)

pub kind_is : (p : Parts) (d : DefId) (part : DefPart) (kind : DefKind) → def_of p d ≡ Some part → IsOfKind p d kind → part.kind ≡ kind
kind_is p d part kind there is = cc

pub kind_passes : (p : Parts) (d : DefId) (part : DefPart) (test : DefKind → Bool) → def_of p d ≡ Some part → IsOfKinds p d test → test part.kind ≡ true
kind_passes p d part test there is = cc
