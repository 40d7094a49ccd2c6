-- Methods stand in what they are methods of, and each definition fits its kind.
use Rattle.std.proofs.Common.{◌≡◌, ℕ, zero, suc, ◌+◌, ◌≤◌, List, [], ◌∷◌, None, refl, sym, subst, ap, ◌∙◌, arith}
use Rattle.std.proofs.lemmas.List.Elements.{All-nil}
use Rattle.std.proofs.lemmas.Option.{none-some, same_Some}
use Rattle.std.specs.Prelude.{All, Contains, IfSome, Some, true, slice_get}
use Rattle.mm_ast.specs.declared.items.Ast.{Ast}
use Rattle.mm_lower.specs.Items.{ids_behind}
use Rattle.mm_lower.specs.Paths.{def_id}
use Rattle.mm_program.specs.declared.parts.DefPart.{DefPart}
use Rattle.mm_program.specs.declared.parts.Parts.{Parts}
use Rattle.mm_program.specs.Valid.{IsMemberOf, IsEachOnce, FitsKind}
use Rattle.mm_program.specs.Views.{methods_of, shown}
use Rattle.mm_resolve.specs.Scopes.{leads_to}
use Rattle.mm_rules.specs.TreeFaults.{KeepsRules}
use Rattle.mm_terms.proofs.ListLemmas.{All-slice_get}
use Rattle.mm_terms.specs.declared.ids.DefId.{DefId}
use Rattle.mm_written.specs.Written.{is_written}
use Rattle.mm_load.specs.Drops.{with_drop}
use Rattle.mm_load.specs.Located.{Located, items_of, site}
use Rattle.mm_load.specs.Meaning.{parts_at, all_parts, program_of}
use Rattle.mm_load.specs.Modules.{modules_of}
use Rattle.mm_load.proofs.FirstFits.{first_fits}
use Rattle.mm_load.proofs.InProgram.{shown_at}
use Rattle.mm_load.proofs.ItemShape.{IsMemberPart, HasShape, item_shape, All-ids_behind, id_behind, Contains-ids_behind}

pub record HasMembers (p : Parts) (d : DefId) (part : DefPart) : Type 0 where
  pub parent : IfSome part.parent (λ parent. Contains (methods_of p parent) d)
  pub methods : All (IsMemberOf p d part) part.methods
  pub once : IsEachOnce part.methods
  pub fits : FitsKind p d part part.kind

module _ (tree : Ast) (l : Located) (has : Contains (items_of tree.crates) l) (shape : HasShape l.number (parts_at (modules_of tree.crates) l)) where
  abbrev p : Parts
  p = program_of tree.crates

  abbrev parts : List DefPart
  parts = parts_at (modules_of tree.crates) l

  -- the program's view of the first, and of a member
  of_first : {A : Type 0} (f : DefPart → A) (none : A) → shown f none p (def_id l.number) ≡ f (with_drop (all_parts tree.crates) (l.number + 0, shape.first))
  of_first f none = shown_at tree.crates l 0 shape.first has (ap (λ ps. slice_get ps 0) shape.are) l.number (omega arith) f none

  of_member : (k : ℕ) (m : DefPart) → slice_get shape.members k ≡ Some m → {A : Type 0} (f : DefPart → A) (none : A)
      → shown f none p (def_id (l.number + suc k)) ≡ f (with_drop (all_parts tree.crates) (l.number + suc k, m))
  of_member k m at f none = shown_at tree.crates l (suc k) m has (ap (λ ps. slice_get ps (suc k)) shape.are ∙ at) (l.number + suc k) refl f none

  -- a member in the program
  member_in : (k : ℕ) (m : DefPart) → slice_get shape.members k ≡ Some m → IsMemberOf p (def_id l.number) shape.first (def_id (l.number + suc k))
  unfolding with_drop
  member_in k m at =
      let is = All-slice_get (IsMemberPart l.number shape.first) shape.members k m shape.each at in
      record {
        kind = of_member k m at (λ part. Some part.kind) None ∙ ap Some is.kind;
        parent = of_member k m at (λ part. part.parent) None ∙ is.parent;
        krate = of_member k m at (λ part. Some part.krate) None ∙ ap Some is.krate;
        type_params = subst (λ n. shape.first.type_params ≤ n) (sym (of_member k m at (λ part. part.type_params) 0)) is.type_params;
      }

  first_has : FitsKind p (def_id l.number) shape.first shape.first.kind → HasMembers p (def_id l.number) shape.first
  first_has fits =
      let n = l.number in
      let once : IsEachOnce (ids_behind n shape.members) = λ i j d at_i at_j. (
      let at = id_behind n shape.members i d at_i in
      let same = id_behind n shape.members j d at_j in
      omega (arith, at, same)) in
      record {
        parent = subst (λ o. IfSome o (λ parent. Contains (methods_of p parent) (def_id n))) (sym shape.no_parent) tt;
        methods = subst (All (IsMemberOf p (def_id n) shape.first)) (sym shape.behind) (All-ids_behind (IsMemberOf p (def_id n) shape.first) n shape.members member_in);
        once = subst IsEachOnce (sym shape.behind) once;
        fits = fits;
      }

  member_has : (k : ℕ) (m : DefPart) → slice_get shape.members k ≡ Some m → HasMembers p (def_id (l.number + suc k)) m
  unfolding with_drop
  member_has k m at =
      let n = l.number in
      let d = def_id (n + suc k) in
      let is = All-slice_get (IsMemberPart n shape.first) shape.members k m shape.each at in
      let behind : methods_of p (def_id n) ≡ ids_behind n shape.members = of_first (λ part. part.methods) [] ∙ shape.behind in
      let none : IsEachOnce [] = λ i j e at_i at_j. absurd (none-some e at_i) in
      record {
        parent = subst (λ o. IfSome o (λ parent. Contains (methods_of p parent) d)) (sym is.parent) (subst (λ ds. Contains ds d) (sym behind) (Contains-ids_behind n shape.members k m at));
        methods = subst (All (IsMemberOf p d m)) (sym is.methods) (All-nil (IsMemberOf p d m));
        once = subst IsEachOnce (sym is.methods) none;
        fits = is.fits p d;
      }

pub members_in : (tree : Ast) → is_written tree ≡ true → KeepsRules tree → (l : Located) → Contains (items_of tree.crates) l → (i : ℕ) (part : DefPart) → slice_get (parts_at (modules_of tree.crates) l) i ≡ Some part
    → HasMembers (program_of tree.crates) (def_id (l.number + i)) part
members_in tree written kept l has i part at = at_place i (ap (λ ps. slice_get ps i) (sym shape.are) ∙ at)
  where
    shape : HasShape l.number (parts_at (modules_of tree.crates) l)
    shape = item_shape (leads_to l.scope) (site (modules_of tree.crates) l) l.form i part at

    first_at : slice_get (parts_at (modules_of tree.crates) l) 0 ≡ Some shape.first
    first_at = ap (λ ps. slice_get ps 0) shape.are

    first : HasMembers (program_of tree.crates) (def_id l.number) shape.first
    first = first_has tree l has shape (first_fits tree written kept l has shape.first first_at)

    at_place : (k : ℕ) → slice_get (shape.first ∷ shape.members) k ≡ Some part → HasMembers (program_of tree.crates) (def_id (l.number + k)) part
    at_place zero there =
        let e : l.number ≡ l.number + 0 = omega arith in
        subst (λ n. HasMembers (program_of tree.crates) (def_id n) part) e (subst (HasMembers (program_of tree.crates) (def_id l.number)) (same_Some shape.first part there) first)
    at_place (suc k) there = member_has tree l has shape k part there
