-- What the paths of a text lead to is in its program, as is said of it.
use Rattle.std.proofs.Common.{ap, sym, subst, ◌∙◌}
use Rattle.std.specs.Prelude.{◌≡◌, ℕ, List, Contains, Some, true}
use Rattle.std.proofs.lemmas.List.Elements.{All-contains}
use Rattle.std.proofs.lemmas.Option.{slice_get_within}
use Rattle.mm_ast.specs.declared.items.Ast.{Ast}
use Rattle.mm_ast.specs.declared.names.Name.{Name}
use Rattle.mm_definitions.specs.declared.kinds.Kind.{Kind}
use Rattle.mm_definitions.specs.declared.kinds.Kind.TheVariants as kinds
use Rattle.mm_definitions.specs.declared.kinds.Wanted.{Wanted}
use Rattle.mm_definitions.specs.declared.kinds.Wanted.TheVariants as wants
use Rattle.mm_definitions.specs.declared.named.Named.{Named}
use Rattle.mm_definitions.specs.Definitions.{form_named}
use Rattle.mm_definitions.specs.Paths.{path_in}
use Rattle.mm_lower.specs.Paths.{def_id}
use Rattle.mm_names.specs.Runs.{is_name}
use Rattle.mm_resolve.specs.Doubles.{form_name}
use Rattle.mm_resolve.specs.Scopes.{Scope, all, leads_to}
use Rattle.mm_rules.specs.TreeFaults.{KeepsRules}
use Rattle.mm_rules.proofs.KeptLemmas.{kept_names}
use Rattle.mm_written.specs.Written.{is_written}
use Rattle.mm_load.specs.Leads.{Leads, IsAs, HasMethod}
use Rattle.mm_load.specs.Located.{Located, site, items_of}
use Rattle.mm_load.specs.Meaning.{program_of}
use Rattle.mm_load.specs.Modules.{modules_of}
use Rattle.mm_load.proofs.AsSaid.{Said, form_said}
use Rattle.mm_load.proofs.Colons.{one_last}
use Rattle.mm_load.proofs.FirstFound.{IsFound, is_found}
use Rattle.mm_load.proofs.ItemNames.{IsOf, IsOwner, IsInside, IsMethodOf, trait_in, form_calls}
use Rattle.mm_load.proofs.LocatedIn.{is_located, is_written_form}
use Rattle.mm_load.proofs.MethodsAt as methods
use Rattle.mm_load.proofs.NamedAt.{NamedBy, named_by}
use Rattle.mm_load.proofs.OneItem.{one_item}
use Rattle.mm_load.proofs.PartsStand.{item_stands}

module _ (tree : Ast) (written : is_written tree ≡ true) (kept : KeepsRules tree) where
  -- ---- the items that names are of

  as_said : (d : Named) → NamedBy tree.crates d → IsAs (program_of tree.crates) d d.kind
  as_said d by =
      let l = by.item in
      All-contains (Said (program_of tree.crates)) (form_named l.number l.prefix l.form) d
      (form_said (program_of tree.crates) (leads_to l.scope) (site (modules_of tree.crates) l) l.form (item_stands tree.crates l by.among)) by.named

  -- what an item is called by, if it is of this kind
  abbrev CalledBy : Located → Named → Kind → Type 0
  CalledBy l d k = IsOf l.number l.prefix (form_name l.form) (trait_in l.form) d k

  called_by : (d : Named) (k : Kind) (by : NamedBy tree.crates d) → d.kind ≡ k → CalledBy by.item d k
  called_by d k by is =
      let l = by.item in
      subst (CalledBy l d) is
      (All-contains (λ e. CalledBy l e e.kind) (form_named l.number l.prefix l.form) d (form_calls l.number l.prefix l.form (is_written_form tree l written by.among)) by.named)

  -- an item and one of which something stands under the path of the first are one item
  one_owner : (l m : Located) (path inner : List ℕ) (name : Name) → Contains (items_of tree.crates) l → Contains (items_of tree.crates) m → is_name name.text ≡ true
      → IsOwner l.prefix (form_name l.form) path → IsInside m.prefix (form_name m.form) inner → inner ≡ path_in path name.text → l ≡ m
  one_owner l m path inner name has_l has_m right owner inside under =
      let last = one_last (path_in m.prefix inside.owner.text) path inside.name.text name.text inside.written right (sym inside.spelled ∙ under) in
      one_item tree written (kept_names tree.crates kept) l m owner.name inside.owner has_l has_m owner.named inside.named (sym owner.spelled ∙ sym last.0)

  -- ---- what stands in a trait, and in an enum

  method_of : (path : List ℕ) (name : Name) (tr m : Named) → is_name name.text ≡ true → NamedBy tree.crates tr → NamedBy tree.crates m → tr.kind ≡ kinds.Trait → m.kind ≡ kinds.Method
      → tr.path ≡ path → m.path ≡ path_in path name.text → HasMethod (program_of tree.crates) tr m
  method_of path name tr m right by_tr by_m is_tr is_m path_tr path_m =
      let l = by_tr.item in
      let owner = called_by tr kinds.Trait by_tr is_tr in
      let inside = called_by m kinds.Method by_m is_m in
      let same = one_owner l by_m.item tr.path m.path name by_tr.among by_m.among right owner.0 inside.0 (path_m ∙ ap (λ q. path_in q name.text) (sym path_tr)) in
      methods.has_method (program_of tree.crates) (leads_to l.scope) (site (modules_of tree.crates) l) l.form tr m (item_stands tree.crates l by_tr.among) owner.1
      (subst (λ k. IsMethodOf k.number (trait_in k.form) m) (sym same) inside.1)

  variant_of : (path : List ℕ) (name : Name) (of v : Named) → is_name name.text ≡ true → NamedBy tree.crates of → NamedBy tree.crates v → of.kind ≡ kinds.Enum → v.kind ≡ kinds.Variant
      → of.path ≡ path → v.path ≡ path_in path name.text → v.def ≡ of.def
  variant_of path name of v right by_of by_v is_of is_v path_of path_v =
      let owner = called_by of kinds.Enum by_of is_of in
      let inside = called_by v kinds.Variant by_v is_v in
      let same = one_owner by_of.item by_v.item of.path v.path name by_of.among by_v.among right owner.0 inside.0 (path_v ∙ ap (λ q. path_in q name.text) (sym path_of)) in
      inside.1 ∙ ap (λ k. def_id k.number) (sym same) ∙ sym owner.1

  -- ---- from the scope of an item

  module _ (l : Located) (has : Contains (items_of tree.crates) l) (w : Wanted) (path : List ℕ) (d : Named) (leads : leads_to l.scope w path ≡ Some d) where
    there : IsFound (all l.scope) path d w
    there = is_found (all l.scope) path d w leads

    by : NamedBy tree.crates d
    by =
        let at = is_located tree.crates l has in
        named_by tree.crates l.krate d (slice_get_within tree.crates l.krate at.crate at.there) (subst (λ (s : Scope). Contains (all s) d) at.scope there.among)

  leads_in : (l : Located) → Contains (items_of tree.crates) l → Leads (program_of tree.crates) (leads_to l.scope)
  leads_in l has = record {
    wanted = λ w path d leads. (there l has w path d leads).wanted;
    named = λ w path d leads. as_said d (by l has w path d leads);
    spelled = λ w path d leads. (there l has w path d leads).spelled;
    method = λ path name tr m right to_tr to_m.
        let a = there l has (wants.One kinds.Trait) path tr to_tr in
        let b = there l has (wants.One kinds.Method) (path_in path name.text) m to_m in
        method_of path name tr m right (by l has (wants.One kinds.Trait) path tr to_tr) (by l has (wants.One kinds.Method) (path_in path name.text) m to_m) a.wanted b.wanted a.spelled b.spelled;
    variant = λ path name of v right to_of to_v.
        let a = there l has (wants.One kinds.Enum) path of to_of in
        let b = there l has (wants.One kinds.Variant) (path_in path name.text) v to_v in
        variant_of path name of v right (by l has (wants.One kinds.Enum) path of to_of) (by l has (wants.One kinds.Variant) (path_in path name.text) v to_v) a.wanted b.wanted a.spelled b.spelled;
  }

pub text_leads : (tree : Ast) → is_written tree ≡ true → KeepsRules tree → (l : Located) → Contains (items_of tree.crates) l → Leads (program_of tree.crates) (leads_to l.scope)
text_leads tree written kept l has = leads_in tree written kept l has
