-- The definitions of an item, as they are made, are those of the program.
use Rattle.std.specs.Prelude.{◌≡◌, ℕ, ◌∷◌, [], length, List, All, true, Bool}
use Rattle.std.proofs.Common.{refl}
use Rattle.std.proofs.lemmas.List.Elements.{All-nil, All-cons}
use Rattle.mm_ast.specs.declared.items.Closure.{Closure}
use Rattle.mm_ast.specs.declared.items.DefinitionForm.{DefinitionForm}
use Rattle.mm_ast.specs.declared.items.DefinitionForm.TheVariants as definitions
use Rattle.mm_ast.specs.declared.items.Impl.{Impl}
use Rattle.mm_ast.specs.declared.items.ImplForm.{ImplForm}
use Rattle.mm_ast.specs.declared.items.ImplForm.TheVariants as impls
use Rattle.mm_ast.specs.declared.items.ItemForm.{ItemForm}
use Rattle.mm_ast.specs.declared.items.ItemForm.TheVariants as forms
use Rattle.mm_ast.specs.declared.names.Name.{Name}
use Rattle.mm_lower.specs.Items.{Site, function_part, closure_part, struct_part, enum_part, static_part, const_part, definition_parts, parts_by_impl, parts_of}
use Rattle.mm_lower.specs.Paths.{def_id}
use Rattle.mm_mentions.specs.ImplMentions.{impl_in}
use Rattle.mm_mentions.specs.ItemMentions.{params_of, definition_in, definition_mentions, form_mentions}
use Rattle.mm_mentions.specs.Scopes.{of_params}
use Rattle.mm_program.specs.declared.kind.DefKind.TheVariants as kind
use Rattle.mm_program.specs.declared.parts.DefPart.{DefPart}
use Rattle.mm_program.specs.declared.parts.Parts.{Parts}
use Rattle.mm_program.specs.Views.{IsOfKind, type_params_of}
use Rattle.mm_resolve.specs.Scopes.{Scope, leads_to}
use Rattle.mm_terms.proofs.ListLemmas.{and_right}
use Rattle.mm_written.specs.Items.{written_definition, written_form, written_impl, written_impl_form}
use Rattle.mm_written.specs.Names.{written_names}
use Rattle.mm_load.specs.Leads.{Leads, Kept}
use Rattle.mm_load.specs.Located.{Located, site}
use Rattle.mm_load.specs.Meaning.{parts_at}
use Rattle.mm_load.proofs.LocatedIn.{IsKept}
use Rattle.mm_load.proofs.Made.{IsMade, ClosureKnown}
use Rattle.mm_load.proofs.MadeClosures.{closure_made}
use Rattle.mm_load.proofs.MadeDropImpls.{drop_impl_made}
use Rattle.mm_load.proofs.MadeFunctions.{function_made}
use Rattle.mm_load.proofs.MadeImpls.{impl_made}
use Rattle.mm_load.proofs.MadeTraits.{trait_made}
use Rattle.mm_load.proofs.MadeTypes.{struct_made, enum_made}
use Rattle.mm_load.proofs.MadeValues.{static_made, const_made}

module _ (p : Parts) (scope : Scope) (leads : Leads p (leads_to scope)) (at : Site) where
  only : (part : DefPart) → IsMade p part → All (IsMade p) (part ∷ [])
  only part is = All-cons (IsMade p) part [] is (All-nil (IsMade p))

  definition_made : (is_pub : Bool) (form : DefinitionForm) → Kept scope (definition_mentions form) → written_definition form ≡ true
      → ((c : Closure) → form ≡ definitions.Closure c → IsOfKind p (def_id at.number) kind.Closure × (length c.type_params ≡ type_params_of p (def_id at.number)))
      → All (IsMade p) (definition_parts (leads_to scope) at is_pub form)
  unfolding params_of definition_in written_definition definition_parts
  definition_made is_pub (definitions.Function f) kept written known = only (function_part (leads_to scope) at is_pub f) (function_made p scope leads at is_pub f kept written)
  definition_made is_pub (definitions.Closure c) kept written known =
      let is = known c refl in
      only (closure_part (leads_to scope) at is_pub c) (closure_made p scope leads at c is_pub kept written is.0 is.1)
  definition_made is_pub (definitions.Struct s) kept written known = only (struct_part (leads_to scope) at is_pub s) (struct_made p scope leads at is_pub s kept written)
  definition_made is_pub (definitions.Enum e) kept written known = only (enum_part (leads_to scope) at is_pub e) (enum_made p scope leads at is_pub e kept written)
  definition_made is_pub (definitions.Trait t) kept written known = trait_made p scope leads at is_pub t kept written
  definition_made is_pub (definitions.Static s) kept written known = only (static_part (leads_to scope) at is_pub s) (static_made p scope leads at is_pub s kept written)
  definition_made is_pub (definitions.Const c) kept written known = only (const_part (leads_to scope) at is_pub c) (const_made p scope leads at is_pub c kept written)

  by_impl_made : (krate : List ℕ) (line : ℕ) (type_params : List Name) (form : ImplForm) → Kept scope (impl_in krate line (of_params type_params) type_params form) → written_impl_form form ≡ true
      → All (IsMade p) (parts_by_impl (leads_to scope) at type_params form)
  unfolding impl_in parts_by_impl
  by_impl_made krate line type_params (impls.Drop d) kept written = drop_impl_made p scope leads at type_params d krate line kept written
  by_impl_made krate line type_params (impls.Trait i) kept written = impl_made p scope leads at krate line type_params i kept written

written_by : (impl : Impl) → written_impl impl ≡ true → written_impl_form impl.form ≡ true
unfolding written_impl
written_by impl written = and_right (written_names impl.type_params) (written_impl_form impl.form) written

module _ (p : Parts) (modules : List (List ℕ)) (l : Located) (leads : Leads p (leads_to l.scope)) (closure : ClosureKnown p l) (krate : List ℕ) (line : ℕ) where
  form_made : (form : ItemForm) → l.form ≡ form → Kept l.scope (form_mentions krate line form) → written_form form ≡ true → All (IsMade p) (parts_of (leads_to l.scope) (site modules l) form)
  unfolding form_mentions written_form parts_of
  form_made (forms.Module name) is kept written = All-nil (IsMade p)
  form_made (forms.Impl impl) is kept written = by_impl_made p l.scope leads (site modules l) krate line impl.type_params impl.form kept (written_by impl written)
  form_made (forms.Definition definition) is kept written =
      definition_made p l.scope leads (site modules l) definition.is_pub definition.form kept written (λ c of. closure definition c is of)

pub parts_made : (p : Parts) (modules : List (List ℕ)) (l : Located) → Leads p (leads_to l.scope) → IsKept l → written_form l.form ≡ true → ClosureKnown p l → All (IsMade p) (parts_at modules l)
parts_made p modules l leads kept written closure = form_made p modules l leads closure kept.krate kept.line l.form refl kept.kept written
