-- All definitions of a text that keeps the rules are made of its program.
use Rattle.std.specs.Prelude.{◌≡◌, List, All, Contains, true, Some, None, ℕ, ◌+◌, ◌∷◌, [], slice_get}
use Rattle.std.proofs.Common.{◌∙◌, ap, sym, subst, arith}
use Rattle.std.specs.Option.{option_map, option_map_or}
use Rattle.mm_ast.specs.declared.items.Ast.{Ast}
use Rattle.mm_ast.specs.declared.items.Closure.{Closure}
use Rattle.mm_ast.specs.declared.items.Crate.{Crate}
use Rattle.mm_ast.specs.declared.items.Definition.{Definition}
use Rattle.mm_ast.specs.declared.items.DefinitionForm.TheVariants as definitions
use Rattle.mm_ast.specs.declared.items.ItemForm.TheVariants as forms
use Rattle.mm_lower.specs.Items.{closure_part, definition_parts, parts_of}
use Rattle.mm_program.specs.declared.kind.DefKind.TheVariants as kind
use Rattle.mm_program.specs.declared.parts.DefPart.{DefPart}
use Rattle.mm_resolve.specs.Scopes.{leads_to}
use Rattle.mm_rules.specs.TreeFaults.{KeepsRules}
use Rattle.mm_written.specs.Written.{is_written}
use Rattle.mm_load.specs.Drops.{with_drop, with_drops}
use Rattle.mm_load.specs.Located.{Located, items_of, site}
use Rattle.mm_load.specs.Meaning.{parts_at, all_parts, program_of}
use Rattle.mm_load.specs.Modules.{modules_of}
use Rattle.mm_load.proofs.LocatedIn.{is_kept, is_written_form}
use Rattle.mm_load.proofs.Made.{IsMade, ClosureKnown}
use Rattle.mm_load.proofs.MadeIn.{parts_made}
use Rattle.mm_load.proofs.Numbered.{part_at, dropped_at}
use Rattle.mm_load.proofs.TextLeads.{text_leads}

-- the parts of an item that is a closure
closure_parts : (modules : List (List ℕ)) (l : Located) (definition : Definition) (c : Closure) → l.form ≡ forms.Definition definition → definition.form ≡ definitions.Closure c
    → parts_at modules l ≡ closure_part (leads_to l.scope) (site modules l) definition.is_pub c ∷ []
unfolding parts_of definition_parts
closure_parts modules l definition c is of =
    ap (parts_of (leads_to l.scope) (site modules l)) is ∙ ap (definition_parts (leads_to l.scope) (site modules l) definition.is_pub) of

-- what is at its number in the program
closure_at : (crates : List Crate) (l : Located) (definition : Definition) (c : Closure) → Contains (items_of crates) l → l.form ≡ forms.Definition definition → definition.form ≡ definitions.Closure c
    → slice_get (with_drops (all_parts crates)) l.number ≡ Some (with_drop (all_parts crates) (l.number, closure_part (leads_to l.scope) (site (modules_of crates) l) definition.is_pub c))
closure_at crates l definition c has is of =
    let part : DefPart = closure_part (leads_to l.scope) (site (modules_of crates) l) definition.is_pub c in
    let first : slice_get (parts_at (modules_of crates) l) 0 ≡ Some part = ap (λ parts. slice_get parts 0) (closure_parts (modules_of crates) l definition c is of) in
    let same : l.number + 0 ≡ l.number = omega arith in
    let there : slice_get (all_parts crates) l.number ≡ Some part = subst (λ n. slice_get (all_parts crates) n ≡ Some part) same (part_at crates l 0 part has first) in
    dropped_at (all_parts crates) l.number ∙ ap (option_map (λ one. with_drop (all_parts crates) (l.number, one))) there

closure_known : (crates : List Crate) (l : Located) → Contains (items_of crates) l → ClosureKnown (program_of crates) l
unfolding with_drop closure_part
closure_known crates l has definition c is of =
    let at = closure_at crates l definition c has is of in
    (ap (λ found. option_map_or (λ part. Some part.kind) found None) at, sym (ap (λ found. option_map_or (λ part. part.type_params) found 0) at))

pub all_made : (tree : Ast) → is_written tree ≡ true → KeepsRules tree → (l : Located) → Contains (items_of tree.crates) l → All (IsMade (program_of tree.crates)) (parts_at (modules_of tree.crates) l)
all_made tree written kept l has =
    parts_made (program_of tree.crates) (modules_of tree.crates) l (text_leads tree written kept l has) (is_kept tree l kept has) (is_written_form tree l written has) (closure_known tree.crates l has)
