-- The program of a text that keeps the rules is one that programs are built of.
use Rattle.std.proofs.Common.{◌≡◌, ℕ, ◌+◌, List, Some, true, ◌&&◌, length, Contains, cond, sym, subst}
use Rattle.std.proofs.lemmas.Bool.{ltb-true, cond-false, OnFalse_from}
use Rattle.std.proofs.lemmas.List.{length-map}
use Rattle.std.proofs.lemmas.Option.{IfSome_then}
use Rattle.std.proofs.lemmas.List.Elements.{All-weaker}
use Rattle.std.specs.List.{list_all}
use Rattle.std.specs.Prelude.{◌<◌, ◌^◌, All, None, slice_get}
use Rattle.mm_ast.specs.declared.items.Ast.{Ast}
use Rattle.mm_lower.specs.Paths.{def_id}
use Rattle.mm_program.specs.declared.kind.DefKind.{DefKind}
use Rattle.mm_program.specs.declared.kind.DefKind.TheVariants as kind
use Rattle.mm_program.specs.declared.parts.DefPart.{DefPart}
use Rattle.mm_program.specs.declared.parts.Parts.{Parts}
use Rattle.mm_program.specs.Kinds.{is_data}
use Rattle.mm_program.specs.Valid.{IsShort, HasItsParts, IsShortPart, HasPartsIn, IsMemberOf, FitsKind, IsDefinitionIn, IsValid}
use Rattle.mm_program.specs.Views.{def_of}
use Rattle.mm_rules.specs.TreeFaults.{KeepsRules}
use Rattle.mm_terms.proofs.ListLemmas.{and_left, and_right, All-slice_get}
use Rattle.mm_terms.specs.declared.ids.DefId.{DefId}
use Rattle.mm_written.specs.Lists.{few, some}
use Rattle.mm_written.specs.Written.{is_written, written_crate}
use Rattle.mm_load.specs.Counted.{is_counted}
use Rattle.mm_load.specs.Drops.{with_drop, first_drop}
use Rattle.mm_load.specs.Located.{Located, items_of}
use Rattle.mm_load.specs.Meaning.{parts_at, all_parts, program_of}
use Rattle.mm_load.specs.Modules.{modules_of}
use Rattle.mm_load.proofs.AllMade.{all_made}
use Rattle.mm_load.proofs.DropsIn.{HasDropImpl, drops_in}
use Rattle.mm_load.proofs.InProgram.{defined}
use Rattle.mm_load.proofs.Made.{IsMade}
use Rattle.mm_load.proofs.MainIn.{main_in}
use Rattle.mm_load.proofs.MembersIn.{HasMembers, members_in}
use Rattle.mm_load.proofs.TextsIn.{HasTexts, crates_in, modules_in, texts_in}

-- ---- a definition with its Drop impl has what it has without

module _ (parts : List DefPart) (n : ℕ) (part : DefPart) where
  abbrev dropped : DefPart
  dropped = with_drop parts (n, part)

  parts_kept : HasItsParts part → HasItsParts dropped
  unfolding with_drop
  parts_kept has = record {
    parent = has.parent;
    head = has.head;
    drop_self = has.drop_self;
    result = has.result;
    term = has.term;
    fields = has.fields;
    one_variant = has.one_variant;
    methods = has.methods;
    drop_impl = OnFalse_from (is_data part.kind) (cond (is_data part.kind) (first_drop parts n) None ≡ None) (cond-false (is_data part.kind) (first_drop parts n) None);
    params = has.params;
    bounds = has.bounds;
    bodies = has.bodies;
    body = has.body;
  }

  short_kept : IsShortPart part → IsShortPart dropped
  unfolding with_drop
  short_kept short = record { variants = short.variants; fields = short.fields; methods = short.methods; params = short.params; bounds = short.bounds }

  module _ (p : Parts) where
    within_kept : HasTexts p part → IsMade p part → HasPartsIn p dropped
    unfolding with_drop
    within_kept texts made = record {
      in_crate = texts.in_crate;
      in_module = texts.in_module;
      path = texts.path;
      fields = made.fields;
      head = made.head;
      drop_self = made.drop_self;
      params = made.params;
      result = made.result;
      term = made.term;
      bounds = made.bounds;
      body = IfSome_then part.body made.body (λ code body. record { body = body.body; params = body.params; signature = body.signature; locals = body.locals; blocks = body.blocks });
    }

    members_kept : (d : DefId) → All (IsMemberOf p d part) part.methods → All (IsMemberOf p d dropped) part.methods
    unfolding with_drop
    members_kept d all =
        All-weaker (IsMemberOf p d part) (IsMemberOf p d dropped) (λ m is. record { kind = is.kind; parent = is.parent; krate = is.krate; type_params = is.type_params }) part.methods all

    fits_kept : (d : DefId) (k : DefKind) → FitsKind p d part k → FitsKind p d dropped k
    unfolding with_drop
    fits_kept d kind.Closure fits = fits
    fits_kept d kind.Trait fits = fits
    fits_kept d kind.Impl fits = fits
    fits_kept d kind.DropImpl fits = fits
    fits_kept d kind.Static fits = fits
    fits_kept d _ fits = tt

    -- so it is a definition of the program
    definition_kept : (d : DefId) → IsMade p part → HasTexts p part → HasMembers p d part → HasDropImpl p d dropped → IsDefinitionIn p d dropped
    unfolding with_drop
    definition_kept d made texts members drops = record {
      has = parts_kept made.has;
      short = short_kept made.short;
      within = within_kept texts made;
      parent = members.parent;
      methods = members_kept d members.methods;
      once = members.once;
      fits = fits_kept d part.kind members.fits;
      drop_impl = drops.drop_impl;
      no_drop_impl = drops.no_drop_impl;
    }

-- ---- the program

few_short : {A : Type 0} (xs : List A) → few xs ≡ true → IsShort xs
unfolding few
few_short xs is = ltb-true (length xs) 4294967296 is

module _ (tree : Ast) (written : is_written tree ≡ true) (kept : KeepsRules tree) (counted : is_counted (program_of tree.crates) ≡ true) where
  abbrev p : Parts
  p = program_of tree.crates

  few_crates : IsShort p.crates
  unfolding is_written
  few_crates =
      let few_written = and_left (few tree.crates) (list_all written_crate tree.crates) (and_right (some tree.crates) (few tree.crates && list_all written_crate tree.crates) written) in
      subst (λ k. k < 2 ^ 32) (sym (length-map tree.crates (λ k. k.name.text))) (few_short tree.crates few_written)

  few_defs : IsShort p.defs
  unfolding is_counted
  few_defs =
      let counts = and_left (few p.defs && few p.modules && list_all few p.modules) (list_all (λ part. few part.path) p.defs) counted in
      few_short p.defs (and_left (few p.defs) (few p.modules) (and_left (few p.defs && few p.modules) (list_all few p.modules) counts))

  few_modules : IsShort p.modules
  unfolding is_counted
  few_modules =
      let counts = and_left (few p.defs && few p.modules && list_all few p.modules) (list_all (λ part. few part.path) p.defs) counted in
      few_short p.modules (and_right (few p.defs) (few p.modules) (and_left (few p.defs && few p.modules) (list_all few p.modules) counts))

  definition_at : (l : Located) (i : ℕ) (part : DefPart) → Contains (items_of tree.crates) l → slice_get (parts_at (modules_of tree.crates) l) i ≡ Some part
      → IsDefinitionIn p (def_id (l.number + i)) (with_drop (all_parts tree.crates) (l.number + i, part))
  definition_at l i part has at =
      definition_kept (all_parts tree.crates) (l.number + i) part p (def_id (l.number + i))
      (All-slice_get (IsMade p) (parts_at (modules_of tree.crates) l) i part (all_made tree written kept l has) at)
      (texts_in tree written kept counted l has i part at)
      (members_in tree written kept l has i part at)
      (drops_in tree written kept l has i part at)

  definition_in : (d : DefId) (part : DefPart) → def_of p d ≡ Some part → IsDefinitionIn p d part
  definition_in d part at =
      let from = defined tree.crates d part at in
      let origin = from.origin in
      let here : IsDefinitionIn p d (with_drop (all_parts tree.crates) (d.0, from.made)) =
      subst (λ n. IsDefinitionIn p (def_id n) (with_drop (all_parts tree.crates) (n, from.made))) (sym origin.number) (definition_at origin.item origin.place from.made origin.among origin.there) in
      subst (IsDefinitionIn p d) (sym from.is) here

pub program_is_valid : (tree : Ast) → is_written tree ≡ true → KeepsRules tree → is_counted (program_of tree.crates) ≡ true → IsValid (program_of tree.crates)
program_is_valid tree written kept counted =
    let main = main_in tree written kept in
    record {
      few_crates = few_crates tree written kept counted;
      crates = crates_in tree written kept counted;
      few_modules = few_modules tree written kept counted;
      modules = modules_in tree written kept counted;
      few_defs = few_defs tree written kept counted;
      defs = definition_in tree written kept counted;
      main = main.0;
      main_type_params = main.1;
      main_params = main.2;
    }
