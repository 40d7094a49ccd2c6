-- What the program of a text has at the number of a definition: the definition as it was made, with its Drop impl.
use Rattle.std.proofs.Common.{◌≡◌, ℕ, ◌+◌, List, Option, None, Some, option_map, Contains, refl, sym, ap, ◌∙◌}
use Rattle.std.proofs.lemmas.Option.{none-some, same_Some}
use Rattle.std.specs.Option.{option_map_or}
use Rattle.std.specs.Prelude.{slice_get}
use Rattle.mm_ast.specs.declared.items.Crate.{Crate}
use Rattle.mm_lower.specs.Paths.{def_id}
use Rattle.mm_program.specs.declared.parts.DefPart.{DefPart}
use Rattle.mm_program.specs.Views.{def_of, shown}
use Rattle.mm_terms.specs.declared.ids.DefId.{DefId}
use Rattle.mm_load.specs.Drops.{with_drop}
use Rattle.mm_load.specs.Located.{Located, items_of}
use Rattle.mm_load.specs.Meaning.{parts_at, all_parts, program_of}
use Rattle.mm_load.specs.Modules.{modules_of}
use Rattle.mm_load.proofs.Numbered.{Origin, part_at, part_from, dropped_at}

-- what the program shows of a number, where this was made
pub shown_made : (crates : List Crate) (m : ℕ) (o : Option DefPart) → slice_get (all_parts crates) m ≡ o → {A : Type 0} (f : DefPart → A) (none : A)
    → shown f none (program_of crates) (def_id m) ≡ option_map_or f (option_map (λ q. with_drop (all_parts crates) (m, q)) o) none
shown_made crates m o is f none =
    ap (λ r. option_map_or f r none) (dropped_at (all_parts crates) m ∙ ap (option_map (λ q. with_drop (all_parts crates) (m, q))) is)

-- what it shows of the definition at a place of an item, whose number is n
pub shown_at : (crates : List Crate) (l : Located) (i : ℕ) (part : DefPart) → Contains (items_of crates) l → slice_get (parts_at (modules_of crates) l) i ≡ Some part → (n : ℕ) → n ≡ l.number + i
    → {A : Type 0} (f : DefPart → A) (none : A) → shown f none (program_of crates) (def_id n) ≡ f (with_drop (all_parts crates) (l.number + i, part))
shown_at crates l i part has at n same f none =
    ap (λ k. shown f none (program_of crates) (def_id k)) same ∙ shown_made crates (l.number + i) (Some part) (part_at crates l i part has at) f none

-- the definition of which a program has one with its Drop impl, and its item
pub record Defined (crates : List Crate) (n : ℕ) (part : DefPart) : Type 0 where
  pub made : DefPart
  pub is : part ≡ with_drop (all_parts crates) (n, made)
  pub origin : Origin crates n made

pub defined : (crates : List Crate) (d : DefId) (part : DefPart) → def_of (program_of crates) d ≡ Some part → Defined crates d.0 part
defined crates d part at = from (slice_get (all_parts crates) d.0) refl
  where
    from : (o : Option DefPart) → slice_get (all_parts crates) d.0 ≡ o → Defined crates d.0 part
    from None is = absurd (none-some part (sym (dropped_at (all_parts crates) d.0 ∙ ap (option_map (λ q. with_drop (all_parts crates) (d.0, q))) is) ∙ at))
    from (Some made) is =
        let same : Some (with_drop (all_parts crates) (d.0, made)) ≡ Some part = sym (dropped_at (all_parts crates) d.0 ∙ ap (option_map (λ q. with_drop (all_parts crates) (d.0, q))) is) ∙ at in
        record { made = made; is = sym (same_Some (with_drop (all_parts crates) (d.0, made)) part same); origin = part_from crates d.0 made is }
