-- Definitions stand at the places of their numbers.
use Rattle.std.proofs.Common.{◌≡◌, ℕ, ◌+◌, ◌<◌, List, length, Option, None, Some, refl, ap, ◌∙◌, arith}
use Rattle.std.proofs.lemmas.Option.{slice_get-map}
use Rattle.std.specs.List.{Contains, enumerate_from, slice_get}
use Rattle.std.specs.Option.{option_map}
use Rattle.mm_ast.specs.declared.items.Crate.{Crate}
use Rattle.mm_definitions.specs.Placed.{size}
use Rattle.mm_program.specs.declared.parts.DefPart.{DefPart}
use Rattle.mm_resolve.specs.Scopes.{leads_to}
use Rattle.mm_load.specs.Drops.{with_drop, with_drops}
use Rattle.mm_load.specs.Located.{Located, site, items_of}
use Rattle.mm_load.specs.Meaning.{parts_at, all_parts}
use Rattle.mm_load.specs.Modules.{modules_of}
use Rattle.mm_load.proofs.InOrder.{items_in_order, one_place, at_place, from_place}
use Rattle.mm_load.proofs.PartCounts.{part_count}
use Rattle.mm_load.proofs.SliceLemmas.{slice_get-enumerate_from}

pub size_is : (modules : List (List ℕ)) (l : Located) → length (parts_at modules l) ≡ size l.form
size_is modules l = part_count (leads_to l.scope) (site modules l) l.form

-- a definition of an item stands behind those of the item that come before it
pub part_at : (crates : List Crate) (l : Located) (i : ℕ) (part : DefPart) → Contains (items_of crates) l → slice_get (parts_at (modules_of crates) l) i ≡ Some part → slice_get (all_parts crates) (l.number + i) ≡ Some part
unfolding all_parts
part_at crates l i part has at =
    let e : 0 + (l.number + i) ≡ l.number + i = omega arith in
    at_place (parts_at (modules_of crates)) (size_is (modules_of crates)) 0 (items_of crates) l i (l.number + i) part (items_in_order crates) has at e

-- the item of a definition
pub record Origin (crates : List Crate) (n : ℕ) (part : DefPart) : Type 0 where
  pub item : Located
  pub among : Contains (items_of crates) item
  pub place : ℕ
  pub number : n ≡ item.number + place
  pub there : slice_get (parts_at (modules_of crates) item) place ≡ Some part

pub part_from : (crates : List Crate) (n : ℕ) (part : DefPart) → slice_get (all_parts crates) n ≡ Some part → Origin crates n part
unfolding all_parts
part_from crates n part at =
    let from = from_place (parts_at (modules_of crates)) (size_is (modules_of crates)) 0 (items_of crates) n part (items_in_order crates) at in
    let e : n ≡ from.0.number + from.2 = let is = from.3 in omega (arith, is) in
    record { item = from.0; among = from.1; place = from.2; number = e; there = from.4 }

-- a number is that of one item, at one place
pub one_number : (crates : List Crate) (l m : Located) (i j : ℕ) → Contains (items_of crates) l → Contains (items_of crates) m → i < size l.form → j < size m.form → l.number + i ≡ m.number + j → (l ≡ m) × (i ≡ j)
one_number crates l m i j has_l has_m i_within j_within same = one_place 0 (items_of crates) l m i j (items_in_order crates) has_l has_m i_within j_within same

-- a Drop impl changes no place
pub dropped_at : (parts : List DefPart) (n : ℕ) → slice_get (with_drops parts) n ≡ option_map (λ part. with_drop parts (n, part)) (slice_get parts n)
dropped_at parts n =
    slice_get-map (with_drop parts) (enumerate_from 0 parts) n
    ∙ ap (option_map (with_drop parts)) (slice_get-enumerate_from 0 parts n)
    ∙ both (slice_get parts n)
  where
    both : (o : Option DefPart) → option_map (with_drop parts) (option_map {U = ℕ × DefPart} (λ part. (0 + n, part)) o) ≡ option_map (λ part. with_drop parts (n, part)) o
    both None = refl
    both (Some part) = let e : 0 + n ≡ n = omega arith in ap (λ k. Some (with_drop parts (k, part))) e
