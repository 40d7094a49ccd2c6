-- What is kept beside the parts of a program: the impls of each trait, and for each definition whether it is named outside.
use Rattle.std.specs.Prelude.{◌≡◌, ℕ, ◌+◌, Bool, false, List, [], ◌∷◌, ◌++◌, length, slice_set}
use Rattle.std.specs.List.{slice_index_or}
use Rattle.std.specs.Option.{option_map_or}
use Rattle.mm_terms.specs.declared.ids.DefId.{DefId}
use Rattle.mm_program.specs.declared.parts.DefPart.{DefPart}
use Rattle.mm_program.specs.declared.parts.Parts.{Parts}
use Rattle.mm_program.specs.Naming.{is_named_outside}
use Rattle.mm_program.specs.Views.{IsDef, impls_of}

-- a list for each definition, with one id more in the list of the trait that it is an impl of
abbrev pub with_impl : List (List DefId) → ℕ → DefPart → List (List DefId)
with_impl lists n part = option_map_or (λ head. slice_set lists head.tr.0 (slice_index_or lists head.tr.0 [] ++ record { 0 = n } ∷ [])) part.head lists

-- the same for several definitions, of which the first has the id n
abbrev pub with_impls : List (List DefId) → ℕ → List DefPart → List (List DefId)
with_impls lists n [] = lists
with_impls lists n (part ∷ parts) = with_impls (with_impl lists n part) (n + 1) parts

pub record AreTables (p : Parts) (impls : List (List DefId)) (named : List Bool) : Type 0 where
  pub impls_count : length impls ≡ length p.defs
  pub impls_each : (d : DefId) → IsDef p d → slice_index_or impls d.0 [] ≡ impls_of p d
  pub named_count : length named ≡ length p.defs
  pub named_each : (d : DefId) → IsDef p d → slice_index_or named d.0 false ≡ is_named_outside p d
