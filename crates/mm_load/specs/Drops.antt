-- Which Drop impl a struct or an enum has.
use Rattle.std.specs.Prelude.{ℕ, Bool, false, nat_eq, ◌&&◌, List, map, cond, Option, None}
use Rattle.std.specs.List.{enumerate_from, find}
use Rattle.std.specs.Option.{option_map, option_map_or}
use Rattle.mm_terms.specs.declared.ids.DefId.{DefId}
use Rattle.mm_terms.specs.declared.ty_head.TyHead.{TyHead}
use Rattle.mm_terms.specs.declared.ty_head.TyHead.TheVariants as head
use Rattle.mm_terms.specs.Tree as tree
use Rattle.mm_lower.specs.Paths.{def_id}
use Rattle.mm_program.specs.declared.parts.DefPart.{DefPart}
use Rattle.mm_program.specs.Kinds.{is_data, is_drop_impl}

-- the head is the struct or the enum with the number n
abbrev pub is_adt : ℕ → TyHead → Bool
is_adt n (head.Adt d) = nat_eq d.0 n
is_adt n _ = false

-- the definition is a Drop impl of the struct or the enum with the number n
abbrev pub is_drop_for : ℕ → DefPart → Bool
is_drop_for n part = is_drop_impl part.kind && option_map_or (λ t. is_adt n (tree.head_of t)) part.drop_self false

-- the first Drop impl of the struct or the enum with the number n
abbrev pub first_drop : List DefPart → ℕ → Option DefId
first_drop parts n = option_map (λ one. def_id one.0) (find (λ one. is_drop_for n one.1) (enumerate_from 0 parts))

-- the definition with the number n, with its Drop impl if it has one
unfoldable pub with_drop : List DefPart → ℕ × DefPart → DefPart
with_drop parts (n, part) = record part { drop_impl = cond (is_data part.kind) (first_drop parts n) None }

abbrev pub with_drops : List DefPart → List DefPart
with_drops parts = map (with_drop parts) (enumerate_from 0 parts)
