-- The listing of a program's items.
use Rattle.std.specs.Prelude.{◌≡◌, ℕ, List, [], ◌∷◌, ◌++◌, map, flat_map, codes}
use Rattle.std.specs.List.Sorted.{IsPermutation, IsSorted}
use Rattle.std.specs.Cmp.Lexicographic.{slice_cmp}
use Rattle.std.specs.Ordering.{nat_cmp}
use Rattle.mm_terms.specs.declared.item.Item.{Item}
use Rattle.mm_terms.specs.declared.item.Item.TheVariants.{Fn, Glue, Shim, Static}
use Rattle.mm_plain.specs.declared.program.Program.{Program}
use Rattle.mm_symbols.specs.TypeText.{type_text}
use Rattle.mm_plain.specs.Uses.{path_of}

-- the type arguments of an item, with a comma and a blank between two; without any there are no brackets
abbrev pub item_args_text : List (List ℕ) → List ℕ
item_args_text [] = []
item_args_text (text ∷ texts) = codes "<" ++ text ++ flat_map (λ next. codes ", " ++ next) texts ++ codes ">"

abbrev pub item_text : Program → Item → List ℕ
item_text p (Fn d args) = codes "fn " ++ path_of p d ++ item_args_text (map (type_text p) args)
item_text p (Glue t) = codes "glue " ++ type_text p t
item_text p (Shim t) = codes "shim " ++ type_text p t
item_text p (Static d) = codes "static " ++ path_of p d

abbrev pub line_of : Program → Item → List ℕ
line_of p x = codes "MONO_ITEM " ++ item_text p x

-- each line is ended by LF
abbrev pub ended : List (List ℕ) → List ℕ
ended lines = flat_map (λ line. line ++ 10 ∷ []) lines

-- a line for each item, in the order of their bytes
pub record IsListing (p : Program) (items : List Item) (output : List ℕ) : Type 0 where
  pub lines : List (List ℕ)
  pub of_items : IsPermutation (map (line_of p) items) lines
  pub sorted : IsSorted (slice_cmp nat_cmp) lines
  pub is : output ≡ ended lines
