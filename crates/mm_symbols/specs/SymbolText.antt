-- How symbols are written. In the rules braces repeat, square brackets make optional, and what is quoted stands as it is.
--
--     symbol = "_M" item [ "X" seg ] .
--     item   = "F" path args | "K" path args | "M" type path args seg args
--            | "L" type | "H" type | "S" path .
--     path   = "N" seg { seg } "E" .
--     args   = "I" { type } "E" .
--     seg    = the length of a name in bytes, in decimal, and then the name .
--     type   = "y" | "b" | "T" { type } "E" | "R" type | "B" type
--            | "P" { type } "E" type | "G" path args | "C" path args
--            | "D" path args | "A" path args .
use Rattle.std.specs.Prelude.{ℕ, List, [], ◌∷◌, ◌++◌, length, map, flat_map, codes, decimal, Option, None, Some}
use Rattle.std.specs.List.{concat}
use Rattle.mm_symbols.specs.declared.form.SymHead.{SymHead}
use Rattle.mm_symbols.specs.declared.form.SymHead.TheVariants.{U64, Bool, Tuple, Ref, Boxed, FnPtr, FnItem, Closure, Dyn, Adt}
use Rattle.mm_symbols.specs.declared.form.SymType.{SymType}
use Rattle.mm_symbols.specs.declared.form.SymMethod.{SymMethod}
use Rattle.mm_symbols.specs.declared.form.SymItem.{SymItem}
use Rattle.mm_symbols.specs.declared.form.SymItem.TheVariants as items
use Rattle.mm_symbols.specs.declared.form.SymbolForm.{SymbolForm}
use Rattle.mm_symbols.specs.SymTree.{sym_fold}

-- a name, behind its length in bytes
abbrev pub seg_text : List ℕ → List ℕ
seg_text name = decimal (length name) ++ name

abbrev pub path_text : List (List ℕ) → List ℕ
path_text names = codes "N" ++ flat_map seg_text names ++ codes "E"

-- arguments, by the texts of the types
abbrev pub args_text : List (List ℕ) → List ℕ
args_text texts = codes "I" ++ concat texts ++ codes "E"

-- the parameters of a function pointer and, behind an E, its result
abbrev pub signature_text : List (List ℕ) → List ℕ
signature_text [] = codes "E"
signature_text (result ∷ []) = codes "E" ++ result
signature_text (param ∷ next ∷ others) = param ++ signature_text (next ∷ others)

-- a head around the texts of its children
abbrev pub layer_text : SymHead → List (List ℕ) → List ℕ
layer_text U64 texts = codes "y"
layer_text Bool texts = codes "b"
layer_text Tuple texts = codes "T" ++ concat texts ++ codes "E"
layer_text Ref texts = codes "R" ++ concat texts
layer_text Boxed texts = codes "B" ++ concat texts
layer_text FnPtr texts = codes "P" ++ signature_text texts
layer_text (FnItem names) texts = codes "G" ++ path_text names ++ args_text texts
layer_text (Closure names) texts = codes "C" ++ path_text names ++ args_text texts
layer_text (Dyn names) texts = codes "D" ++ path_text names ++ args_text texts
layer_text (Adt names) texts = codes "A" ++ path_text names ++ args_text texts

unfoldable pub type_text : SymType → List ℕ
type_text = sym_fold layer_text

abbrev pub type_args_text : List SymType → List ℕ
type_args_text types = args_text (map type_text types)

-- the self type, the trait with its arguments, and the method with its own
abbrev pub method_text : SymMethod → List ℕ
method_text m = type_text m.target ++ path_text m.tr ++ type_args_text m.args ++ seg_text m.name ++ type_args_text m.own

abbrev pub item_text : SymItem → List ℕ
item_text (items.Fn names types) = codes "F" ++ path_text names ++ type_args_text types
item_text (items.Closure names types) = codes "K" ++ path_text names ++ type_args_text types
item_text (items.Method m) = codes "M" ++ method_text m
item_text (items.Glue type') = codes "L" ++ type_text type'
item_text (items.Shim type') = codes "H" ++ type_text type'
item_text (items.Static names) = codes "S" ++ path_text names

-- the crate for which it is compiled, where that is reported
abbrev pub krate_text : Option (List ℕ) → List ℕ
krate_text None = []
krate_text (Some name) = codes "X" ++ seg_text name

unfoldable pub symbol_text : SymbolForm → List ℕ
symbol_text form = codes "_M" ++ item_text form.item ++ krate_text form.krate
