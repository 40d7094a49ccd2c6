-- The text of a type: the one form in which it is written.
use Rattle.std.specs.Prelude.{ℕ, ◌-◌, List, [], ◌∷◌, ◌++◌, Bool, false, cond, nat_eq, length, take, drop, flat_map, codes, decimal}
use Rattle.mm_terms.specs.declared.ty_head.TyHead.{TyHead}
use Rattle.mm_terms.specs.declared.ty_head.TyHead.TheVariants.{Param, U64, Bool as Bools, Tuple, Ref, Boxed, FnPtr, FnItem, Closure, Dyn, Adt}
use Rattle.mm_terms.specs.declared.tree.Tree.{Tree}
use Rattle.mm_terms.specs.Tree.{tree_fold}
use Rattle.mm_plain.specs.declared.program.Program.{Program}
use Rattle.mm_plain.specs.Uses.{path_of}

-- the text begins with (
abbrev pub opens : List ℕ → Bool
opens [] = false
opens (c ∷ cs) = nat_eq c 40

-- a type behind another one: a comma, and a blank where the type does not begin with (
abbrev pub behind : List ℕ → List ℕ
behind text = codes "," ++ cond (opens text) [] (codes " ") ++ text

-- types in a list
abbrev pub list_text : List (List ℕ) → List ℕ
list_text [] = []
list_text (text ∷ texts) = text ++ flat_map behind texts

-- arguments of a definition; without any there are no brackets
abbrev pub args_text : List (List ℕ) → List ℕ
args_text [] = []
args_text (text ∷ texts) = codes "<" ++ list_text (text ∷ texts) ++ codes ">"

-- the parameters of a function pointer and, last, its result
abbrev pub fnptr_text : List (List ℕ) → List ℕ
fnptr_text texts = codes "fnptr(" ++ list_text (take (length texts - 1) texts) ++ codes ")" ++ codes " -> " ++ list_text (drop (length texts - 1) texts)

-- a head around the texts of its children
abbrev pub layer_text : Program → TyHead → List (List ℕ) → List ℕ
layer_text p (Param i) texts = codes "_" ++ decimal i
layer_text p U64 texts = codes "u64"
layer_text p Bools texts = codes "bool"
layer_text p Tuple texts = codes "(" ++ list_text texts ++ codes ")"
layer_text p Ref texts = codes "&" ++ list_text texts
layer_text p Boxed texts = codes "Box<" ++ list_text texts ++ codes ">"
layer_text p FnPtr texts = fnptr_text texts
layer_text p (FnItem d) texts = codes "fnitem " ++ path_of p d ++ args_text texts
layer_text p (Closure d) texts = codes "closure " ++ path_of p d ++ args_text texts
layer_text p (Dyn d) texts = codes "dyn " ++ path_of p d ++ args_text texts
layer_text p (Adt d) texts = path_of p d ++ args_text texts

unfoldable pub type_text : Program → Tree → List ℕ
type_text p = tree_fold (layer_text p)
