-- The numbers of type parameters.
use Rattle.std.specs.Prelude.{ℕ, suc, List, [], ◌∷◌, map, codes, Option, None, Some, cond, unwrap_or}
use Rattle.std.specs.Option.{option_map}
use Rattle.std.specs.Str.{bytes_eq}
use Rattle.indexmap.specs.IndexMap.{IndexMap, get_by}
use denote.Ref.{Bor}
use Rattle.mm_ast.specs.declared.names.Name.{Name}

-- the number of the type parameter that a name is, from 0
abbrev pub Params : Type 0
Params = List ℕ → Option ℕ

-- where a name stands first
abbrev pub index_of : List (List ℕ) → Params
index_of [] name = None
index_of (n ∷ ns) name = cond (bytes_eq name n) (Some 0) (option_map suc (index_of ns name))

-- by the names that are in scope, outermost first
abbrev pub numbered : List (List ℕ) → Params
numbered names = index_of names

-- `Self` is the first type parameter of a trait. No other is called so, since it is a word
abbrev pub self_name : List ℕ
self_name = codes "Self"

abbrev pub texts : List Name → List (List ℕ)
texts names = map (λ name. name.text) names

-- the number of a name. One that is no type parameter stands in no text that keeps the rules
abbrev pub number_of : Params → List ℕ → ℕ
number_of params name = unwrap_or (params name) 0

-- how names are looked up in a table
abbrev pub look_up : {S : Type 0} → IndexMap (Bor (List ℕ)) ℕ S → Params
look_up table name = get_by (λ k. bytes_eq name k.now) table
