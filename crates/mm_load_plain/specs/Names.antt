-- How names resolve: each to the first index at which it stands in a list of names.
use Rattle.std.specs.Prelude.{ℕ, suc, List, [], ◌∷◌, ◌++◌, map, codes, Option, None, Some, cond}
use Rattle.std.specs.Option.{option_map}
use Rattle.std.specs.Str.{bytes_eq}
use Rattle.indexmap.specs.IndexMap.{IndexMap, get_by}
use denote.Ref.{Bor}
use Rattle.mm_ast.specs.declared.items.Function.{Function}
use Rattle.mm_ast.specs.declared.names.Path.{Path}

-- the index to which each name resolves, from 0; some resolve to nothing
abbrev pub Names : Type 0
Names = List ℕ → Option ℕ

-- the first index of a name
abbrev pub index_of : List (List ℕ) → Names
index_of [] name = None
index_of (n ∷ ns) name = cond (bytes_eq name n) (Some 0) (option_map suc (index_of ns name))

-- names one after the other, separated by ::
abbrev pub joined : List ℕ → List (List ℕ) → List ℕ
joined prefix [] = prefix
joined prefix (name ∷ names) = joined (prefix ++ codes "::" ++ name) names

-- the path that a call names
abbrev pub path_named : Path → List ℕ
path_named path = joined path.krate path.names

-- the path of the function with which a run begins
abbrev pub main_path : List ℕ → List ℕ
main_path krate = joined krate (codes "main" ∷ [])

-- to which type parameter of the function each name resolves
abbrev pub names_in : Function → Names
names_in f = index_of (map (λ n. n.text) f.type_params)

-- how names resolve by a table
abbrev pub look_up : {S : Type 0} → IndexMap (Bor (List ℕ)) ℕ S → Names
look_up index name = get_by (λ k. bytes_eq name k.now) index
