-- The texts of paths: names one after the other, separated by `::`.
use Rattle.std.specs.Prelude.{ℕ, List, [], ◌∷◌, ◌++◌, codes}
use Rattle.mm_ast.specs.declared.names.Path.{Path}

-- the path of what has a name in a module, an enum or a trait with a path
abbrev pub path_in : List ℕ → List ℕ → List ℕ
path_in prefix name = prefix ++ codes "::" ++ name

-- names one after the other, behind those before
abbrev pub joined : List ℕ → List (List ℕ) → List ℕ
joined prefix [] = prefix
joined prefix (name ∷ names) = joined (path_in prefix name) names

-- the names of a path
unfoldable pub path_named : Path → List ℕ
path_named path = joined path.krate path.names
