-- What names without a path may stand for.
use Rattle.std.specs.Prelude.{ℕ, List, Bool, false, ◌||◌}
use Rattle.std.specs.List.{list_any}
use Rattle.std.specs.Str.{bytes_eq}
use Rattle.mm_ast.specs.declared.names.Name.{Name}

-- which names are those of type parameters
abbrev pub Names : Type 0
Names = List ℕ → Bool

-- it is the name of one of these type parameters
abbrev pub of_params : List Name → Names
of_params params name = list_any (λ p. bytes_eq name p.text) params

-- what a type may name without a path
pub record Scope : Type 0 where
  -- the names of type parameters: those of the trait or impl around it, and those of the function or method
  pub param : Names
  -- whether `Self` is a type: inside a trait it is
  pub has_self : Bool

-- no names
abbrev pub no_names : Names
no_names name = false

-- The scope of a definition with its own type parameters, inside a trait or impl with outer ones.
abbrev pub scope_of : Names → Names → Bool → Scope
scope_of outer own has_self = record { param = λ name. outer name || own name; has_self = has_self }
