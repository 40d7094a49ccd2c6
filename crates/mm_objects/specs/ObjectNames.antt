-- The names that objects have: symbols of functions, and names of units.
use Rattle.std.specs.Prelude.{◌≡◌, ℕ, Bool, true, false, List, ◌++◌, codes}
use Rattle.std.specs.List.{join_by}
use Rattle.mm_names.specs.Names.{IsName}
use Rattle.mm_symbols.specs.declared.form.SymItem.{SymItem}
use Rattle.mm_symbols.specs.declared.form.SymItem.TheVariants as items
use Rattle.mm_symbols.specs.declared.form.SymbolForm.{SymbolForm}
use Rattle.mm_symbols.specs.SymbolForms.{IsPath, IsSymbolOf}

-- every item but a static is code
abbrev pub is_code : SymItem → Bool
is_code (items.Fn names types) = true
is_code (items.Closure names types) = true
is_code (items.Method m) = true
is_code (items.Glue type') = true
is_code (items.Shim type') = true
is_code (items.Static names) = false

-- the bytes are the symbol of code
pub record IsCodeSymbol (bytes : List ℕ) : Type 0 where
  pub form : SymbolForm
  pub symbol : IsSymbolOf form bytes
  pub code : is_code form.item ≡ true

abbrev pub stability_text : Bool → List ℕ
stability_text true = codes "stable"
stability_text false = codes "volatile"

-- The bytes are the name of a unit: the compiling crate, and the path of a module with the word stable or volatile, as in
-- app/app::inner.stable.
pub record IsUnitName (bytes : List ℕ) : Type 0 where
  pub krate : List ℕ
  pub names : List (List ℕ)
  pub stable : Bool
  pub krate_is : IsName krate
  pub path_is : IsPath names
  pub is : bytes ≡ krate ++ codes "/" ++ join_by (λ name. name) (codes "::") names ++ codes "." ++ stability_text stable
