-- Which forms are those of symbols, and which bytes are symbols.
use Rattle.std.specs.Prelude.{◌≡◌, ◌≢◌, ℕ, zero, suc, ⊤, List, [], ◌∷◌, length, All, codes, Option, None, Some, ◌⊎◌}
use Rattle.mm_names.specs.Names.{IsName}
use Rattle.mm_symbols.specs.declared.form.SymHead.{SymHead}
use Rattle.mm_symbols.specs.declared.form.SymHead.TheVariants.{U64, Bool, Tuple, Ref, Boxed, FnPtr, FnItem, Closure, Dyn, Adt}
use Rattle.mm_symbols.specs.declared.form.SymType.{SymType}
use Rattle.mm_symbols.specs.declared.form.SymMethod.{SymMethod}
use Rattle.mm_symbols.specs.declared.form.SymItem.{SymItem}
use Rattle.mm_symbols.specs.declared.form.SymItem.TheVariants as items
use Rattle.mm_symbols.specs.declared.form.SymbolForm.{SymbolForm}
use Rattle.mm_symbols.specs.SymTree.{sym_head, sym_children}
use Rattle.mm_symbols.specs.SymbolText.{symbol_text}

-- a path has at least one name
pub record IsPath (names : List (List ℕ)) : Type 0 where
  pub some : names ≢ []
  pub each : All IsName names

-- The head may have so many children: a tuple has none or at least two, a function pointer at least its result. A
-- definition is named by a path
abbrev pub IsHead : SymHead → ℕ → Type 0
IsHead U64 n = n ≡ 0
IsHead Bool n = n ≡ 0
IsHead Tuple n = n ≢ 1
IsHead Ref n = n ≡ 1
IsHead Boxed n = n ≡ 1
IsHead FnPtr n = n ≢ 0
IsHead (FnItem names) n = IsPath names
IsHead (Closure names) n = IsPath names
IsHead (Dyn names) n = IsPath names
IsHead (Adt names) n = IsPath names

-- a type that nests no deeper than so many levels: a head over as many children as it may have, each no deeper than one level less
unfoldable pub IsWithin : ℕ → SymType → Type 0
IsWithin zero t = ⊥
IsWithin (suc levels) t = IsHead (sym_head t) (length (sym_children t)) × All (IsWithin levels) (sym_children t)

-- `Drop` and `drop` are words, and no names: they stand in symbols only together, as the trait and the method of an impl of `Drop`
abbrev pub IsDrop : List (List ℕ) → List ℕ → Type 0
IsDrop tr name = (tr ≡ codes "Drop" ∷ []) × (name ≡ codes "drop")

-- a method, the types of which nest no deeper than so many levels
pub record IsMethod (levels : ℕ) (m : SymMethod) : Type 0 where
  pub target : IsWithin levels m.target
  pub named : (IsPath m.tr × IsName m.name) ⊎ IsDrop m.tr m.name
  pub args : All (IsWithin levels) m.args
  pub own : All (IsWithin levels) m.own

abbrev pub IsItem : ℕ → SymItem → Type 0
IsItem levels (items.Fn names types) = IsPath names × All (IsWithin levels) types
IsItem levels (items.Closure names types) = IsPath names × All (IsWithin levels) types
IsItem levels (items.Method m) = IsMethod levels m
IsItem levels (items.Glue type') = IsWithin levels type'
IsItem levels (items.Shim type') = IsWithin levels type'
IsItem levels (items.Static names) = IsPath names

abbrev pub IsKrate : Option (List ℕ) → Type 0
IsKrate None = ⊤
IsKrate (Some name) = IsName name

-- a form, the types of which nest no deeper than so many levels
pub record IsFormWithin (levels : ℕ) (form : SymbolForm) : Type 0 where
  pub item : IsItem levels form.item
  pub krate : IsKrate form.krate

-- the form of a symbol: types nest at most 4,096 deep
abbrev pub IsForm : SymbolForm → Type 0
IsForm = IsFormWithin 4096

-- the bytes are the symbol of this form
pub record IsSymbolOf (form : SymbolForm) (bytes : List ℕ) : Type 0 where
  pub formed : IsForm form
  pub is : bytes ≡ symbol_text form

-- the bytes are a symbol
abbrev pub IsSymbol : List ℕ → Type 0
IsSymbol bytes = (form : SymbolForm) × IsSymbolOf form bytes
