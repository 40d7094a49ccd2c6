-- The form of an item of a program, and the programs in which symbols tell items apart.
use Rattle.std.specs.Prelude.{◌≡◌, ℕ, ◌+◌, ◌<◌, max, Bool, true, false, eqb, List, [], ◌∷◌, ◌++◌, length, map, filter, flat_map, All, codes, None}
use Rattle.std.specs.List.{slice_split, join_by}
use Rattle.mm_terms.specs.declared.ids.DefId.{DefId}
use Rattle.mm_terms.specs.declared.ty_head.TyHead.{TyHead}
use Rattle.mm_terms.specs.declared.ty_head.TyHead.TheVariants as heads
use Rattle.mm_terms.specs.declared.tree.Tree.{Tree}
use Rattle.mm_terms.specs.declared.item.Item.{Item}
use Rattle.mm_terms.specs.declared.item.Item.TheVariants.{Fn, Glue, Shim, Static}
use Rattle.mm_terms.specs.Formed.{IsFormed}
use Rattle.mm_terms.specs.Order.{types_of}
use Rattle.mm_terms.specs.Substitution.{HasNoParam}
use Rattle.mm_terms.specs.Tree.{tree_fold}
use Rattle.mm_plain.specs.declared.program.Program.{Program}
use Rattle.mm_plain.specs.Uses.{path_of}
use Rattle.mm_symbols.specs.declared.form.SymHead.{SymHead}
use Rattle.mm_symbols.specs.declared.form.SymHead.TheVariants as sym
use Rattle.mm_symbols.specs.declared.form.SymType.{SymType}
use Rattle.mm_symbols.specs.declared.form.SymItem.{SymItem}
use Rattle.mm_symbols.specs.declared.form.SymItem.TheVariants as items
use Rattle.mm_symbols.specs.declared.form.SymbolForm.{SymbolForm}
use Rattle.mm_symbols.specs.SymTree.{sym_node}
use Rattle.mm_symbols.specs.SymbolForms.{IsPath}

abbrev pub has_some : List ℕ → Bool
has_some [] = false
has_some (c ∷ cs) = true

-- the names in a path: what stands between its colons
unfoldable pub names_in : List ℕ → List (List ℕ)
names_in path = filter has_some (slice_split (λ c. eqb c 58) path)

-- the names of a definition's path
abbrev pub names_of : Program → DefId → List (List ℕ)
names_of p d = names_in (path_of p d)

-- a head of a type, its definition named by its path. No type of an item has a parameter; the form of one is no form of a symbol
abbrev pub head_form : Program → TyHead → SymHead
head_form p (heads.Param i) = sym.Adt []
head_form p heads.U64 = sym.U64
head_form p heads.Bool = sym.Bool
head_form p heads.Tuple = sym.Tuple
head_form p heads.Ref = sym.Ref
head_form p heads.Boxed = sym.Boxed
head_form p heads.FnPtr = sym.FnPtr
head_form p (heads.FnItem d) = sym.FnItem (names_of p d)
head_form p (heads.Closure d) = sym.Closure (names_of p d)
head_form p (heads.Dyn d) = sym.Dyn (names_of p d)
head_form p (heads.Adt d) = sym.Adt (names_of p d)

-- a type, head by head
unfoldable pub type_form : Program → Tree → SymType
type_form p = tree_fold (λ head children. sym_node (head_form p head) children)

abbrev pub item_form : Program → Item → SymItem
item_form p (Fn d args) = items.Fn (names_of p d) (map (type_form p) args)
item_form p (Glue t) = items.Glue (type_form p t)
item_form p (Shim t) = items.Shim (type_form p t)
item_form p (Static d) = items.Static (names_of p d)

-- the form of an item's symbol, which tells no compiling crate
abbrev pub form_of : Program → Item → SymbolForm
form_of p x = record { item = item_form p x; krate = None }

-- ---- the programs and items of which the laws speak

-- the path is a chain of names, joined by ::
pub record IsPathText (path : List ℕ) : Type 0 where
  pub names : List (List ℕ)
  pub each : IsPath names
  pub is : path ≡ join_by (λ name. name) (codes "::") names

-- each function has a path, and no two functions have one
pub record HasNames (p : Program) : Type 0 where
  pub each : All (λ f. IsPathText f.path) p.functions
  pub one : (c d : DefId) → c.0 < length p.functions → d.0 < length p.functions → path_of p c ≡ path_of p d → c ≡ d

-- the definition that a head names, if it names one
abbrev pub def_of : TyHead → List ℕ
def_of (heads.FnItem d) = d.0 ∷ []
def_of (heads.Closure d) = d.0 ∷ []
def_of (heads.Dyn d) = d.0 ∷ []
def_of (heads.Adt d) = d.0 ∷ []
def_of _ = []

-- the definitions that a type names from the left, repeats kept
unfoldable pub defs_of : Tree → List ℕ
defs_of = tree_fold (λ head defs. def_of head ++ flat_map (λ ds. ds) defs)

abbrev pub greatest : List ℕ → ℕ
greatest [] = 0
greatest (n ∷ ns) = max n (greatest ns)

-- how deep a type nests: a type with no type below it nests 1 deep
unfoldable pub depth_of : Tree → ℕ
depth_of = tree_fold (λ head depths. greatest depths + 1)

-- a type that items of the program have: each head has as many children as it takes, there is no parameter, and each definition that is named is one of the program's
pub record IsTypeIn (p : Program) (t : Tree) : Type 0 where
  pub formed : IsFormed t
  pub plain : HasNoParam t
  pub defs : All (λ d. d < length p.functions) (defs_of t)

-- the definition of an item, if it has one
abbrev pub def_of_item : Item → List ℕ
def_of_item (Fn d args) = d.0 ∷ []
def_of_item (Static d) = d.0 ∷ []
def_of_item _ = []

-- an item of the program
pub record IsItemIn (p : Program) (x : Item) : Type 0 where
  pub def : All (λ d. d < length p.functions) (def_of_item x)
  pub types : All (IsTypeIn p) (types_of x)
