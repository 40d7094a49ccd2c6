-- Reading a symbol from the front of bytes: what each reader reads, and the bytes behind it.
use Rattle.std.specs.Prelude.{◌≡◌, ℕ, zero, suc, eqb, leb, Bool, false, not, cond, ◌&&◌, ◌||◌, List, [], ◌∷◌, ◌++◌, length, take, drop, codes, Option, Some, None, Result, Ok, Err}
use Rattle.std.specs.List.{prefix_len, list_all}
use Rattle.std.specs.Char.{is_ascii_digit}
use Rattle.std.specs.Str.{bytes_eq}
use Rattle.mm_symbols.specs.declared.parse_error.ParseError.{ParseError}
use Rattle.mm_symbols.specs.declared.parse_error.ParseError.TheVariants.{Invalid, NoMemory}
use Rattle.mm_names.specs.Decimals.{number_in}
use Rattle.mm_names.specs.Runs.{is_name}
use Rattle.mm_symbols.specs.declared.form.SymHead.{SymHead}
use Rattle.mm_symbols.specs.declared.form.SymHead.TheVariants.{U64, Bool as Truth, Tuple, Ref, Boxed, FnPtr, FnItem, Closure, Dyn, Adt}
use Rattle.mm_symbols.specs.declared.form.SymType.{SymType}
use Rattle.mm_symbols.specs.declared.form.SymMethod.{SymMethod}
use Rattle.mm_symbols.specs.declared.form.SymItem.{SymItem}
use Rattle.mm_symbols.specs.declared.form.SymItem.TheVariants as items
use Rattle.mm_symbols.specs.declared.form.SymbolForm.{SymbolForm}
use Rattle.mm_symbols.specs.SymTree.{sym_node}

-- what a function of the reader returned, seen by the view, is what is read; out of memory is free
abbrev pub Gives : {X Y : Type 0} → (X → Y) → Result X ParseError → Option Y → Type 0
Gives view (Ok x) read = read ≡ Some (view x)
Gives view (Err Invalid) read = read ≡ None
Gives view (Err NoMemory) read = Unit {0}

-- what is read, and the bytes behind it, where there is such a thing
abbrev pub Read : Type 0 → Type 0
Read A = Option (A × List ℕ)

infixl 10 ◌>>=◌
abbrev pub ◌>>=◌ : {A B : Type 0} → Option A → (A → Option B) → Option B
None >>= go = None
(Some a) >>= go = go a

-- whether the bytes begin with this one
abbrev pub starts : ℕ → List ℕ → Bool
starts c [] = false
starts c (d ∷ ds) = eqb d c

-- what stands behind this byte
abbrev pub past : ℕ → List ℕ → Option (List ℕ)
past c [] = None
past c (d ∷ ds) = cond (eqb d c) (Some ds) None

-- what is made of what is read
abbrev pub made_in : {A B : Type 0} → (A → B) → (List ℕ → Read A) → List ℕ → Read B
made_in make read bytes = read bytes >>= λ x. Some (make x.0, x.1)

-- the one and then the other
abbrev pub pair_in : {A B : Type 0} → (List ℕ → Read A) → (List ℕ → Read B) → List ℕ → Read (A × B)
pair_in first second bytes = first bytes >>= λ x. second x.1 >>= λ y. Some ((x.0, y.0), y.1)

-- only where it passes the test
abbrev pub if_in : {A : Type 0} → (A → Bool) → (List ℕ → Read A) → List ℕ → Read A
if_in test read bytes = read bytes >>= λ x. cond (test x.0) (Some x) None

-- things up to the next E, or so many of them
abbrev pub each_in : {A : Type 0} → (List ℕ → Read A) → ℕ → List ℕ → Read (List A)
each_in read zero bytes = Some ([], bytes)
each_in read (suc n) bytes = cond (starts 69 bytes) (Some ([], bytes)) (read bytes >>= λ x. each_in read n x.1 >>= λ xs. Some (x.0 ∷ xs.0, xs.1))

-- things, and the E behind them
abbrev pub until_end : {A : Type 0} → (List ℕ → Read A) → List ℕ → Read (List A)
until_end read bytes = each_in read (length bytes) bytes >>= λ xs. past 69 xs.1 >>= λ rest. Some (xs.0, rest)

-- ---- names

abbrev pub bytes_in : ℕ → List ℕ → Read (List ℕ)
bytes_in n bytes = cond (leb n (length bytes)) (Some (take n bytes, drop n bytes)) None

-- a length up to 255, and then so many bytes
unfoldable pub segment_in : List ℕ → Read (List ℕ)
segment_in bytes =
    let n = prefix_len is_ascii_digit bytes in
    number_in 255 (take n bytes) >>= λ len. bytes_in len (drop n bytes)

unfoldable pub name_in : List ℕ → Read (List ℕ)
name_in = if_in is_name segment_in

unfoldable pub segments_in : List ℕ → Read (List (List ℕ))
segments_in bytes = past 78 bytes >>= until_end segment_in

abbrev pub is_path : List (List ℕ) → Bool
is_path [] = false
is_path (name ∷ names) = list_all is_name (name ∷ names)

unfoldable pub path_in : List ℕ → Read (List (List ℕ))
path_in = if_in is_path segments_in

-- ---- types, below which types are read by the inner reader

unfoldable pub args_in : (List ℕ → Read SymType) → List ℕ → Read (List SymType)
args_in inner bytes = past 73 bytes >>= until_end inner

-- a path and arguments
unfoldable pub named_in : (List ℕ → Read SymType) → List ℕ → Read (List (List ℕ) × List SymType)
named_in inner = pair_in path_in (args_in inner)

abbrev pub is_one : {A : Type 0} → List A → Bool
is_one xs = eqb (length xs) 1

unfoldable pub tuple_in : (List ℕ → Read SymType) → List ℕ → Read (SymHead × List SymType)
tuple_in inner = made_in (λ parts. (Tuple, parts)) (if_in (λ parts. not (is_one parts)) (until_end inner))

unfoldable pub single_in : SymHead → (List ℕ → Read SymType) → List ℕ → Read (SymHead × List SymType)
single_in head inner = made_in (λ child. (head, child ∷ [])) inner

unfoldable pub signature_in : (List ℕ → Read SymType) → List ℕ → Read (SymHead × List SymType)
signature_in inner = made_in (λ x. (FnPtr, x.0 ++ x.1 ∷ [])) (pair_in (until_end inner) inner)

-- a definition with its arguments, at a head that is made of its path
unfoldable pub defined_in : (List (List ℕ) → SymHead) → (List ℕ → Read SymType) → List ℕ → Read (SymHead × List SymType)
defined_in make inner = made_in (λ x. (make x.0, x.1)) (named_in inner)

-- the same, behind the letter of the definition
abbrev pub defined_behind : (List ℕ → Read SymType) → ℕ → List ℕ → Read (SymHead × List SymType)
defined_behind inner c bytes =
    cond (eqb c 71) (defined_in FnItem inner bytes)
    (cond (eqb c 67) (defined_in Closure inner bytes)
    (cond (eqb c 68) (defined_in Dyn inner bytes)
    (cond (eqb c 65) (defined_in Adt inner bytes) None)))

-- the head of a type and the types below it, behind the letter with which they are reported
abbrev pub behind_letter : (List ℕ → Read SymType) → ℕ → List ℕ → Read (SymHead × List SymType)
behind_letter inner c bytes =
    cond (eqb c 121) (Some ((U64, []), bytes))
    (cond (eqb c 98) (Some ((Truth, []), bytes))
    (cond (eqb c 84) (tuple_in inner bytes)
    (cond (eqb c 82) (single_in Ref inner bytes)
    (cond (eqb c 66) (single_in Boxed inner bytes)
    (cond (eqb c 80) (signature_in inner bytes) (defined_behind inner c bytes))))))

unfoldable pub shape_in : (List ℕ → Read SymType) → List ℕ → Read (SymHead × List SymType)
shape_in inner [] = None
shape_in inner (c ∷ bytes) = behind_letter inner c bytes

unfoldable pub node_in : (List ℕ → Read SymType) → List ℕ → Read SymType
node_in inner = made_in (λ x. sym_node x.0 x.1) (shape_in inner)

-- a type that nests no deeper than so many levels
unfoldable pub within_in : ℕ → List ℕ → Read SymType
within_in zero bytes = None
within_in (suc levels) bytes = node_in (within_in levels) bytes

-- ---- items and symbols

-- `Drop`, and nothing else
abbrev pub is_drop_trait : List (List ℕ) → Bool
is_drop_trait [] = false
is_drop_trait (name ∷ []) = bytes_eq name (codes "Drop")
is_drop_trait (name ∷ next ∷ names) = false

-- the trait and the method have names, or they are `Drop` and `drop`
abbrev pub names_method : List (List ℕ) → List ℕ → Bool
names_method tr name = (is_drop_trait tr && bytes_eq name (codes "drop")) || (is_path tr && is_name name)

-- the parts of a method: the self type, the trait, its arguments, the method's name, and its own arguments
abbrev pub MethodParts : Type 0
MethodParts = SymType × (List (List ℕ) × (List SymType × (List ℕ × List SymType)))

abbrev pub method_of : MethodParts → SymMethod
method_of x = record { target = x.0; tr = x.1.0; args = x.1.1.0; name = x.1.1.1.0; own = x.1.1.1.1 }

unfoldable pub method_in : (List ℕ → Read SymType) → List ℕ → Read SymMethod
method_in inner =
    made_in method_of
    (if_in (λ x. names_method x.1.0 x.1.1.1.0)
    (pair_in inner (pair_in segments_in (pair_in (args_in inner) (pair_in segment_in (args_in inner))))))

abbrev pub item_behind : (List ℕ → Read SymType) → ℕ → List ℕ → Read SymItem
item_behind inner c bytes =
    cond (eqb c 70) (made_in (λ x. items.Fn x.0 x.1) (named_in inner) bytes)
    (cond (eqb c 75) (made_in (λ x. items.Closure x.0 x.1) (named_in inner) bytes)
    (cond (eqb c 77) (made_in items.Method (method_in inner) bytes)
    (cond (eqb c 76) (made_in items.Glue inner bytes)
    (cond (eqb c 72) (made_in items.Shim inner bytes)
    (cond (eqb c 83) (made_in items.Static path_in bytes) None)))))

unfoldable pub item_in : (List ℕ → Read SymType) → List ℕ → Read SymItem
item_in inner [] = None
item_in inner (c ∷ bytes) = item_behind inner c bytes

abbrev pub only_if_done : {A : Type 0} → A → List ℕ → Option A
only_if_done a [] = Some a
only_if_done a (c ∷ cs) = None

-- all of the bytes behind the item
unfoldable pub krate_in : List ℕ → Option (Option (List ℕ))
krate_in [] = Some None
krate_in (c ∷ bytes) = past 88 (c ∷ bytes) >>= name_in >>= λ x. only_if_done (Some x.0) x.1

unfoldable pub symbol_in : ℕ → List ℕ → Option SymbolForm
symbol_in levels bytes = do
  m ← past 95 bytes
  rest ← past 77 m
  item ← item_in (within_in levels) rest
  krate ← krate_in item.1
  Some (record { item = item.0; krate = krate })
