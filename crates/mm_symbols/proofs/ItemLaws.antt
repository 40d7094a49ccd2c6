-- The symbols of a program's items tell the items apart, and are symbols.
use Rattle.std.proofs.Common.{◌≡◌, ◌≢◌, ℕ, zero, suc, ◌+◌, ◌<◌, ◌≤◌, inl, inr, List, [], ◌∷◌, ◌++◌, length, map, refl, sym, ◌∙◌, ap, subst, arith}
use Rattle.std.specs.Prelude.{⊤, All, flat_map}
use Rattle.std.proofs.lemmas.List.{length-map}
use Rattle.std.proofs.lemmas.Option.{slice_get_cases}
use Rattle.std.proofs.lemmas.List.Folds.{flat_map-map}
use Rattle.std.proofs.lemmas.List.Elements.{All-nil, All-cons, All-head, All-tail, All-same, All-get_or}
use Rattle.mm_terms.specs.declared.ids.DefId.{DefId}
use Rattle.mm_terms.specs.declared.ty_head.TyHead.{TyHead}
use Rattle.mm_terms.specs.declared.ty_head.TyHead.TheVariants as heads
use Rattle.mm_terms.specs.declared.tree.Tree.{Tree}
use Rattle.mm_terms.specs.declared.item.Item.{Item}
use Rattle.mm_terms.specs.declared.item.Item.TheVariants.{Fn, Glue, Shim, Static}
use Rattle.mm_terms.specs.Formed.{FitsHead, IsFormed, IsFormed-head, IsFormed-children}
use Rattle.mm_terms.specs.Lists.{All-apart}
use Rattle.mm_terms.specs.Order.{types_of}
use Rattle.mm_terms.specs.Substitution.{ParamsBelow, ParamsBelow-none, ParamsBelow-param, ParamsBelow-children, HasNoParam-below}
use Rattle.mm_terms.specs.Tree.{node, head_of, children_of, tree_fold-parts, tree_ind, node-parts, children_of-node}
use Rattle.mm_plain.specs.declared.program.Program.{Program}
use Rattle.mm_plain.specs.declared.program.Function.{Function}
use Rattle.mm_plain.specs.Uses.{function_path, path_of}
use Rattle.mm_symbols.specs.declared.form.SymbolForm.{SymbolForm}
use Rattle.mm_symbols.specs.SymTree.{sym_node, sym_head, sym_children, sym_head-node, sym_children-node}
use Rattle.mm_symbols.specs.SymbolText.{symbol_text}
use Rattle.mm_symbols.specs.SymbolForms.{IsPath, IsHead, IsWithin, IsFormWithin, IsSymbolOf}
use Rattle.mm_symbols.specs.Reading.{symbol_in}
use Rattle.mm_symbols.specs.ItemForms.{names_of, head_form, type_form, item_form, form_of, IsPathText, HasNames, def_of, defs_of, greatest, depth_of, IsTypeIn, IsItemIn}
use Rattle.mm_symbols.proofs.Readers.{some_same}
use Rattle.mm_symbols.proofs.TypeReads.{within_node}
use Rattle.mm_symbols.proofs.SymbolReads.{symbol_in-complete}
use Rattle.mm_symbols.proofs.PathLemmas.{IsPath-names_in, one_path}
use Rattle.mm_symbols.proofs.ItemLemmas.{type_form-parts}

-- ---- a symbol has one form

pub form_one : (bytes : List ℕ) (form other : SymbolForm) → IsSymbolOf form bytes → IsSymbolOf other bytes → form ≡ other
form_one bytes form other a b =
    some_same form other (sym (symbol_in-complete 4096 form a.formed) ∙ ap (symbol_in 4096) (sym a.is ∙ b.is) ∙ symbol_in-complete 4096 other b.formed)

-- ---- definitions of a program

module _ (p : Program) (names : HasNames p) where
  path_text_of : (d : DefId) → d.0 < length p.functions → IsPathText (path_of p d)
  path_text_of d within = elim ((slice_get_cases p.functions d.0).1) [
    | inl found ↦ subst (λ o. IsPathText (function_path o)) (sym found.2) (subst (λ (f : Function). IsPathText f.path) found.3 (All-get_or (λ f. IsPathText f.path) p.functions d.0 found.0 within names.each))
    | inr out ↦ absurd (omega arith)
  ]

  names_path : (d : DefId) → d.0 < length p.functions → IsPath (names_of p d)
  names_path d within = IsPath-names_in (path_of p d) (path_text_of d within)

  one_def : (c d : DefId) → c.0 < length p.functions → d.0 < length p.functions → names_of p c ≡ names_of p d → c ≡ d
  one_def c d within also same = names.one c d within also (one_path (path_of p c) (path_of p d) (path_text_of c within) (path_text_of d also) same)

  -- a head that types of items have
  HeadIn : TyHead → Type 0
  HeadIn (heads.Param i) = ⊥
  HeadIn (heads.FnItem d) = d.0 < length p.functions
  HeadIn (heads.Closure d) = d.0 < length p.functions
  HeadIn (heads.Dyn d) = d.0 < length p.functions
  HeadIn (heads.Adt d) = d.0 < length p.functions
  HeadIn head = ⊤

  head_one : (h g : TyHead) → HeadIn h → HeadIn g → head_form p h ≡ head_form p g → h ≡ g
  unfolding HeadIn
  head_one (heads.Param i) g a b e = absurd a
  head_one h (heads.Param i) a b e = absurd b
  head_one heads.U64 heads.U64 a b e = refl
  head_one heads.Bool heads.Bool a b e = refl
  head_one heads.Tuple heads.Tuple a b e = refl
  head_one heads.Ref heads.Ref a b e = refl
  head_one heads.Boxed heads.Boxed a b e = refl
  head_one heads.FnPtr heads.FnPtr a b e = refl
  head_one (heads.FnItem c) (heads.FnItem d) a b e = ap heads.FnItem (one_def c d a b (cc))
  head_one (heads.Closure c) (heads.Closure d) a b e = ap heads.Closure (one_def c d a b (cc))
  head_one (heads.Dyn c) (heads.Dyn d) a b e = ap heads.Dyn (one_def c d a b (cc))
  head_one (heads.Adt c) (heads.Adt d) a b e = ap heads.Adt (one_def c d a b (cc))
  head_one h g a b e = cc

  head_is : (head : TyHead) (n : ℕ) → HeadIn head → FitsHead head n → IsHead (head_form p head) n
  unfolding HeadIn
  head_is (heads.Param i) n a fits = absurd a
  head_is heads.U64 n a fits = fits
  head_is heads.Bool n a fits = fits
  head_is heads.Tuple n a fits = fits
  head_is heads.Ref n a fits = fits
  head_is heads.Boxed n a fits = fits
  head_is heads.FnPtr n a fits = fits
  head_is (heads.FnItem d) n a fits = names_path d a
  head_is (heads.Closure d) n a fits = names_path d a
  head_is (heads.Dyn d) n a fits = names_path d a
  head_is (heads.Adt d) n a fits = names_path d a

  head_in : (head : TyHead) → ((i : ℕ) → head ≢ heads.Param i) → All (λ d. d < length p.functions) (def_of head) → HeadIn head
  unfolding HeadIn
  head_in (heads.Param i) plain defs = plain i refl
  head_in (heads.FnItem d) plain defs = All-head (λ c. c < length p.functions) d.0 [] defs
  head_in (heads.Closure d) plain defs = All-head (λ c. c < length p.functions) d.0 [] defs
  head_in (heads.Dyn d) plain defs = All-head (λ c. c < length p.functions) d.0 [] defs
  head_in (heads.Adt d) plain defs = All-head (λ c. c < length p.functions) d.0 [] defs
  head_in head plain defs = tt

  defs_parts : (t : Tree) → defs_of t ≡ def_of (head_of t) ++ flat_map defs_of (children_of t)
  unfolding defs_of
  defs_parts t = tree_fold-parts (λ head defs. def_of head ++ flat_map (λ ds. ds) defs) t ∙ ap (λ ds. def_of (head_of t) ++ ds) (flat_map-map (λ ds. ds) defs_of (children_of t))

  each_apart : (P : ℕ → Type 0) (ts : List Tree) → All P (flat_map defs_of ts) → All (λ t. All P (defs_of t)) ts
  each_apart P [] all = All-nil (λ t. All P (defs_of t))
  each_apart P (t ∷ ts) all =
      let parts = All-apart P (defs_of t) (flat_map defs_of ts) all in
      All-cons (λ t. All P (defs_of t)) t ts parts.0 (each_apart P ts parts.1)

  Within : ℕ → Type 0
  Within d = d < length p.functions

  -- a type of the program, by its parts
  record Parts (t : Tree) : Type 0 where
    head : HeadIn (head_of t)
    fits : FitsHead (head_of t) (length (children_of t))
    children : All (IsTypeIn p) (children_of t)

  join_types : (ts : List Tree) → All IsFormed ts → All (ParamsBelow 0) ts → All (λ t. All (λ d. d < length p.functions) (defs_of t)) ts → All (IsTypeIn p) ts
  join_types [] formed plain defs = All-nil (IsTypeIn p)
  join_types (t ∷ ts) formed plain defs =
      All-cons (IsTypeIn p) t ts
      (record {
        formed = All-head IsFormed t ts formed;
        plain = HasNoParam-below t (All-head (ParamsBelow 0) t ts plain);
        defs = All-head (λ t. All (λ d. d < length p.functions) (defs_of t)) t ts defs;
      })
      (join_types ts (All-tail IsFormed t ts formed) (All-tail (ParamsBelow 0) t ts plain) (All-tail (λ t. All (λ d. d < length p.functions) (defs_of t)) t ts defs))

  type_parts : (t : Tree) → IsTypeIn p t → Parts t
  type_parts t is =
      let below = ParamsBelow-none 0 t is.plain in
      let defs = All-apart (λ d. d < length p.functions) (def_of (head_of t)) (flat_map defs_of (children_of t)) (subst (All (λ d. d < length p.functions)) (defs_parts t) is.defs) in
      record {
        head = head_in (head_of t) (λ i same. let under = ParamsBelow-param 0 t i same below in omega arith) defs.0;
        fits = IsFormed-head t is.formed;
        children = join_types (children_of t) (IsFormed-children t is.formed) (ParamsBelow-children 0 t below) (each_apart (λ d. d < length p.functions) (children_of t) defs.1);
      }

  -- ---- a type is reported by its form

  Told : Tree → Type 0
  Told t = IsTypeIn p t → (s : Tree) → IsTypeIn p s → type_form p t ≡ type_form p s → t ≡ s

  types_reported : (ts ss : List Tree) → All Told ts → All (IsTypeIn p) ts → All (IsTypeIn p) ss → map (type_form p) ts ≡ map (type_form p) ss → ts ≡ ss
  unfolding Told
  types_reported [] [] reported are also same = refl
  types_reported [] (s ∷ ss) reported are also same = cc
  types_reported (t ∷ ts) [] reported are also same = cc
  types_reported (t ∷ ts) (s ∷ ss) reported are also same =
      let first : t ≡ s = All-head Told t ts reported (All-head (IsTypeIn p) t ts are) s (All-head (IsTypeIn p) s ss also) (cc) in
      let others : ts ≡ ss = types_reported ts ss (All-tail Told t ts reported) (All-tail (IsTypeIn p) t ts are) (All-tail (IsTypeIn p) s ss also) (cc) in
      λ i. first i ∷ others i

  reported_node : (head : TyHead) (children : List Tree) → All Told children → Told (node head children)
  unfolding Told
  reported_node head children reported is s also same =
      let t = node head children in
      let parts = type_parts t is in
      let others = type_parts s also in
      let forms : sym_node (head_form p (head_of t)) (map (type_form p) (children_of t)) ≡ sym_node (head_form p (head_of s)) (map (type_form p) (children_of s)) = sym (type_form-parts p t) ∙ same ∙ type_form-parts p s in
      let heads : head_form p (head_of t) ≡ head_form p (head_of s) = sym (sym_head-node (head_form p (head_of t)) (map (type_form p) (children_of t))) ∙ ap sym_head forms ∙ sym_head-node (head_form p (head_of s)) (map (type_form p) (children_of s)) in
      let below : map (type_form p) (children_of t) ≡ map (type_form p) (children_of s) = sym (sym_children-node (head_form p (head_of t)) (map (type_form p) (children_of t))) ∙ ap sym_children forms ∙ sym_children-node (head_form p (head_of s)) (map (type_form p) (children_of s)) in
      let head_same : head_of t ≡ head_of s = head_one (head_of t) (head_of s) parts.head others.head heads in
      let children_same : children_of t ≡ children_of s = types_reported (children_of t) (children_of s) (All-same Told (children_of t) children (children_of-node head children) reported) parts.children others.children below in
      sym (node-parts t) ∙ (λ i. node (head_same i) (children_same i)) ∙ node-parts s

  type_reported : (t : Tree) → Told t
  type_reported = tree_ind Told reported_node

  all_reported : (ts : List Tree) → All Told ts
  all_reported [] = All-nil Told
  all_reported (t ∷ ts) = All-cons Told t ts (type_reported t) (all_reported ts)

  -- ---- the form of a type is that of a symbol

  depth_parts : (t : Tree) → depth_of t ≡ greatest (map depth_of (children_of t)) + 1
  unfolding depth_of
  depth_parts t = tree_fold-parts (λ head depths. greatest depths + 1) t

  none_deeper : (ts : List Tree) (n : ℕ) → greatest (map depth_of ts) ≤ n → All (λ t. depth_of t ≤ n) ts
  none_deeper [] n h = All-nil (λ t. depth_of t ≤ n)
  none_deeper (t ∷ ts) n h = All-cons (λ t. depth_of t ≤ n) t ts (omega arith) (none_deeper ts n (omega arith))

  within_each : (n : ℕ) → ((t : Tree) → IsTypeIn p t → depth_of t ≤ n → IsWithin n (type_form p t)) → (ts : List Tree) → All (IsTypeIn p) ts → All (λ t. depth_of t ≤ n) ts → All (IsWithin n) (map (type_form p) ts)
  within_each n one [] are deep = All-nil (IsWithin n)
  within_each n one (t ∷ ts) are deep =
      All-cons (IsWithin n) (type_form p t) (map (type_form p) ts)
      (one t (All-head (IsTypeIn p) t ts are) (All-head (λ t. depth_of t ≤ n) t ts deep))
      (within_each n one ts (All-tail (IsTypeIn p) t ts are) (All-tail (λ t. depth_of t ≤ n) t ts deep))

  within_form : (n : ℕ) (t : Tree) → IsTypeIn p t → depth_of t ≤ n → IsWithin n (type_form p t)
  within_form zero t is deep = absurd (omega (arith, depth_parts t))
  within_form (suc n) t is deep =
      let parts = type_parts t is in
      let forms = map (type_form p) (children_of t) in
      let below : greatest (map depth_of (children_of t)) ≤ n = omega (arith, depth_parts t) in
      let fits : FitsHead (head_of t) (length forms) = subst (FitsHead (head_of t)) (sym (length-map (children_of t) (type_form p))) parts.fits in
      subst (IsWithin (suc n)) (sym (type_form-parts p t))
      (within_node n (head_form p (head_of t)) forms (head_is (head_of t) (length forms) parts.head fits, within_each n (within_form n) (children_of t) parts.children (none_deeper (children_of t) n below)))

  -- ---- items

  pub form_within : (n : ℕ) (x : Item) → IsItemIn p x → All (λ t. depth_of t ≤ n) (types_of x) → IsFormWithin n (form_of p x)
  form_within n (Fn d args) is deep = record { item = (names_path d (All-head (λ d. d < length p.functions) d.0 [] is.def), within_each n (within_form n) args is.types deep); krate = tt }
  form_within n (Glue t) is deep = record { item = within_form n t (All-head (IsTypeIn p) t [] is.types) (All-head (λ t. depth_of t ≤ n) t [] deep); krate = tt }
  form_within n (Shim t) is deep = record { item = within_form n t (All-head (IsTypeIn p) t [] is.types) (All-head (λ t. depth_of t ≤ n) t [] deep); krate = tt }
  form_within n (Static d) is deep = record { item = names_path d (All-head (λ d. d < length p.functions) d.0 [] is.def); krate = tt }

  item_one : (x y : Item) → IsItemIn p x → IsItemIn p y → item_form p x ≡ item_form p y → x ≡ y
  unfolding Told
  item_one (Fn c ts) (Fn d ss) is also same =
      let defs : c ≡ d = one_def c d (All-head (λ d. d < length p.functions) c.0 [] is.def) (All-head (λ d. d < length p.functions) d.0 [] also.def) (cc) in
      let args : ts ≡ ss = types_reported ts ss (all_reported ts) is.types also.types (cc) in
      λ i. Fn (defs i) (args i)
  item_one (Glue t) (Glue s) is also same = ap Glue (type_reported t (All-head (IsTypeIn p) t [] is.types) s (All-head (IsTypeIn p) s [] also.types) (cc))
  item_one (Shim t) (Shim s) is also same = ap Shim (type_reported t (All-head (IsTypeIn p) t [] is.types) s (All-head (IsTypeIn p) s [] also.types) (cc))
  item_one (Static c) (Static d) is also same = ap Static (one_def c d (All-head (λ d. d < length p.functions) c.0 [] is.def) (All-head (λ d. d < length p.functions) d.0 [] also.def) (cc))
  item_one x y is also same = cc

  abbrev deepest : Item → ℕ
  deepest x = greatest (map depth_of (types_of x))

  -- items with one symbol are one
  pub item_reported : (x y : Item) → IsItemIn p x → IsItemIn p y → symbol_text (form_of p x) ≡ symbol_text (form_of p y) → x ≡ y
  item_reported x y is also same =
      let n = deepest x + deepest y in
      let one = form_within n x is (none_deeper (types_of x) n (omega arith)) in
      let other = form_within n y also (none_deeper (types_of y) n (omega arith)) in
      let forms : form_of p x ≡ form_of p y = some_same (form_of p x) (form_of p y) (sym (symbol_in-complete n (form_of p x) one) ∙ ap (symbol_in n) same ∙ symbol_in-complete n (form_of p y) other) in
      item_one x y is also (ap (λ (f : SymbolForm). f.item) forms)
