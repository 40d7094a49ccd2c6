-- No blank and no line end stands in a symbol.
use Rattle.std.proofs.Common.{◌≡◌, ℕ, zero, suc, ◌<◌, ◌≤◌, ◌^◌, Bool, true, false, not, ◌||◌, ◌==◌, eqb, List, [], ◌∷◌, ◌++◌, length, map, flat_map, codes, decimal, Option, None, Some, All, lit<, lit≤, refl, sym, subst, arith, inl, inr, ◌⊎◌}
use Rattle.std.specs.List.{list_all, concat}
use Rattle.std.specs.Char.{is_ascii_digit}
use Rattle.std.proofs.lemmas.Bool.{and_parts, eqb-true, false_from_ne_true, both_ways}
use Rattle.std.proofs.lemmas.List.Elements.{All-nil, All-cons, All-head, All-tail}
use Rattle.std.proofs.lemmas.List.Folds.{list_all-append}
use Rattle.mm_names.specs.Names.{IsName}
use Rattle.mm_names.proofs.NameLemmas.{IsName-without}
use Rattle.mm_names.proofs.Numerals.{decimal-digits}
use Rattle.mm_symbols.specs.declared.form.SymHead.{SymHead}
use Rattle.mm_symbols.specs.declared.form.SymHead.TheVariants as heads
use Rattle.mm_symbols.specs.declared.form.SymType.{SymType}
use Rattle.mm_symbols.specs.declared.form.SymMethod.{SymMethod}
use Rattle.mm_symbols.specs.declared.form.SymItem.{SymItem}
use Rattle.mm_symbols.specs.declared.form.SymItem.TheVariants as items
use Rattle.mm_symbols.specs.declared.form.SymbolForm.{SymbolForm}
use Rattle.mm_symbols.specs.SymTree.{sym_head, sym_children}
use Rattle.mm_symbols.specs.SymbolText.{seg_text, path_text, args_text, signature_text, layer_text, type_text, type_args_text, method_text, item_text, krate_text, symbol_text}
use Rattle.mm_symbols.specs.SymbolForms.{IsPath, IsHead, IsWithin, IsDrop, IsMethod, IsItem, IsKrate, IsSymbolOf}
use Rattle.mm_symbols.proofs.TextLemmas.{type_text-parts}
use Rattle.mm_objects.specs.ObjectNames.{IsCodeSymbol}

-- it is no blank and no line end
abbrev pub is_graphic : ℕ → Bool
is_graphic c = not ((c == 32) || (c == 10))

-- no blank and no line end stands in it
abbrev pub IsClean : List ℕ → Type 0
IsClean w = list_all is_graphic w ≡ true

pub joined : (a b : List ℕ) → IsClean a → IsClean b → IsClean (a ++ b)
joined a b x y = rw (list_all-append, x, y) refl

digit-graphic : (d : ℕ) → is_ascii_digit d ≡ true → is_graphic d ≡ true
digit-graphic d h =
    let apart : (c : ℕ) → is_ascii_digit c ≡ false → eqb d c ≡ false = λ c no_digit. false_from_ne_true (eqb d c) (λ e. both_ways (is_ascii_digit c) no_digit (subst (λ x. is_ascii_digit x ≡ true) (eqb-true d c e) h)) in
    rw (apart 32 refl, apart 10 refl) refl

digits-clean : (ds : List ℕ) → list_all is_ascii_digit ds ≡ true → IsClean ds
digits-clean [] h = refl
digits-clean (d ∷ ds) h =
    let p = and_parts (is_ascii_digit d) (list_all is_ascii_digit ds) h in
    rw (digit-graphic d p.0, digits-clean ds p.1) refl

pub number-clean : (n : ℕ) → n < 2 ^ 64 → IsClean (decimal n)
number-clean n fits = digits-clean (decimal n) (decimal-digits n fits)

without : (bytes : List ℕ) → All (λ b. eqb b 32 ≡ false) bytes → All (λ b. eqb b 10 ≡ false) bytes → IsClean bytes
without [] blank end = refl
without (b ∷ bs) blank end =
    rw (All-head (λ b. eqb b 32 ≡ false) b bs blank, All-head (λ b. eqb b 10 ≡ false) b bs end)
    (without bs (All-tail (λ b. eqb b 32 ≡ false) b bs blank) (All-tail (λ b. eqb b 10 ≡ false) b bs end))

pub name-clean : (name : List ℕ) → IsName name → IsClean name
name-clean name is = without name (IsName-without 32 (lit< tt) refl name is) (IsName-without 10 (lit< tt) refl name is)

seg-clean : (name : List ℕ) → length name ≤ 255 → IsClean name → IsClean (seg_text name)
seg-clean name short is = joined (decimal (length name)) name (number-clean (length name) (omega (arith, short))) is

segs-clean : (names : List (List ℕ)) → All IsName names → IsClean (flat_map seg_text names)
segs-clean [] all = refl
segs-clean (name ∷ names) all =
    let is = All-head IsName name names all in
    joined (seg_text name) (flat_map seg_text names) (seg-clean name is.short (name-clean name is)) (segs-clean names (All-tail IsName name names all))

around : (a b c : List ℕ) → IsClean a → IsClean b → IsClean c → IsClean (a ++ b ++ c)
around a b c x y z = joined (a ++ b) c (joined a b x y) z

path-clean : (names : List (List ℕ)) → IsPath names → IsClean (path_text names)
path-clean names is = around (codes "N") (flat_map seg_text names) (codes "E") refl (segs-clean names is.each) refl

concat-clean : (texts : List (List ℕ)) → All IsClean texts → IsClean (concat texts)
concat-clean [] all = refl
concat-clean (t ∷ ts) all = joined t (concat ts) (All-head IsClean t ts all) (concat-clean ts (All-tail IsClean t ts all))

args-clean : (texts : List (List ℕ)) → All IsClean texts → IsClean (args_text texts)
args-clean texts all = around (codes "I") (concat texts) (codes "E") refl (concat-clean texts all) refl

signature-clean : (texts : List (List ℕ)) → All IsClean texts → IsClean (signature_text texts)
signature-clean [] all = refl
signature-clean (t ∷ []) all = joined (codes "E") t refl (All-head IsClean t [] all)
signature-clean (t ∷ u ∷ us) all = joined t (signature_text (u ∷ us)) (All-head IsClean t (u ∷ us) all) (signature-clean (u ∷ us) (All-tail IsClean t (u ∷ us) all))

named-clean : (mark : List ℕ) (names : List (List ℕ)) (texts : List (List ℕ)) → IsClean mark → IsPath names → All IsClean texts → IsClean (mark ++ path_text names ++ args_text texts)
named-clean mark names texts is path all = around mark (path_text names) (args_text texts) is (path-clean names path) (args-clean texts all)

layer-clean : (head : SymHead) (texts : List (List ℕ)) (n : ℕ) → IsHead head n → All IsClean texts → IsClean (layer_text head texts)
layer-clean heads.U64 texts n is all = refl
layer-clean heads.Bool texts n is all = refl
layer-clean heads.Tuple texts n is all = around (codes "T") (concat texts) (codes "E") refl (concat-clean texts all) refl
layer-clean heads.Ref texts n is all = joined (codes "R") (concat texts) refl (concat-clean texts all)
layer-clean heads.Boxed texts n is all = joined (codes "B") (concat texts) refl (concat-clean texts all)
layer-clean heads.FnPtr texts n is all = joined (codes "P") (signature_text texts) refl (signature-clean texts all)
layer-clean (heads.FnItem names) texts n is all = named-clean (codes "G") names texts refl is all
layer-clean (heads.Closure names) texts n is all = named-clean (codes "C") names texts refl is all
layer-clean (heads.Dyn names) texts n is all = named-clean (codes "D") names texts refl is all
layer-clean (heads.Adt names) texts n is all = named-clean (codes "A") names texts refl is all

types-by : (P : SymType → Type 0) → ((t : SymType) → P t → IsClean (type_text t)) → (ts : List SymType) → All P ts → All IsClean (map type_text ts)
types-by P one [] all = All-nil IsClean
types-by P one (t ∷ ts) all = All-cons IsClean (type_text t) (map type_text ts) (one t (All-head P t ts all)) (types-by P one ts (All-tail P t ts all))

type-clean : (levels : ℕ) (t : SymType) → IsWithin levels t → IsClean (type_text t)
unfolding IsWithin
type-clean zero t is = absurd is
type-clean (suc levels) t is =
    subst IsClean (sym (type_text-parts t)) (layer-clean (sym_head t) (map type_text (sym_children t)) (length (sym_children t)) is.0 (types-by (IsWithin levels) (type-clean levels) (sym_children t) is.1))

types-clean : (levels : ℕ) (ts : List SymType) → All (IsWithin levels) ts → IsClean (type_args_text ts)
types-clean levels ts all = args-clean (map type_text ts) (types-by (IsWithin levels) (type-clean levels) ts all)

trait-clean : (tr : List (List ℕ)) (name : List ℕ) → (IsPath tr × IsName name) ⊎ IsDrop tr name → IsClean (path_text tr) × IsClean (seg_text name)
trait-clean tr name (inl is) = (path-clean tr is.0, seg-clean name is.1.short (name-clean name is.1))
trait-clean tr name (inr is) =
    let names = joined (seg_text (codes "Drop")) [] (seg-clean (codes "Drop") (lit≤ tt) refl) refl in
    (subst (λ t. IsClean (path_text t)) (sym is.0) (around (codes "N") (flat_map seg_text (codes "Drop" ∷ [])) (codes "E") refl names refl), subst (λ n. IsClean (seg_text n)) (sym is.1) (seg-clean (codes "drop") (lit≤ tt) refl))

method-clean : (levels : ℕ) (m : SymMethod) → IsMethod levels m → IsClean (method_text m)
method-clean levels m is =
    let t = trait-clean m.tr m.name is.named in
    let a = joined (type_text m.target) (path_text m.tr) (type-clean levels m.target is.target) t.0 in
    let b = joined (type_text m.target ++ path_text m.tr) (type_args_text m.args) a (types-clean levels m.args is.args) in
    let c = joined (type_text m.target ++ path_text m.tr ++ type_args_text m.args) (seg_text m.name) b t.1 in
    joined (type_text m.target ++ path_text m.tr ++ type_args_text m.args ++ seg_text m.name) (type_args_text m.own) c (types-clean levels m.own is.own)

item-clean : (levels : ℕ) (item : SymItem) → IsItem levels item → IsClean (item_text item)
item-clean levels (items.Fn names types) is = around (codes "F") (path_text names) (type_args_text types) refl (path-clean names is.0) (types-clean levels types is.1)
item-clean levels (items.Closure names types) is = around (codes "K") (path_text names) (type_args_text types) refl (path-clean names is.0) (types-clean levels types is.1)
item-clean levels (items.Method m) is = joined (codes "M") (method_text m) refl (method-clean levels m is)
item-clean levels (items.Glue t) is = joined (codes "L") (type_text t) refl (type-clean levels t is)
item-clean levels (items.Shim t) is = joined (codes "H") (type_text t) refl (type-clean levels t is)
item-clean levels (items.Static names) is = joined (codes "S") (path_text names) refl (path-clean names is)

krate-clean : (krate : Option (List ℕ)) → IsKrate krate → IsClean (krate_text krate)
krate-clean None is = refl
krate-clean (Some name) is = joined (codes "X") (seg_text name) refl (seg-clean name is.short (name-clean name is))

form-clean : (form : SymbolForm) (bytes : List ℕ) → IsSymbolOf form bytes → IsClean bytes
unfolding symbol_text
form-clean form bytes is = subst IsClean (sym is.is) (around (codes "_M") (item_text form.item) (krate_text form.krate) refl (item-clean 4096 form.item is.formed.item) (krate-clean form.krate is.formed.krate))

pub symbol-clean : (s : List ℕ) → IsCodeSymbol s → IsClean s
symbol-clean s is = form-clean is.form s is.symbol
