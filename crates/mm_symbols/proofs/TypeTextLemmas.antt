-- The text of a type by its head.
use Rattle.std.proofs.Common.{◌≡◌, ◌≢◌, ℕ, ◌-◌, List, [], ◌∷◌, ◌++◌, length, map, take, drop, codes, Result, Ok, Err, OnOk, false, cond, refl, sym, ◌∙◌, ap}
use Rattle.std.proofs.lemmas.List.{append_assoc, length-map, take-map, drop-map}
use Rattle.std.specs.Result.{is_ok}
use Rattle.mm_terms.specs.declared.ids.DefId.{DefId}
use Rattle.mm_terms.specs.declared.ty_head.TyHead.{TyHead}
use Rattle.mm_terms.specs.declared.ty_head.TyHead.TheVariants.{Param, U64, Bool, Tuple, Ref, Boxed, FnPtr, FnItem, Closure, Dyn, Adt}
use Rattle.mm_terms.specs.declared.tree.Tree.{Tree}
use Rattle.mm_terms.specs.Tree.{head_of, children_of, tree_fold-parts}
use Rattle.mm_plain.specs.declared.program.Program.{Program}
use Rattle.mm_symbols.specs.TypeText.{opens, list_text, args_text, fnptr_text, layer_text, type_text}

-- a head around the texts of its children
pub type_text-parts : (p : Program) (t : Tree) → type_text p t ≡ layer_text p (head_of t) (map (type_text p) (children_of t))
unfolding type_text
type_text-parts p t = tree_fold-parts (layer_text p) t

pub type_text-is : (p : Program) (t : Tree) (head : TyHead) → head_of t ≡ head → type_text p t ≡ layer_text p head (map (type_text p) (children_of t))
type_text-is p t head is = type_text-parts p t ∙ ap (λ h. layer_text p h (map (type_text p) (children_of t))) is

-- the same, where the children are reported otherwise
pub layer_is : (p : Program) (t : Tree) (head : TyHead) (children : List Tree) → head_of t ≡ head → children ≡ children_of t → layer_text p head (map (type_text p) children) ≡ type_text p t
layer_is p t head children is are = ap (λ ts. layer_text p head (map (type_text p) ts)) are ∙ sym (type_text-is p t head is)

args_closed : (texts : List (List ℕ)) → opens (args_text texts) ≡ false
args_closed [] = refl
args_closed (text ∷ texts) = refl

-- a path decides where one stands first
pub opens-path : (path : List ℕ) (texts : List (List ℕ)) → opens (path ++ args_text texts) ≡ opens path
opens-path [] texts = args_closed texts
opens-path (c ∷ cs) texts = refl

opens-layer : (p : Program) (head : TyHead) (texts : List (List ℕ)) → head ≢ Tuple → ((d : DefId) → head ≢ Adt d) → opens (layer_text p head texts) ≡ false
opens-layer p (Param i) texts a b = refl
opens-layer p U64 texts a b = refl
opens-layer p Bool texts a b = refl
opens-layer p Tuple texts a b = absurd (a refl)
opens-layer p Ref texts a b = refl
opens-layer p Boxed texts a b = refl
opens-layer p FnPtr texts a b = refl
opens-layer p (FnItem d) texts a b = refl
opens-layer p (Closure d) texts a b = refl
opens-layer p (Dyn d) texts a b = refl
opens-layer p (Adt d) texts a b = absurd (b d refl)

-- no other type begins with (
pub opens-other : (p : Program) (t : Tree) → head_of t ≢ Tuple → ((d : DefId) → head_of t ≢ Adt d) → opens (type_text p t) ≡ false
opens-other p t a b = ap opens (type_text-parts p t) ∙ opens-layer p (head_of t) (map (type_text p) (children_of t)) a b

-- the last of the types is the result
pub fnptr_is : (p : Program) (children params result : List Tree) (n : ℕ) → n ≡ length children - 1 → params ≡ take n children → result ≡ drop n children → codes "fnptr(" ++ list_text (map (type_text p) params) ++ codes ")" ++ codes " -> " ++ list_text (map (type_text p) result) ≡ fnptr_text (map (type_text p) children)
fnptr_is p children params result n is prefix back =
    let texts : List (List ℕ) = map (type_text p) children in
    let m : n ≡ length texts - 1 = is ∙ ap (λ k. k - 1) (sym (length-map children (type_text p))) in
    let firsts : map (type_text p) params ≡ take (length texts - 1) texts =
    ap (map (type_text p)) prefix ∙ sym (take-map (type_text p) n children) ∙ ap (λ k. take k texts) m in
    let last : map (type_text p) result ≡ drop (length texts - 1) texts =
    ap (map (type_text p)) back ∙ sym (drop-map (type_text p) n children) ∙ ap (λ k. drop k texts) m in
    λ i. codes "fnptr(" ++ list_text (firsts i) ++ codes ")" ++ codes " -> " ++ list_text (last i)

-- what was added, where all was
pub OnOk-all : {A E : Type 0} (r : Result A E) (new old added : List ℕ) → new ≡ cond (is_ok r) (old ++ added) old → OnOk r (new ≡ old ++ added)
OnOk-all (Ok x) new old added is = is
OnOk-all (Err e) new old added is = tt

-- a text behind another one
pub OnOk-behind : {A E : Type 0} (r : Result A E) (new middle old prefix back : List ℕ) → middle ≡ old ++ prefix → OnOk r (new ≡ middle ++ back) → OnOk r (new ≡ old ++ (prefix ++ back))
OnOk-behind (Ok x) new middle old prefix back is all = all ∙ ap (λ text. text ++ back) is ∙ append_assoc old prefix back
OnOk-behind (Err e) new middle old prefix back is all = tt
