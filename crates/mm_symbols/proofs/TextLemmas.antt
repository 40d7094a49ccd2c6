-- The texts of types by their parts.
use Rattle.std.proofs.Common.{◌≡◌, ℕ, suc, ◌-◌, List, [], ◌∷◌, ◌++◌, length, map, take, drop, codes, refl, sym, ◌∙◌, ap, arith, append_assoc, append-nil}
use Rattle.std.specs.List.{concat}
use Rattle.std.proofs.lemmas.List.{length-map, take-map, drop-map}
use Rattle.mm_symbols.specs.declared.form.SymType.{SymType}
use Rattle.mm_symbols.specs.SymTree.{sym_head, sym_children, sym_fold-parts, sym_node, sym_fold-node}
use Rattle.mm_symbols.specs.declared.form.SymHead.{SymHead}
use Rattle.mm_symbols.specs.SymbolText.{layer_text, signature_text, type_text}

-- a head around the texts of its children
pub type_text-parts : (t : SymType) → type_text t ≡ layer_text (sym_head t) (map type_text (sym_children t))
unfolding type_text
type_text-parts t = sym_fold-parts layer_text t

pub type_text-node : (head : SymHead) (children : List SymType) → type_text (sym_node head children) ≡ layer_text head (map type_text children)
unfolding type_text
type_text-node head children = sym_fold-node layer_text head children

split_more : (k : ℕ) (param : List ℕ) (texts : List (List ℕ)) → concat (take (suc k) (param ∷ texts)) ++ codes "E" ++ concat (drop (suc k) (param ∷ texts)) ≡ param ++ (concat (take k texts) ++ codes "E" ++ concat (drop k texts))
split_more k param texts = simp append_assoc

-- an E stands before the last
pub signature_text-split : (texts : List (List ℕ)) → signature_text texts ≡ concat (take (length texts - 1) texts) ++ codes "E" ++ concat (drop (length texts - 1) texts)
signature_text-split [] = refl
signature_text-split (result ∷ []) = ap (λ text. codes "E" ++ text) (sym (append-nil result))
signature_text-split (param ∷ next ∷ others) =
    let k = length (next ∷ others) - 1 in
    let n : length (param ∷ next ∷ others) - 1 ≡ suc k = omega arith in
    let below = signature_text-split (next ∷ others) in
    ap (λ text. param ++ text) below
    ∙ sym (split_more k param (next ∷ others))
    ∙ sym (ap (λ m. concat (take m (param ∷ next ∷ others)) ++ codes "E" ++ concat (drop m (param ∷ next ∷ others))) n)

-- the same of the types
pub signature_is : (types params result : List SymType) (n : ℕ) → n ≡ length types - 1 → params ≡ take n types → result ≡ drop n types → (concat (map type_text params) ++ codes "E") ++ concat (map type_text result) ≡ signature_text (map type_text types)
signature_is types params result n is prefix back =
    let texts : List (List ℕ) = map type_text types in
    let m : n ≡ length texts - 1 = is ∙ ap (λ k. k - 1) (sym (length-map types type_text)) in
    let firsts : map type_text params ≡ take (length texts - 1) texts =
    ap (map type_text) prefix ∙ sym (take-map type_text n types) ∙ ap (λ k. take k texts) m in
    let last : map type_text result ≡ drop (length texts - 1) texts =
    ap (map type_text) back ∙ sym (drop-map type_text n types) ∙ ap (λ k. drop k texts) m in
    (λ i. concat (firsts i) ++ codes "E" ++ concat (last i))
    ∙ sym (signature_text-split texts)
