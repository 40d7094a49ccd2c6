-- Types are read.
use Rattle.std.proofs.Common.{◌≡◌, ◌≢◌, ℕ, zero, suc, List, [], ◌∷◌, ◌++◌, length, map, true, not, eqb, codes, Some, refl, sym, ◌∙◌, ap, subst, append_assoc, append-nil, length-append, arith}
use Rattle.std.specs.Prelude.{All}
use Rattle.std.specs.List.{concat}
use Rattle.std.proofs.lemmas.Bool.{eqb-true, both_ways, false_from_ne_true, not-true}
use Rattle.std.proofs.lemmas.Option.{none-some}
use Rattle.std.proofs.lemmas.List.{map-append}
use Rattle.std.proofs.lemmas.List.Elements.{All-nil, All-cons, All-head, All-tail, All-append}
use Rattle.mm_symbols.specs.declared.form.SymHead.{SymHead}
use Rattle.mm_symbols.specs.declared.form.SymHead.TheVariants.{U64, Bool as Truth, Tuple, Ref, Boxed, FnPtr, FnItem, Closure, Dyn, Adt}
use Rattle.mm_symbols.specs.declared.form.SymType.{SymType}
use Rattle.mm_symbols.specs.SymTree.{sym_node, sym_head, sym_children, sym_node-parts, sym_head-node, sym_children-node}
use Rattle.mm_symbols.specs.SymbolText.{path_text, args_text, signature_text, layer_text, type_text}
use Rattle.mm_symbols.specs.SymbolForms.{IsPath, IsHead, IsWithin}
use Rattle.mm_symbols.specs.Reading.{Read, made_in, pair_in, if_in, until_end, args_in, named_in, is_one, tuple_in, single_in, signature_in, defined_in, shape_in, node_in, within_in}
use Rattle.mm_symbols.proofs.Readers.{Reads, IsBegun, some_same, reads_same, reads_behind, reads_pair, reads_tested, reads_made, reads_until, concat-map, behind_sound, behind_complete, pick}
use Rattle.mm_symbols.proofs.NameReads.{reads_path}
use Rattle.mm_symbols.proofs.TextLemmas.{type_text-parts, type_text-node}

-- a head and the types below it
abbrev pub Shape : Type 0
Shape = SymHead × List SymType

abbrev pub shape_text : Shape → List ℕ
shape_text x = layer_text x.0 (map type_text x.1)

layer_begun : (head : SymHead) (texts : List (List ℕ)) → IsBegun (layer_text head texts)
layer_begun U64 texts = refl
layer_begun Truth texts = refl
layer_begun Tuple texts = refl
layer_begun Ref texts = refl
layer_begun Boxed texts = refl
layer_begun FnPtr texts = refl
layer_begun (FnItem names) texts = refl
layer_begun (Closure names) texts = refl
layer_begun (Dyn names) texts = refl
layer_begun (Adt names) texts = refl

-- no type begins with E
pub type_begun : (t : SymType) → IsBegun (type_text t)
type_begun t = subst IsBegun (sym (type_text-parts t)) (layer_begun (sym_head t) (map type_text (sym_children t)))

none_below : {A : Type 0} (xs : List A) → length xs ≡ 0 → xs ≡ []
none_below [] h = refl
none_below (x ∷ xs) h = absurd (omega arith)

one_below : {A : Type 0} (xs : List A) → length xs ≡ 1 → (x : A) × (x ∷ [] ≡ xs)
one_below [] h = absurd (omega arith)
one_below (x ∷ []) h = (x, refl)
one_below (x ∷ y ∷ ys) h = absurd (omega arith)

last_below : {A : Type 0} (xs : List A) → length xs ≢ 0 → (x : List A × A) × (x.0 ++ x.1 ∷ [] ≡ xs)
last_below [] h = absurd (h refl)
last_below (x ∷ []) h = (([], x), refl)
last_below (x ∷ y ∷ ys) h = let l = last_below (y ∷ ys) (λ none. omega arith) in ((x ∷ l.0.0, l.0.1), ap (λ zs. x ∷ zs) l.1)

regroup : (text mid result : List ℕ) → text ++ ((mid ++ 69 ∷ []) ++ result) ≡ ((text ++ mid) ++ 69 ∷ []) ++ result
regroup text mid result = simp append_assoc

signature_text-last : (texts : List (List ℕ)) (result : List ℕ) → signature_text (texts ++ result ∷ []) ≡ (concat texts ++ codes "E") ++ result
signature_text-last [] result = refl
signature_text-last (text ∷ []) result = regroup text [] result
signature_text-last (text ∷ next ∷ texts) result = ap (λ l. text ++ l) (signature_text-last (next ∷ texts) result) ∙ regroup text (next ++ concat texts) result

signature_types : (params : List SymType) (result : SymType) → signature_text (map type_text (params ++ result ∷ [])) ≡ (concat (map type_text params) ++ codes "E") ++ type_text result
signature_types params result = ap signature_text (map-append type_text params (result ∷ [])) ∙ signature_text-last (map type_text params) (type_text result)

all_prefix : {A : Type 0} (P : A → Type 0) (xs : List A) (x : A) → All P (xs ++ x ∷ []) → All P xs × P x
all_prefix P [] x is = (All-nil P, All-head P x [] is)
all_prefix P (y ∷ ys) x is =
    let below = all_prefix P ys x (All-tail P y (ys ++ x ∷ []) is) in
    (All-cons P y ys (All-head P y (ys ++ x ∷ []) is) below.0, below.1)

some_last : {A : Type 0} (xs : List A) (x : A) → length (xs ++ x ∷ []) ≢ 0
some_last xs x none = omega (arith, length-append xs (x ∷ []))

not_one : {A : Type 0} (xs : List A) → not (is_one xs) ≡ true → length xs ≢ 1
not_one xs h one = both_ways (is_one xs) (not-true (is_one xs) h) (ap (λ n. eqb n 1) one)

one_not : {A : Type 0} (xs : List A) → length xs ≢ 1 → not (is_one xs) ≡ true
one_not xs h = rw (false_from_ne_true (is_one xs) (λ one. h (eqb-true (length xs) 1 one))) refl

module _ (P : SymType → Type 0) (inner : List ℕ → Read SymType) (one : Reads P P type_text inner) where
  reads_types : Reads (All P) (All P) (λ ts. concat (map type_text ts) ++ codes "E") (until_end inner)
  reads_types = reads_same (λ ts. concat (map type_text ts) ++ codes "E") (λ ts. ap (λ l. l ++ 69 ∷ []) (concat-map type_text ts)) (reads_until P P type_text inner one (λ t is. type_begun t))

  pub reads_args : Reads (All P) (All P) (λ ts. args_text (map type_text ts)) (args_in inner)
  unfolding args_in
  reads_args = reads_behind 73 reads_types

  pub reads_named : Reads (λ x. IsPath x.0 × All P x.1) (λ x. IsPath x.0 × All P x.1) (λ x. path_text x.0 ++ args_text (map type_text x.1)) (named_in inner)
  unfolding named_in
  reads_named = reads_pair reads_path reads_args

  -- the head may have these types, and each is as they must be
  abbrev IsShape : Shape → Type 0
  IsShape x = IsHead x.0 (length x.1) × All P x.1

  reads_tuple : Reads (λ ts. (length ts ≢ 1) × All P ts) (λ ts. (length ts ≢ 1) × All P ts) (λ ts. concat (map type_text ts) ++ codes "E") (if_in (λ parts. not (is_one parts)) (until_end inner))
  reads_tuple =
      reads_tested (λ ts. (length ts ≢ 1) × All P ts) (λ ts. not (is_one ts)) (λ ts are several. (not_one ts several, are)) (λ ts is. (is.1, one_not ts is.0)) reads_types

  reads_signature : Reads (λ x. All P x.0 × P x.1) (λ x. All P x.0 × P x.1) (λ x. (concat (map type_text x.0) ++ codes "E") ++ type_text x.1) (pair_in (until_end inner) inner)
  reads_signature = reads_pair reads_types one

  -- a head over one type
  single_sound : (head : SymHead) (letter c : ℕ) → ((texts : List (List ℕ)) → layer_text head texts ≡ letter ∷ concat texts) → IsHead head 1 → (bytes : List ℕ) (x : Shape) (rest : List ℕ) → eqb c letter ≡ true → single_in head inner bytes ≡ Some (x, rest) → IsShape x × (c ∷ bytes ≡ shape_text x ++ rest)
  unfolding single_in
  single_sound head letter c is fits bytes x rest at h =
      behind_sound IsShape shape_text (λ child. (head, child ∷ [])) letter c (λ t. is (type_text t ∷ []) ∙ ap (λ l. letter ∷ l) (append-nil (type_text t))) (λ t holds. (fits, All-cons P t [] holds (All-nil P))) one bytes x rest at h

  -- a head that is made of a path
  defined_sound : (make : List (List ℕ) → SymHead) (letter c : ℕ) → ((names : List (List ℕ)) (texts : List (List ℕ)) → layer_text (make names) texts ≡ letter ∷ (path_text names ++ args_text texts)) → ((names : List (List ℕ)) (n : ℕ) → IsPath names → IsHead (make names) n) → (bytes : List ℕ) (x : Shape) (rest : List ℕ) → eqb c letter ≡ true → defined_in make inner bytes ≡ Some (x, rest) → IsShape x × (c ∷ bytes ≡ shape_text x ++ rest)
  unfolding defined_in
  defined_sound make letter c is fits bytes x rest at h =
      behind_sound IsShape shape_text (λ y. (make y.0, y.1)) letter c (λ y. is y.0 (map type_text y.1)) (λ y holds. (fits y.0 (length y.1) holds.0, holds.1)) reads_named bytes x rest at h

  shape_sound : (bytes : List ℕ) (x : Shape) (rest : List ℕ) → shape_in inner bytes ≡ Some (x, rest) → IsShape x × (bytes ≡ shape_text x ++ rest)
  unfolding shape_in tuple_in signature_in
  shape_sound [] x rest h = cc
  shape_sound (c ∷ bytes) x rest h =
      let Told : Type 0 = IsShape x × (c ∷ bytes ≡ shape_text x ++ rest) in
      let Fits : Shape × List ℕ → Type 0 = λ q. IsShape q.0 × (c ∷ bytes ≡ shape_text q.0 ++ q.1) in
      let leaf : (head : SymHead) (letter : ℕ) → ((texts : List (List ℕ)) → layer_text head texts ≡ letter ∷ []) → IsHead head 0 → eqb c letter ≡ true → Some ((head, []), bytes) ≡ Some (x, rest) → Told =
      λ head letter is fits at g. subst Fits (some_same ((head, []), bytes) (x, rest) g) ((fits, All-nil P), (λ i. eqb-true c letter at i ∷ bytes) ∙ ap (λ l. l ++ bytes) (sym (is []))) in
      pick Told (eqb c 121) _ _ _ (leaf U64 121 (λ texts. refl) refl) (λ _.
      pick Told (eqb c 98) _ _ _ (leaf Truth 98 (λ texts. refl) refl) (λ _.
      pick Told (eqb c 84) _ _ _ (behind_sound IsShape shape_text (λ parts. (Tuple, parts)) 84 c (λ ts. refl) (λ ts holds. holds) reads_tuple bytes x rest) (λ _.
      pick Told (eqb c 82) _ _ _ (single_sound Ref 82 c (λ texts. refl) refl bytes x rest) (λ _.
      pick Told (eqb c 66) _ _ _ (single_sound Boxed 66 c (λ texts. refl) refl bytes x rest) (λ _.
      pick Told (eqb c 80) _ _ _ (behind_sound IsShape shape_text (λ y. (FnPtr, y.0 ++ y.1 ∷ [])) 80 c (λ y. ap (λ l. 80 ∷ l) (signature_types y.0 y.1)) (λ y holds. (some_last y.0 y.1, All-append P y.0 (y.1 ∷ []) holds.0 (All-cons P y.1 [] holds.1 (All-nil P)))) reads_signature bytes x rest) (λ _.
      pick Told (eqb c 71) _ _ _ (defined_sound FnItem 71 c (λ names texts. refl) (λ names n is. is) bytes x rest) (λ _.
      pick Told (eqb c 67) _ _ _ (defined_sound Closure 67 c (λ names texts. refl) (λ names n is. is) bytes x rest) (λ _.
      pick Told (eqb c 68) _ _ _ (defined_sound Dyn 68 c (λ names texts. refl) (λ names n is. is) bytes x rest) (λ _.
      pick Told (eqb c 65) _ _ _ (defined_sound Adt 65 c (λ names texts. refl) (λ names n is. is) bytes x rest) (λ _ g. absurd (none-some (x, rest) g)))))))))))
      h

  single_complete : (head : SymHead) (ts : List SymType) (rest : List ℕ) → length ts ≡ 1 → All P ts → single_in head inner (concat (map type_text ts) ++ rest) ≡ Some ((head, ts), rest)
  unfolding single_in
  single_complete head ts rest n are =
      let o = one_below ts n in
      let holds : P o.0 = All-head P o.0 [] (subst (All P) (sym o.1) are) in
      let make : SymType → Shape = λ child. (head, child ∷ []) in
      subst (λ ys. made_in make inner (concat (map type_text ys) ++ rest) ≡ Some ((head, ys), rest)) o.1
      (ap (λ l. made_in make inner (l ++ rest)) (append-nil (type_text o.0)) ∙ behind_complete make one o.0 rest holds)

  defined_complete : (make : List (List ℕ) → SymHead) (names : List (List ℕ)) (ts : List SymType) (rest : List ℕ) → IsPath names → All P ts → defined_in make inner ((path_text names ++ args_text (map type_text ts)) ++ rest) ≡ Some ((make names, ts), rest)
  unfolding defined_in
  defined_complete make names ts rest path are = behind_complete (λ x. (make x.0, x.1)) reads_named (names, ts) rest (path, are)

  shape_complete : (head : SymHead) (ts : List SymType) (rest : List ℕ) → IsShape (head, ts) → shape_in inner (layer_text head (map type_text ts) ++ rest) ≡ Some ((head, ts), rest)
  unfolding shape_in tuple_in signature_in
  shape_complete U64 ts rest is = ap (λ ys. Some ((U64, ys), rest)) (sym (none_below ts is.0))
  shape_complete Truth ts rest is = ap (λ ys. Some ((Truth, ys), rest)) (sym (none_below ts is.0))
  shape_complete Tuple ts rest is = behind_complete (λ parts. (Tuple, parts)) reads_tuple ts rest is
  shape_complete Ref ts rest is = single_complete Ref ts rest is.0 is.1
  shape_complete Boxed ts rest is = single_complete Boxed ts rest is.0 is.1
  shape_complete FnPtr ts rest is =
      let l = last_below ts is.0 in
      let are = all_prefix P l.0.0 l.0.1 (subst (All P) (sym l.1) is.1) in
      let make : List SymType × SymType → Shape = λ x. (FnPtr, x.0 ++ x.1 ∷ []) in
      subst (λ ys. made_in make (pair_in (until_end inner) inner) (signature_text (map type_text ys) ++ rest) ≡ Some ((FnPtr, ys), rest)) l.1
      (ap (λ t. made_in make (pair_in (until_end inner) inner) (t ++ rest)) (signature_types l.0.0 l.0.1) ∙ behind_complete make reads_signature l.0 rest are)
  shape_complete (FnItem names) ts rest is = defined_complete FnItem names ts rest is.0 is.1
  shape_complete (Closure names) ts rest is = defined_complete Closure names ts rest is.0 is.1
  shape_complete (Dyn names) ts rest is = defined_complete Dyn names ts rest is.0 is.1
  shape_complete (Adt names) ts rest is = defined_complete Adt names ts rest is.0 is.1

  pub reads_shape : Reads IsShape IsShape shape_text (shape_in inner)
  reads_shape = record { sound = shape_sound; complete = λ x rest is. shape_complete x.0 x.1 rest is }

pub within_node : (n : ℕ) (head : SymHead) (children : List SymType) → IsHead head (length children) × All (IsWithin n) children → IsWithin (suc n) (sym_node head children)
unfolding IsWithin
within_node n head children is =
    let Fits : SymHead → List SymType → Type 0 = λ h ts. IsHead h (length ts) × All (IsWithin n) ts in
    subst (λ h. Fits h (sym_children (sym_node head children))) (sym (sym_head-node head children)) (subst (Fits head) (sym (sym_children-node head children)) is)

within_parts : (n : ℕ) (t : SymType) → IsWithin (suc n) t → IsHead (sym_head t) (length (sym_children t)) × All (IsWithin n) (sym_children t)
unfolding IsWithin
within_parts n t is = is

no_within : (t : SymType) → IsWithin 0 t → ⊥
unfolding IsWithin
no_within t is = is

-- a type is read where it nests no deeper than so many levels, and no other
pub reads_type : (levels : ℕ) → Reads (IsWithin levels) (IsWithin levels) type_text (within_in levels)
unfolding within_in node_in
reads_type zero = record { sound = λ bytes t rest h. (cc); complete = λ t rest is. absurd (no_within t is) }
reads_type (suc n) =
    reads_made (IsWithin (suc n)) (IsWithin (suc n)) type_text (λ x. sym_node x.0 x.1) (λ x. type_text-node x.0 x.1)
    (λ x is. within_node n x.0 x.1 is)
    (λ t is. ((sym_head t, sym_children t), within_parts n t is, sym_node-parts t))
    (reads_shape (IsWithin n) (within_in n) (reads_type n))
