-- What the tables of a program hold: the impls of each trait, and the marks of what is named outside.
use Rattle.std.specs.Prelude.{◌≡◌, ℕ, ◌+◌, ◌<◌, ◌||◌, Bool, true, false, cond, List, [], ◌∷◌, ◌++◌, length, drop, map, filter, flat_map, nat_eq, replicate, slice_set, Option, None, Some}
use Rattle.std.specs.List.{enumerate_from, list_any}
use Rattle.std.specs.Option.{option_map_or}
use Rattle.std.proofs.Common.{refl, ap, sym, ◌∙◌, get_or, add-one, drop-cons, suc, append_assoc, append-nil, ⊎_elim, arith, subst}
use Rattle.std.proofs.lemmas.Bool.Decides.{eqb_tells}
use Rattle.std.proofs.lemmas.List.{get_or-set_same, get_or-set_other, get_or-replicate, length-set, length-replicate}
use Rattle.mm_terms.specs.declared.head.Head.{Head}
use Rattle.mm_terms.specs.declared.ids.DefId.{DefId}
use Rattle.mm_program.specs.declared.parts.DefPart.{DefPart}
use Rattle.mm_program.specs.declared.parts.Parts.{Parts}
use Rattle.mm_program.specs.Marks.{marked}
use Rattle.mm_program.specs.Naming.{is_named_outside, named_outside_in}
use Rattle.mm_program.specs.Tables.{AreTables, with_impl, with_impls}
use Rattle.mm_program.specs.Views.{gives, impls_of}

-- ---- marks

pub length-marked : (marks : List Bool) (names : List DefId) → length (marked marks names) ≡ length marks
length-marked marks [] = refl
length-marked marks (d ∷ names) = length-marked (slice_set marks d.0 true) names ∙ length-set marks d.0 true

-- it is one of the names
abbrev is_among : ℕ → List DefId → Bool
is_among k names = list_any (λ e. nat_eq e.0 k) names

or_none : (a : Bool) → a ≡ (a || false)
or_none true = refl
or_none false = refl

-- the mark at k after the mark at d was set
or_set : (marks : List Bool) (d k : ℕ) → k < length marks → get_or (slice_set marks d true) k false ≡ (get_or marks k false || nat_eq d k)
or_set marks d k within =
    ⊎_elim (λ same. or_same marks d k within same.1 same.0) (λ apart. get_or-set_other marks d k true false (λ e. apart.1 (sym e)) ∙ or_none (get_or marks k false) ∙ ap (λ b. get_or marks k false || b) (sym apart.0)) (eqb_tells d k)
  where
    or_true : (a : Bool) → true ≡ (a || true)
    or_true true = refl
    or_true false = refl

    or_same : (marks : List Bool) (d k : ℕ) → k < length marks → d ≡ k → nat_eq d k ≡ true → get_or (slice_set marks d true) k false ≡ (get_or marks k false || nat_eq d k)
    or_same marks d k within is test =
        ap (λ j. get_or (slice_set marks j true) k false) is ∙ get_or-set_same marks k true false within ∙ or_true (get_or marks k false) ∙ ap (λ b. get_or marks k false || b) (sym test)

or_assoc : (a b c : Bool) → ((a || b) || c) ≡ (a || (b || c))
or_assoc true b c = refl
or_assoc false b c = refl

-- it is marked after the names where it was before, or is one of them
pub marked-at : (marks : List Bool) (names : List DefId) (k : ℕ) → k < length marks → get_or (marked marks names) k false ≡ (get_or marks k false || is_among k names)
marked-at marks [] k within = or_none (get_or marks k false)
marked-at marks (d ∷ names) k within =
    let count : length (slice_set marks d.0 true) ≡ length marks = length-set marks d.0 true in
    marked-at (slice_set marks d.0 true) names k (omega (arith, count)) ∙ ap (λ b. b || is_among k names) (or_set marks d.0 k within)
    ∙ or_assoc (get_or marks k false) (nat_eq d.0 k) (is_among k names)

-- ---- impls

left : (defs : List DefPart) (i : ℕ) (part : DefPart) (lists : List (List DefId)) → i < length defs → part ≡ get_or defs i part → with_impls lists i (drop i defs) ≡ with_impls (with_impl lists i part) (i + 1) (drop (i + 1) defs)
left defs i part lists within is =
    ap (with_impls lists i) (drop-cons defs i part within) ∙ ap (λ q. with_impls (with_impl lists i q) (i + 1) (drop (suc i) defs)) (sym is)
    ∙ ap (λ k. with_impls (with_impl lists i part) (i + 1) (drop k defs)) (sym (add-one i))

-- a turn of the loop over the definitions
pub impl_each : (defs : List DefPart) (i : ℕ) (part : DefPart) (before after all : List (List DefId)) → i < length defs → part ≡ get_or defs i part → after ≡ with_impl before i part → with_impls before i (drop i defs) ≡ all → with_impls after (i + 1) (drop (i + 1) defs) ≡ all
impl_each defs i part before after all within is more kept = ap (λ lists. with_impls lists (i + 1) (drop (i + 1) defs)) more ∙ sym (left defs i part before within is) ∙ kept

-- the impls of a trait among definitions of which the first has the id n
abbrev impls_from : ℕ → ℕ → List DefPart → List DefId
impls_from k n parts = map (λ one. record { 0 = one.0 }) (filter (λ one. gives (record { 0 = k }) one.1) (enumerate_from n parts))

-- the id of a definition, if it is an impl of the trait
abbrev one_impl : Bool → ℕ → List DefId
one_impl b n = cond b (record { 0 = n } ∷ []) []

impls_from-first : (b : Bool) (n : ℕ) (part : DefPart) (others : List (ℕ × DefPart)) → map (λ one. record { 0 = one.0 }) (cond b ((n, part) ∷ others) others) ≡ one_impl b n ++ map (λ one. record { 0 = one.0 }) others
impls_from-first true n part others = refl
impls_from-first false n part others = refl

-- the list at k after an impl of the trait t was entered
entered : (lists : List (List DefId)) (n t k : ℕ) → k < length lists → get_or (slice_set lists t (get_or lists t [] ++ record { 0 = n } ∷ [])) k [] ≡ get_or lists k [] ++ one_impl (nat_eq t k) n
entered lists n t k within =
    ⊎_elim (λ same. here lists n t k within same.1 same.0)
    (λ apart. get_or-set_other lists t k (get_or lists t [] ++ record { 0 = n } ∷ []) [] (λ e. apart.1 (sym e)) ∙ sym (append-nil (get_or lists k [])) ∙ ap (λ b. get_or lists k [] ++ one_impl b n) (sym apart.0))
    (eqb_tells t k)
  where
    here : (lists : List (List DefId)) (n t k : ℕ) → k < length lists → t ≡ k → nat_eq t k ≡ true → get_or (slice_set lists t (get_or lists t [] ++ record { 0 = n } ∷ [])) k [] ≡ get_or lists k [] ++ one_impl (nat_eq t k) n
    here lists n t k within is test =
        ap (λ j. get_or (slice_set lists j (get_or lists j [] ++ record { 0 = n } ∷ [])) k []) is ∙ get_or-set_same lists k (get_or lists k [] ++ record { 0 = n } ∷ []) [] within
        ∙ ap (λ b. get_or lists k [] ++ one_impl b n) (sym test)

with_head-at : (lists : List (List DefId)) (n k : ℕ) (head : Option Head) → k < length lists
    → get_or (option_map_or (λ head. slice_set lists head.tr.0 (get_or lists head.tr.0 [] ++ record { 0 = n } ∷ [])) head lists) k [] ≡ get_or lists k [] ++ one_impl (option_map_or (λ head. nat_eq head.tr.0 k) head false) n
with_head-at lists n k None within = sym (append-nil (get_or lists k []))
with_head-at lists n k (Some head) within = entered lists n head.tr.0 k within

length-with_head : (lists : List (List DefId)) (n : ℕ) (head : Option Head) → length (option_map_or (λ head. slice_set lists head.tr.0 (get_or lists head.tr.0 [] ++ record { 0 = n } ∷ [])) head lists) ≡ length lists
length-with_head lists n None = refl
length-with_head lists n (Some head) = length-set lists head.tr.0 (get_or lists head.tr.0 [] ++ record { 0 = n } ∷ [])

pub length-with_impls : (lists : List (List DefId)) (n : ℕ) (parts : List DefPart) → length (with_impls lists n parts) ≡ length lists
length-with_impls lists n [] = refl
length-with_impls lists n (part ∷ parts) = length-with_impls (with_impl lists n part) (n + 1) parts ∙ length-with_head lists n part.head

-- the list at k has after the definitions what it had before, and the impls of k among them
pub with_impls-at : (lists : List (List DefId)) (n : ℕ) (parts : List DefPart) (k : ℕ) → k < length lists → get_or (with_impls lists n parts) k [] ≡ get_or lists k [] ++ impls_from k n parts
with_impls-at lists n [] k within = sym (append-nil (get_or lists k []))
with_impls-at lists n (part ∷ parts) k within =
    let count : length (with_impl lists n part) ≡ length lists = length-with_head lists n part.head in
    let b = gives (record { 0 = k }) part in
    with_impls-at (with_impl lists n part) (n + 1) parts k (omega (arith, count)) ∙ ap (λ list. list ++ impls_from k (n + 1) parts) (with_head-at lists n k part.head within)
    ∙ append_assoc (get_or lists k []) (one_impl b n) (impls_from k (n + 1) parts)
    ∙ ap (λ list. get_or lists k [] ++ list) (sym (impls_from-first b n part (filter (λ one. gives (record { 0 = k }) one.1) (enumerate_from (n + 1) parts))))

-- ---- the tables of a program

pub tables_are : (p : Parts) → AreTables p (with_impls (replicate (length p.defs) []) 0 p.defs) (marked (replicate (length p.defs) false) (flat_map named_outside_in p.defs))
tables_are p =
    let n = length p.defs in
    let lists : List (List DefId) = replicate n [] in
    let marks : List Bool = replicate n false in
    let many : length lists ≡ n = length-replicate n [] in
    let marked_many : length marks ≡ n = length-replicate n false in
    record {
      impls_count = length-with_impls lists 0 p.defs ∙ many;
      impls_each = λ d within. with_impls-at lists 0 p.defs d.0 (omega (arith, many)) ∙ ap (λ list. list ++ impls_of p d) (get_or-replicate n d.0 [] [] within);
      named_count = length-marked marks (flat_map named_outside_in p.defs) ∙ marked_many;
      named_each = λ d within. marked-at marks (flat_map named_outside_in p.defs) d.0 (omega (arith, marked_many)) ∙ ap (λ b. b || is_named_outside p d) (get_or-replicate n d.0 false false within);
    }

-- the same of tables that were made from the list of definitions
pub made_tables : (p : Parts) (defs : List DefPart) (impls : List (List DefId)) (named : List Bool) → defs ≡ p.defs → impls ≡ with_impls (replicate (length defs) []) 0 defs → named ≡ marked (replicate (length defs) false) (flat_map named_outside_in defs) → AreTables p impls named
made_tables p defs impls named are by_trait outside =
    let given : impls ≡ with_impls (replicate (length p.defs) []) 0 p.defs = by_trait ∙ ap (λ ds. with_impls (replicate (length ds) []) 0 ds) are in
    let marks : named ≡ marked (replicate (length p.defs) false) (flat_map named_outside_in p.defs) = outside ∙ ap (λ ds. marked (replicate (length ds) false) (flat_map named_outside_in ds)) are in
    subst (λ (made : List (List DefId)). AreTables p made named) (sym given)
    (subst (λ (made : List Bool). AreTables p (with_impls (replicate (length p.defs) []) 0 p.defs) made) (sym marks) (tables_are p))
