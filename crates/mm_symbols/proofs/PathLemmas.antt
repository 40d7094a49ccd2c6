-- The names in a path, where it is a chain of names.
use Rattle.std.proofs.Common.{◌≡◌, ℕ, List, [], ◌∷◌, ◌++◌, Bool, true, false, eqb, codes, refl, sym, ◌∙◌, ap, subst, append-nil, arith}
use Rattle.std.specs.Prelude.{All, flat_map, filter}
use Rattle.std.specs.List.{slice_split, join_by}
use Rattle.std.specs.Str.{chars}
use Rattle.std.proofs.lemmas.Bool.{cond-true}
use Rattle.std.proofs.lemmas.List.Elements.{All-head, All-tail}
use Rattle.std.proofs.lemmas.List.Splits.{slice_split_none, slice_split_at}
use Rattle.mm_names.specs.Names.{IsName}
use Rattle.mm_names.proofs.NameLemmas.{IsName-without}
use Rattle.mm_symbols.specs.SymbolForms.{IsPath}
use Rattle.mm_symbols.specs.ItemForms.{has_some, names_in, IsPathText}

abbrev is_colon : ℕ → Bool
is_colon c = eqb c 58

abbrev NoColon : List ℕ → Type 0
NoColon bytes = All (λ c. is_colon c ≡ false) bytes

name_no_colon : (name : List ℕ) → IsName name → NoColon name
name_no_colon name is = IsName-without 58 (omega arith) refl name is

name_some : (name : List ℕ) → IsName name → has_some name ≡ true
unfolding chars
name_some [] is = absurd is.form
name_some (c ∷ cs) is = refl

-- ---- the names of a chain

separated : List (List ℕ) → List ℕ
separated names = flat_map (λ name. codes "::" ++ name) names

kept : (name : List ℕ) (parts : List (List ℕ)) → IsName name → filter has_some (name ∷ parts) ≡ name ∷ filter has_some parts
kept name parts is = cond-true (has_some name) (name ∷ filter has_some parts) (filter has_some parts) (name_some name is)

chain : (name : List ℕ) (names : List (List ℕ)) → IsName name → All IsName names → filter has_some (slice_split (λ c. eqb c 58) (name ++ separated names)) ≡ name ∷ names
unfolding separated
chain name [] is are =
    ap (λ bytes. filter has_some (slice_split (λ c. eqb c 58) bytes)) (append-nil name)
    ∙ ap (filter has_some) (slice_split_none (λ c. eqb c 58) name (name_no_colon name is))
    ∙ kept name [] is
chain name (next ∷ names) is are =
    let back = next ++ separated names in
    ap (filter has_some) (slice_split_at (λ c. eqb c 58) name 58 (58 ∷ back) (name_no_colon name is) refl)
    ∙ kept name (slice_split (λ c. eqb c 58) (58 ∷ back)) is
    ∙ ap (λ ns. name ∷ ns) (chain next names (All-head IsName next names are) (All-tail IsName next names are))

names_in-joined : (names : List (List ℕ)) → IsPath names → names_in (join_by (λ name. name) (codes "::") names) ≡ names
unfolding names_in separated
names_in-joined [] path = absurd (path.some refl)
names_in-joined (name ∷ names) path = chain name names (All-head IsName name names path.each) (All-tail IsName name names path.each)

-- the names in a path are those that are joined
pub names_in-path : (path : List ℕ) (text : IsPathText path) → names_in path ≡ text.names
names_in-path path text = ap names_in text.is ∙ names_in-joined text.names text.each

pub IsPath-names_in : (path : List ℕ) → IsPathText path → IsPath (names_in path)
IsPath-names_in path text = subst IsPath (sym (names_in-path path text)) text.each

-- paths with the same names are one
pub one_path : (a b : List ℕ) → IsPathText a → IsPathText b → names_in a ≡ names_in b → a ≡ b
one_path a b s t same = s.is ∙ ap (join_by (λ name. name) (codes "::")) (sym (names_in-path a s) ∙ same ∙ names_in-path b t) ∙ sym t.is
