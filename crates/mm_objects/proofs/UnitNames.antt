-- Laws of the names of units.
use Rattle.std.proofs.Common.{◌≡◌, ◌+◌, Bor, drop, drop-cons, add-one, ℕ, zero, suc, ◌<◌, ◌≤◌, Bool, true, false, not, ◌&&◌, eqb, List, [], ◌∷◌, ◌++◌, length, get_or, codes, Option, None, Some, All, lit<, lit≤, refl, sym, ap, ◌∙◌, subst, arith, append_assoc, append-nil, inl, inr}
use Rattle.std.specs.List.{list_all, join_by, join_with_byte, slice_split}
use Rattle.std.specs.Str.{bytes_eq, IsAscii, chars}
use Rattle.std.proofs.lemmas.Bool.{and_parts, or_cases, not-true}
use Rattle.std.proofs.lemmas.List.{drop_all}
use Rattle.std.proofs.lemmas.List.Elements.{All-nil, All-cons, All-head, All-tail, All-append}
use Rattle.std.proofs.lemmas.List.Splits.{slice_split_at, slice_split_none, join_with_byte-slice_split}
use Rattle.std.proofs.lemmas.Option.{cond_some}
use Rattle.std.proofs.lemmas.Str.{IsUtf8-from_ascii, chars-IsAscii}
use Rattle.mm_names.specs.Names.{IsName, IsNameLike}
use Rattle.mm_names.specs.Runs.{word_in, is_name}
use Rattle.mm_names.proofs.NameLemmas.{starts_name-ascii}
use Rattle.mm_names.proofs.NameLemmas.{IsName-without}
use Rattle.mm_names.proofs.WordSpellings.{no_word_spells}
use Rattle.mm_names.proofs.RunLemmas.{is_name-sound, is_name-complete}
use Rattle.mm_symbols.specs.SymbolForms.{IsPath}
use Rattle.mm_objects.specs.ObjectNames.{stability_text, IsUnitName}
use Rattle.mm_objects.specs.ObjectText.{Word}
use Rattle.mm_objects.specs.LineReading.{both_of, is_empty, is_stability, is_path_cut, names_module, names_unit, is_unit_name, unit_name_in}
use Rattle.mm_objects.proofs.PieceLemmas.{seen}
use Rattle.mm_objects.proofs.ReadTools.{Reads, word_is}
use Rattle.mm_objects.proofs.SymbolBytes.{IsClean, joined, name-clean}

-- names, joined
abbrev path_bytes : List (List ℕ) → List ℕ
path_bytes names = join_by (λ name. name) (codes "::") names

abbrev HasNo : ℕ → List ℕ → Type 0
HasNo c bytes = All (λ b. eqb b c ≡ false) bytes

abbrev cut_at : ℕ → List ℕ → List (List ℕ)
cut_at c bytes = slice_split (λ b. eqb b c) bytes

both_words : (ws : List Word) (p : Word × Word) → both_of ws ≡ Some p → ws ≡ p.0 ∷ p.1 ∷ []
both_words [] p h = cc
both_words (v ∷ []) p h = cc
both_words (v ∷ u ∷ []) p h = cc
both_words (v ∷ u ∷ t ∷ vs) p h = cc

-- ---- paths

-- the names in the parts of a path, and that they are the path
pub record IsCut (parts : List Word) : Type 0 where
  pub first : List ℕ
  pub others : List (List ℕ)
  pub each : All IsName (first ∷ others)
  pub is : join_with_byte 58 parts ≡ path_bytes (first ∷ others)

empty_is : (w : Word) → is_empty w ≡ true → w ≡ []
empty_is [] h = refl
empty_is (b ∷ bs) h = absurd (cc)

path_cut-sound : (parts : List Word) → is_path_cut parts ≡ true → IsCut parts
unfolding is_path_cut
path_cut-sound [] h = absurd (cc)
path_cut-sound (n ∷ []) h = record { first = n; others = []; each = All-cons IsName n [] (is_name-sound n h) (All-nil IsName); is = sym (append-nil n) }
path_cut-sound (n ∷ gap ∷ []) h = absurd (cc)
path_cut-sound (n ∷ gap ∷ m ∷ ms) h =
    let p = and_parts (is_name n && is_empty gap) (is_path_cut (m ∷ ms)) h in
    let q = and_parts (is_name n) (is_empty gap) p.0 in
    let r = path_cut-sound (m ∷ ms) p.1 in
    record {
      first = n;
      others = r.first ∷ r.others;
      each = All-cons IsName n (r.first ∷ r.others) (is_name-sound n q.0) r.each;
      is = (λ i. n ++ 58 ∷ (empty_is gap q.1 i ++ 58 ∷ r.is i));
    }

-- one turn of the loop over the parts
pub path_cut-here : (n gap : Word) (parts : List Word) → is_name n ≡ true → is_empty gap ≡ true → is_path_cut (n ∷ gap ∷ parts) ≡ is_path_cut parts
unfolding is_path_cut
path_cut-here n gap [] name empty = refl
path_cut-here n gap (m ∷ ms) name empty = rw (name, empty) refl

pub path_cut-no_name : (n : Word) (parts : List Word) → is_name n ≡ false → is_path_cut (n ∷ parts) ≡ false
unfolding is_path_cut
path_cut-no_name n [] no_name' = no_name'
path_cut-no_name n (gap ∷ []) no_name' = refl
path_cut-no_name n (gap ∷ m ∷ ms) no_name' = rw no_name' refl

pub path_cut-no_gap : (n gap : Word) (parts : List Word) → is_empty gap ≡ false → is_path_cut (n ∷ gap ∷ parts) ≡ false
unfolding is_path_cut
path_cut-no_gap n gap [] full = refl
path_cut-no_gap n gap (m ∷ ms) full = by (is_name n)
  where
    by : (b : Bool) → (b && is_empty gap && is_path_cut (m ∷ ms)) ≡ false
    by true = rw full refl
    by false = refl

-- the same for references, of which the first is the i-th
pub seen-here : (parts : List (Bor Word)) (i : ℕ) (d : Bor Word) → i < length parts → seen (drop i parts) ≡ (get_or parts i d).now ∷ seen (drop (i + 1) parts)
seen-here parts i d within = rw (drop-cons parts i d within, add-one i) refl

pub seen-last : (parts : List (Bor Word)) (i : ℕ) (d : Bor Word) → i + 1 ≡ length parts → seen (drop i parts) ≡ (get_or parts i d).now ∷ []
seen-last parts i d last = seen-here parts i d (omega (arith, last)) ∙ ap (λ l. (get_or parts i d).now ∷ seen l) (drop_all (i + 1) parts (omega (arith, last)))

module _ (whole : Bool) (parts : List (Bor Word)) (i : ℕ) (so_far : whole ≡ is_path_cut (seen (drop i parts))) where
  pub cut-no_name : (d : Bor Word) → i < length parts → is_name (get_or parts i d).now ≡ false → false ≡ whole
  cut-no_name d within none = sym (so_far ∙ ap is_path_cut (seen-here parts i d within) ∙ path_cut-no_name (get_or parts i d).now (seen (drop (i + 1) parts)) none)

  pub cut-last : (d : Bor Word) → i + 1 ≡ length parts → is_name (get_or parts i d).now ≡ true → true ≡ whole
  unfolding is_path_cut
  cut-last d last name = sym (so_far ∙ ap is_path_cut (seen-last parts i d last) ∙ name)

  -- the part behind it
  two-here : (d e : Bor Word) → i + 1 < length parts → seen (drop i parts) ≡ (get_or parts i d).now ∷ (get_or parts (i + 1) e).now ∷ seen (drop (i + 1 + 1) parts)
  two-here d e within = seen-here parts i d (omega (arith, within)) ∙ ap (λ l. (get_or parts i d).now ∷ l) (seen-here parts (i + 1) e within)

  pub cut-no_gap : (e : Bor Word) → i + 1 < length parts → is_empty (get_or parts (i + 1) e).now ≡ false → false ≡ whole
  cut-no_gap e within full = sym (so_far ∙ ap is_path_cut (two-here e e within) ∙ path_cut-no_gap (get_or parts i e).now (get_or parts (i + 1) e).now (seen (drop (i + 1 + 1) parts)) full)

  pub cut-turn : (d e : Bor Word) → i + 1 < length parts → is_name (get_or parts i d).now ≡ true → is_empty (get_or parts (i + 1) e).now ≡ true → whole ≡ is_path_cut (seen (drop (i + 2) parts))
  cut-turn d e within name empty =
      let next : i + 1 + 1 ≡ i + 2 = omega arith in
      so_far ∙ ap is_path_cut (two-here d e within) ∙ path_cut-here (get_or parts i d).now (get_or parts (i + 1) e).now (seen (drop (i + 1 + 1) parts)) name empty ∙ ap (λ n. is_path_cut (seen (drop n parts))) next

  pub cut-end : length parts ≤ i → false ≡ whole
  unfolding is_path_cut
  cut-end past = sym (so_far ∙ ap (λ l. is_path_cut (seen l)) (drop_all i parts past))

-- the parts between the colons of a path
spread : List (List ℕ) → List Word
spread [] = []
spread (n ∷ []) = n ∷ []
spread (n ∷ m ∷ ms) = n ∷ [] ∷ spread (m ∷ ms)

no_colon : (name : List ℕ) → IsName name → HasNo 58 name
no_colon name is = IsName-without 58 (lit< tt) refl name is

no_slash : (name : List ℕ) → IsName name → HasNo 47 name
no_slash name is = IsName-without 47 (lit< tt) refl name is

no_dot : (name : List ℕ) → IsName name → HasNo 46 name
no_dot name is = IsName-without 46 (lit< tt) refl name is

cut-path : (n : List ℕ) (ns : List (List ℕ)) → All IsName (n ∷ ns) → cut_at 58 (path_bytes (n ∷ ns)) ≡ spread (n ∷ ns)
unfolding spread
cut-path n [] all = ap (cut_at 58) (append-nil n) ∙ slice_split_none (λ b. eqb b 58) n (no_colon n (All-head IsName n [] all))
cut-path n (m ∷ ms) all =
    slice_split_at (λ b. eqb b 58) n 58 (58 ∷ path_bytes (m ∷ ms)) (no_colon n (All-head IsName n (m ∷ ms) all)) refl
    ∙ ap (λ l. n ∷ [] ∷ l) (cut-path m ms (All-tail IsName n (m ∷ ms) all))

spread-cut : (n : List ℕ) (ns : List (List ℕ)) → All IsName (n ∷ ns) → is_path_cut (spread (n ∷ ns)) ≡ true
unfolding spread is_path_cut
spread-cut n [] all = is_name-complete n (All-head IsName n [] all)
spread-cut n (m ∷ []) all = rw (is_name-complete n (All-head IsName n (m ∷ []) all)) (spread-cut m [] (All-tail IsName n (m ∷ []) all))
spread-cut n (m ∷ k ∷ ks) all = rw (is_name-complete n (All-head IsName n (m ∷ k ∷ ks) all)) (spread-cut m (k ∷ ks) (All-tail IsName n (m ∷ k ∷ ks) all))

-- what stands in no name, and is no colon, stands in no path
path-without : (d : ℕ) → eqb 58 d ≡ false → ((name : List ℕ) → IsName name → HasNo d name) → (n : List ℕ) (ns : List (List ℕ)) → All IsName (n ∷ ns) → HasNo d (path_bytes (n ∷ ns))
path-without d colon one n [] all = subst (HasNo d) (sym (append-nil n)) (one n (All-head IsName n [] all))
path-without d colon one n (m ∷ ms) all =
    All-append (λ b. eqb b d ≡ false) n (58 ∷ 58 ∷ path_bytes (m ∷ ms)) (one n (All-head IsName n (m ∷ ms) all))
    (All-cons (λ b. eqb b d ≡ false) 58 (58 ∷ path_bytes (m ∷ ms)) colon (All-cons (λ b. eqb b d ≡ false) 58 (path_bytes (m ∷ ms)) colon (path-without d colon one m ms (All-tail IsName n (m ∷ ms) all))))

path-clean : (n : List ℕ) (ns : List (List ℕ)) → All IsName (n ∷ ns) → IsClean (path_bytes (n ∷ ns))
path-clean n [] all = subst IsClean (sym (append-nil n)) (name-clean n (All-head IsName n [] all))
path-clean n (m ∷ ms) all = joined n (58 ∷ 58 ∷ path_bytes (m ∷ ms)) (name-clean n (All-head IsName n (m ∷ ms) all)) (path-clean m ms (All-tail IsName n (m ∷ ms) all))

-- ---- units

stability-is : (w : Word) → is_stability w ≡ true → (stable : Bool) × (w ≡ stability_text stable)
stability-is w h = elim (or_cases (bytes_eq w (codes "stable")) (bytes_eq w (codes "volatile")) h) [ inl e ↦ (true, word_is w (codes "stable") e) | inr e ↦ (false, word_is w (codes "volatile") e) ]

unit-module : (bytes krate unit path word : Word) → IsName krate → bytes ≡ krate ++ 47 ∷ unit → unit ≡ path ++ 46 ∷ word → is_stability word ≡ true → is_path_cut (cut_at 58 path) ≡ true → IsUnitName bytes
unit-module bytes krate unit path word is first second stability names =
    let c = path_cut-sound (cut_at 58 path) names in
    let k = stability-is word stability in
    let whole : path ≡ path_bytes (c.first ∷ c.others) = sym (join_with_byte-slice_split 58 path) ∙ c.is in
    record {
      krate = krate;
      names = c.first ∷ c.others;
      stable = k.0;
      krate_is = is;
      path_is = record { some = λ h. absurd (cc); each = c.each };
      is = first ∙ ap (λ u. krate ++ 47 ∷ u) (second ∙ (λ i. whole i ++ 46 ∷ k.1 i))
          ∙ sym (append_assoc krate (codes "/") (path_bytes (c.first ∷ c.others) ++ 46 ∷ stability_text k.0))
          ∙ sym (append_assoc (krate ++ codes "/") (path_bytes (c.first ∷ c.others)) (46 ∷ stability_text k.0))
          ∙ sym (append_assoc (krate ++ codes "/" ++ path_bytes (c.first ∷ c.others)) (codes ".") (stability_text k.0));
    }

halves : (c : ℕ) (bytes : Word) (p : Word × Word) → both_of (cut_at c bytes) ≡ Some p → bytes ≡ p.0 ++ c ∷ p.1
halves c bytes p h = sym (join_with_byte-slice_split c bytes) ∙ ap (join_with_byte c) (both_words (cut_at c bytes) p h)

module-by : (bytes krate unit : Word) (o : Option (Word × Word)) → both_of (cut_at 46 unit) ≡ o → IsName krate → bytes ≡ krate ++ 47 ∷ unit → names_module o ≡ true → IsUnitName bytes
module-by bytes krate unit None is name whole h = absurd (cc)
module-by bytes krate unit (Some p) is name whole h =
    let t = and_parts (is_stability p.1) (is_path_cut (cut_at 58 p.0)) h in
    unit-module bytes krate unit p.0 p.1 name whole (halves 46 unit p is) t.0 t.1

unit-by : (bytes : Word) (o : Option (Word × Word)) → both_of (cut_at 47 bytes) ≡ o → names_unit o ≡ true → IsUnitName bytes
unit-by bytes None is h = absurd (cc)
unit-by bytes (Some p) is h =
    let t = and_parts (is_name p.0) (names_module (both_of (cut_at 46 p.1))) h in
    module-by bytes p.0 p.1 (both_of (cut_at 46 p.1)) refl (is_name-sound p.0 t.0) (halves 47 bytes p is) t.1

pub unit_name-sound : (bytes : Word) → is_unit_name bytes ≡ true → IsUnitName bytes
unfolding is_unit_name
unit_name-sound bytes h = unit-by bytes (both_of (cut_at 47 bytes)) refl h

-- what a list of literal bytes has not
all_other : (c : ℕ) (bytes : List ℕ) → list_all (λ b. not (eqb b c)) bytes ≡ true → HasNo c bytes
all_other c [] h = All-nil (λ b. eqb b c ≡ false)
all_other c (b ∷ bs) h = let p = and_parts (not (eqb b c)) (list_all (λ b. not (eqb b c)) bs) h in All-cons (λ b. eqb b c ≡ false) b bs (not-true (eqb b c) p.0) (all_other c bs p.1)

stability-no_slash : (stable : Bool) → HasNo 47 (stability_text stable)
stability-no_slash true = all_other 47 (codes "stable") refl
stability-no_slash false = all_other 47 (codes "volatile") refl

stability-no_dot : (stable : Bool) → HasNo 46 (stability_text stable)
stability-no_dot true = all_other 46 (codes "stable") refl
stability-no_dot false = all_other 46 (codes "volatile") refl

stability-reported : (stable : Bool) → is_stability (stability_text stable) ≡ true
stability-reported true = refl
stability-reported false = refl

stability-clean : (stable : Bool) → IsClean (stability_text stable)
stability-clean true = refl
stability-clean false = refl

-- a unit's name is cut at its slash and at its point
module _ (krate n : List ℕ) (ns : List (List ℕ)) (stable : Bool) (krate_is : IsName krate) (each : All IsName (n ∷ ns)) where
  abbrev path : List ℕ
  path = path_bytes (n ∷ ns)

  abbrev unit : List ℕ
  unit = path ++ 46 ∷ stability_text stable

  cut-unit : cut_at 46 unit ≡ path ∷ stability_text stable ∷ []
  cut-unit = slice_split_at (λ b. eqb b 46) path 46 (stability_text stable) (path-without 46 refl no_dot n ns each) refl ∙ ap (λ l. path ∷ l) (slice_split_none (λ b. eqb b 46) (stability_text stable) (stability-no_dot stable))

  unit-no_slash : HasNo 47 unit
  unit-no_slash = All-append (λ b. eqb b 47 ≡ false) path (46 ∷ stability_text stable) (path-without 47 refl no_slash n ns each) (All-cons (λ b. eqb b 47 ≡ false) 46 (stability_text stable) refl (stability-no_slash stable))

  cut-name : cut_at 47 (krate ++ 47 ∷ unit) ≡ krate ∷ unit ∷ []
  cut-name = slice_split_at (λ b. eqb b 47) krate 47 unit (no_slash krate krate_is) refl ∙ ap (λ l. krate ∷ l) (slice_split_none (λ b. eqb b 47) unit unit-no_slash)

  reported : is_unit_name (krate ++ 47 ∷ unit) ≡ true
  unfolding is_unit_name
  reported = rw (cut-name, is_name-complete krate krate_is, cut-unit, stability-reported stable, cut-path n ns each, spread-cut n ns each) refl

  clean : IsClean (krate ++ 47 ∷ unit)
  clean = joined krate (47 ∷ unit) (name-clean krate krate_is) (joined path (46 ∷ stability_text stable) (path-clean n ns each) (stability-clean stable))

  together : krate ++ codes "/" ++ path ++ codes "." ++ stability_text stable ≡ krate ++ 47 ∷ unit
  together =
      append_assoc (krate ++ codes "/" ++ path) (codes ".") (stability_text stable)
      ∙ append_assoc (krate ++ codes "/") path (46 ∷ stability_text stable)
      ∙ append_assoc krate (codes "/") unit

both-laws : (bytes krate : List ℕ) (names : List (List ℕ)) (stable : Bool) → IsName krate → IsPath names → bytes ≡ krate ++ codes "/" ++ path_bytes names ++ codes "." ++ stability_text stable → (is_unit_name bytes ≡ true) × IsClean bytes
both-laws bytes krate [] stable krate_is path_is is = absurd (path_is.some refl)
both-laws bytes krate (n ∷ ns) stable krate_is path_is is =
    let whole = is ∙ together krate n ns stable krate_is path_is.each in
    (ap is_unit_name whole ∙ reported krate n ns stable krate_is path_is.each, subst IsClean (sym whole) (clean krate n ns stable krate_is path_is.each))

pub unit_name-complete : (bytes : Word) → IsUnitName bytes → is_unit_name bytes ≡ true
unit_name-complete bytes is = (both-laws bytes is.krate is.names is.stable is.krate_is is.path_is is.is).0

-- no blank and no line end stands in a name
pub unit_name-graphic : (bytes : Word) → IsUnitName bytes → IsClean bytes
unit_name-graphic bytes is = (both-laws bytes is.krate is.names is.stable is.krate_is is.path_is is.is).1

pub unit_name-reads : Reads IsUnitName (λ s. s) unit_name_in
unfolding unit_name_in
unit_name-reads = record {
  sound = λ w s h. let p = cond_some (is_unit_name w) w s h in (subst IsUnitName p.1 (unit_name-sound w p.0), sym p.1);
  again = λ s is. rw (unit_name-complete s is) refl;
}

-- ---- a unit that there is

a_ascii : IsAscii (codes "a")
a_ascii zero = lit< tt
a_ascii (suc i) = lit< tt

name_a : IsName (codes "a")
unfolding word_in
name_a =
    let none : word_in (codes "a") ≡ None = refl in
    let same : chars (codes "a") ≡ codes "a" = chars-IsAscii (codes "a") a_ascii in
    record {
      utf8 = IsUtf8-from_ascii (codes "a") a_ascii;
      form = subst IsNameLike (sym same) (starts_name-ascii 97 (lit< tt), All-nil _);
      short = lit≤ tt;
      no_word = no_word_spells (codes "a") none;
      no_local = refl;
      no_label = refl;
    }

abbrev pub example_unit : List ℕ
example_unit = codes "a/a.stable"

pub example_unit-is : IsUnitName example_unit
example_unit-is = record {
  krate = codes "a";
  names = codes "a" ∷ [];
  stable = true;
  krate_is = name_a;
  path_is = record { some = λ h. absurd (cc); each = All-cons IsName (codes "a") [] name_a (All-nil IsName) };
  is = refl;
}
